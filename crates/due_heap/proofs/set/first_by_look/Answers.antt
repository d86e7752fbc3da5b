use Rattle.std.proofs.Common.{sym}
use Rattle.due_heap.proofs.Told.{all_armed, looked_more, looked_some, looked_none}
use Rattle.due_heap.proofs.set.first_by_look.Goals as goal

pub loop-id-init : goal.loop-id-init
loop-id-init c = all_armed c.args.moments.now c.args.words.now c.union-rest.result c.args.t.0 c.requires c.union-rest.ensures

pub loop-id-preserved : goal.loop-id-preserved
loop-id-preserved c =
    looked_more c.args.moments.now c.args.t.0 c.in-Some.id c.loop-id.rest c.without-rest.result c.without-rest.ensures.change (sym c.if-is_due.ensures) c.loop-id.invariant

pub returns-then-is_due : goal.returns-then-is_due
returns-then-is_due c = looked_some c.args.moments.now c.args.t.0 c.in-Some.id c.loop-id.rest c.in-Some.ensures.lowest (sym c.if-is_due.ensures) c.loop-id.invariant

pub returns : goal.returns
returns c = looked_none c.args.moments.now c.args.words.now c.args.t.0 c.loop-id.rest c.requires c.in_default.ensures.none c.loop-id.invariant
