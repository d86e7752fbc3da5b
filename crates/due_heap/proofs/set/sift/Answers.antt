use Rattle.due_heap.proofs.Told.{bound_more, come_more, not_come_yet}
use Rattle.due_heap.proofs.set.sift.Goals as goal

pub sift_one-requires-clause-new : goal.sift_one-requires-clause-new
sift_one-requires-clause-new c = not_come_yet c.args.moments.now c.args.t.0 c.args.set c.in-Some.id c.loop-id.rest c.loop-id.sifted.come c.in-Some.ensures.lowest c.loop-id.invariant.come

pub loop-id-preserved : goal.loop-id-preserved
loop-id-preserved c = record {
  come = come_more c.args.moments.now c.args.t.0 c.args.set c.in-Some.id c.loop-id.rest c.without-rest.result c.loop-id.sifted.come c.sift_one.new.sifted.come c.in-Some.ensures.lowest c.without-rest.ensures.change
      c.sift_one.ensures.come c.loop-id.invariant.come;
  soon = bound_more c.args.moments.now c.args.t.0 c.args.set c.in-Some.id c.loop-id.rest c.without-rest.result c.loop-id.sifted c.sift_one.new.sifted c.without-rest.ensures.change c.sift_one.ensures c.loop-id.invariant.soon;
}

pub returns-clause-soon : goal.returns-clause-soon
returns-clause-soon c = λ id at has armed after. c.loop-id.invariant.soon id at has (c.in_default.ensures.none id) armed after
