use Rattle.std.proofs.Common.{refl}
use Rattle.sched_model.specs.declared.event.Entry.{Entry}
use Rattle.sched_model.specs.declared.event.Event.TheVariants as event
use Rattle.hall.proofs.Resting.{finish-next, finish-now, kept-quiet, locks-quiet, placed-quiet}
use Rattle.hall.proofs.whole.finish.Goals as goal

pub add_and_put_back-requires-clause-next : goal.add_and_put_back-requires-clause-next
add_and_put_back-requires-clause-next c = finish-next c.args.set.now c.args.book c.args.seat.now c.requires.has c.requires.current c.args.t c.requires.now c.requires.goes c.requires.nothing c.requires.last

pub add_and_put_back-requires-clause-kept : goal.add_and_put_back-requires-clause-kept
add_and_put_back-requires-clause-kept c =
    let e : Entry = record { at = c.args.t; event = event.Finish } in
    kept-quiet c.args.set.now c.args.book c.args.seat.now c.requires.has c.requires.current c.args.t c.requires.now e refl

pub add_and_put_back-requires-clause-placed : goal.add_and_put_back-requires-clause-placed
add_and_put_back-requires-clause-placed c =
    let e : Entry = record { at = c.args.t; event = event.Finish } in
    placed-quiet c.args.set.now c.args.book c.args.seat.now c.requires.has c.requires.current c.args.t c.requires.now e refl c.args.seat.now.view.now
    (finish-now c.args.set.now c.args.book c.args.seat.now c.requires.has c.requires.current c.args.t c.requires.now)

pub returns-clause-locks : goal.returns-clause-locks
returns-clause-locks c =
    let e : Entry = record { at = c.args.t; event = event.Finish } in
    locks-quiet c.args.set.now c.args.book c.args.seat.now c.requires.has c.requires.current c.args.t c.requires.now e refl c.args.seat.now.view.now c.add_and_put_back.new.seat.view c.add_and_put_back.ensures.knows
