use Rattle.machine_opening.proofs.Stocking.{room_left}
use Rattle.machine_opening.proofs.spares.fill.Goals as goal

pub give-requires-clause-room : goal.give-requires-clause-room
give-requires-clause-room c = room_left c.args.config.now c.args.kind c.args.count c.loop-i.i c.args.spares.now c.loop-i.spares c.loop-i.invariant c.loop-i-test.true c.requires.room
