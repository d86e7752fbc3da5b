use Rattle.sched_laws.proofs.Lists.{some_is}
use Rattle.tool_actions.proofs.carrying.set_units.Goals as goal

pub set_units-requires-clause-given : goal.set_units-requires-clause-given
set_units-requires-clause-given c some = (let there = some_is c.args.slot.now c.requires.some in (c.requires.takes there.0 there.1).given some)
