use Rattle.sched_plain.proofs.Bridges.{stands-machine, stands-state}
use Rattle.sched_plain.proofs.first.is_tool_due.Goals as goal

pub is_enabled-requires-clause-machine : goal.is_enabled-requires-clause-machine
is_enabled-requires-clause-machine c = stands-machine c.args.machine.now c.args.state.now c.requires

pub is_enabled-requires-clause-state : goal.is_enabled-requires-clause-state
is_enabled-requires-clause-state c = stands-state c.args.machine.now c.args.state.now c.requires

pub is_enabled-requires-else-is_enabled-clause-machine : goal.is_enabled-requires-else-is_enabled-clause-machine
is_enabled-requires-else-is_enabled-clause-machine c = stands-machine c.args.machine.now c.args.state.now c.requires

pub is_enabled-requires-else-is_enabled-clause-state : goal.is_enabled-requires-else-is_enabled-clause-state
is_enabled-requires-else-is_enabled-clause-state c = stands-state c.args.machine.now c.args.state.now c.requires
