use Rattle.sched_plain.proofs.Bridges.{stands-machine, stands-state}
use Rattle.sched_plain.proofs.plain.Plain.is_enabled.Goals as goal

pub is_enabled-requires-clause-machine : goal.is_enabled-requires-clause-machine
is_enabled-requires-clause-machine c = stands-machine c.self.inside.machine c.self.inside.state c.self.invariant.0

pub is_enabled-requires-clause-state : goal.is_enabled-requires-clause-state
is_enabled-requires-clause-state c = stands-state c.self.inside.machine c.self.inside.state c.self.invariant.0
