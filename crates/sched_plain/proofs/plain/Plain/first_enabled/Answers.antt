use Rattle.std.proofs.Common.{◌≡◌, subst}
use Rattle.sched_model.specs.Machine.{first_enabled_action}
use Rattle.sched_model.specs.Standing.{Standing}
use Rattle.sched_plain.proofs.Bridges.{stands-machine, stands-state}
use Rattle.sched_plain.proofs.plain.Plain.first_enabled.Goals as goal

pub first_enabled-requires-clause-machine : goal.first_enabled-requires-clause-machine
first_enabled-requires-clause-machine c = stands-machine c.self.inside.machine c.self.inside.state c.self.invariant.0

pub first_enabled-requires-clause-state : goal.first_enabled-requires-clause-state
first_enabled-requires-clause-state c = stands-state c.self.inside.machine c.self.inside.state c.self.invariant.0

pub returns : goal.returns
returns c = subst (λ (v : Standing). c.first_enabled.result ≡ first_enabled_action v.machine v.state v.state.now) c.self.view_is c.first_enabled.ensures
