use Rattle.sched_plain.proofs.Bridges.{stands-machine, stands-state}
use Rattle.std.proofs.Common.{◌≡◌, subst, sym}
use Rattle.sched_model.specs.declared.state.State.{State}
use Rattle.sched_model.specs.Machine.{first_enabled_action}
use Rattle.sched_plain.specs.ReachedStates.{Stands}
use Rattle.sched_plain.proofs.first.first_by_guess.Goals as goal

pub first_enabled-requires-clause-machine : goal.first_enabled-requires-clause-machine
first_enabled-requires-clause-machine c = stands-machine c.args.machine.now c.args.state.now c.requires.stands

pub first_enabled-requires-clause-state : goal.first_enabled-requires-clause-state
first_enabled-requires-clause-state c = stands-state c.args.machine.now c.is_known_first.new.state (subst (Stands c.args.machine.now) (sym c.is_known_first.ensures.state) c.requires.stands)

pub returns-else-is_known_first-clause-first : goal.returns-else-is_known_first-clause-first
returns-else-is_known_first-clause-first c = subst (λ (s : State). c.first_enabled.result ≡ first_enabled_action c.args.machine.now s s.now) c.is_known_first.ensures.state c.first_enabled.ensures
