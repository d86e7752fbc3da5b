-- What the plain machine keeps for the commands that are still to come.
use Rattle.std.specs.Prelude.{◌≡◌, ◌≤◌, ℕ, List, Option, Some, Ok, slice_get}
use Rattle.sched_model.specs.declared.machine.Machine.{Machine}
use Rattle.sched_model.specs.declared.plan.Plan.{Plan}
use Rattle.sched_model.specs.declared.state.Pool.{Pool}
use Rattle.sched_model.specs.declared.state.State.{State}
use Rattle.sched_model.specs.declared.work.CommandLine.{CommandLine}
use Rattle.sched_model.specs.Machine.{line_verdict}
use Rattle.sched_model.specs.Places.{at_place}
use Rattle.plain_opening.specs.OpeningPool.{spares_of}

-- the pools that the commands from the place n on make stand at their commands' places
abbrev pub HasSpares : Machine → ℕ → List (Option Pool) → Type 0
HasSpares m n spares = (k : ℕ) → n ≤ k → at_place spares k ≡ at_place (spares_of m) k

-- the next command is accepted with this plan
pub record IsAccepted (m : Machine) (s : State) (plan : Plan) : Type 0 where
  pub line : CommandLine
  pub next : slice_get m.work.commands s.next_command ≡ Some line
  pub accepted : line_verdict m s line ≡ Ok plan
