-- The next stall of the workload: where it may come, and what it makes of what the tool knows.
use Rattle.std.specs.Prelude.{ℕ, suc, ◌≡◌, ◌/◌, Option, Some, true, slice_get}
use Rattle.sched_model.specs.declared.action.Action.TheVariants.{Stall}
use Rattle.sched_model.specs.declared.work.StallLine.{StallLine}
use Rattle.sched_model.specs.Actions.{home_pool_of_core}
use Rattle.sched_model.specs.Machine.{is_action_enabled}
use Rattle.cpupool.specs.Tool.{Tool}
use Rattle.machine_parts.specs.Told.{Told}
use Rattle.machine_parts.specs.Places.{GoesOn, state_of}

-- the next stall may come in the state that the trail leads to, whose moment is t; this is its line, and the pool of this number has the
-- line's processor, or none has it
pub record IsNextStall (w : Told) (t : ℕ) (line : StallLine) (home : Option ℕ) : Type 0 where
  pub goes : GoesOn w
  pub now : t ≡ (state_of w).now
  pub enabled : is_action_enabled w.input (state_of w) (state_of w).now Stall ≡ true
  pub line_is : slice_get w.input.work.stalls (state_of w).next_stall ≡ Some line
  pub home_is : home_pool_of_core (state_of w) (line.cpu.0 / w.input.config.granularity) ≡ home

-- one stall more is done
abbrev pub one_stall_more : Tool → Tool
one_stall_more tool = record tool { part = record tool.part { next_stall = suc tool.part.next_stall } }
