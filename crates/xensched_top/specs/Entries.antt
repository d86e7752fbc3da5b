-- The entries of a run that are still to come, and how it ends behind them.
use Rattle.std.specs.Prelude.{ℕ, Bool, true, false, List, [], drop, if◌then◌else◌}
use Rattle.engine.specs.OrderedRun.{goes_on}
use Rattle.sched_model.specs.declared.event.Entry.{Entry}
use Rattle.sched_model.specs.declared.machine.Machine.{Machine}
use Rattle.sched_model.specs.declared.state.State.{State}
use Rattle.sched_model.specs.Machine.{ordered_run}
use Rattle.pcpu_threads.specs.declared.ends.RunEnd.{RunEnd}
use Rattle.pcpu_threads.specs.declared.ends.RunEnd.TheVariants as run_end

-- the entries, and how the run ends
pub record Coming : Type 0 where
  pub entries : List Entry
  pub end : RunEnd

-- those of the ordered run from this state on, where so many are left, and none where it is over
abbrev pub ordered_entries : Machine → State → ℕ → Bool → Coming
ordered_entries m s left true = record { entries = []; end = run_end.Finished }
ordered_entries m s left false = record { entries = ordered_run left m s; end = if goes_on left m s then run_end.Full else run_end.Finished }

-- those of a history from this place on
abbrev pub recorded_entries : List Entry → ℕ → RunEnd → Coming
recorded_entries history place end = record { entries = drop place history; end = end }
