-- The states that the runs of a machine lead to.
use Rattle.std.specs.Prelude.{◌≡◌, false, List}
use Rattle.sched_model.specs.declared.event.Entry.{Entry}
use Rattle.sched_model.specs.declared.machine.Machine.{Machine}
use Rattle.sched_model.specs.declared.state.State.{State}
use Rattle.sched_model.specs.CheckedMachine.{IsChecked}
use Rattle.sched_model.specs.Runs.{IsRun, run_start, after_entries}

-- the entries are a run that leads to the state, and is not over
pub record Reachable (machine : Machine) (state : State) : Type 0 where
  pub entries : List Entry
  pub run : IsRun machine entries
  pub leads : after_entries machine (run_start machine) entries ≡ record { state = state; over = false }

-- the machine has passed the checks, and stands in a state that a run leads to
pub record Stands (machine : Machine) (state : State) : Type 0 where
  pub checked : IsChecked machine
  pub reached : Reachable machine state
