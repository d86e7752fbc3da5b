-- The state after an entry.
use Rattle.std.specs.Prelude.{false}
use Rattle.sched_model.specs.declared.event.Entry.{Entry}
use Rattle.sched_model.specs.declared.machine.Machine.{Machine}
use Rattle.sched_model.specs.declared.state.State.{State}
use Rattle.sched_model.specs.Runs.{after_entry}

-- the state after an entry that comes next
abbrev pub state_after : Machine → State → Entry → State
state_after m s entry = (after_entry m (record { state = s; over = false }) entry).state
