-- A machine, and the state that it stands in.
use Rattle.sched_model.specs.declared.machine.Machine.{Machine}
use Rattle.sched_model.specs.declared.state.State.{State}

pub record Standing : Type 0 where
  pub machine : Machine
  pub state : State
