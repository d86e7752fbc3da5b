-- The moment of a run does not fall.
use Rattle.sched_laws.proofs.Ready.{next_later}
use Rattle.std.proofs.Common.{◌≡◌, ◌≤◌, ℕ, arith}
use Rattle.std.specs.Prelude.{Option, Some, None}
use Rattle.sched_model.specs.declared.event.Event.{Event}
use Rattle.sched_model.specs.declared.event.Entry.{Entry}
use Rattle.sched_model.specs.declared.machine.Machine.{Machine}
use Rattle.sched_model.specs.declared.action.Action.{Action}
use Rattle.sched_model.specs.Machine.{next_in_horizon}
use Rattle.sched_model.specs.Runs.{Reached, event_action, named_next_moment, after_quiet, after_event, after_entry, IsNext, IsNextEvent}
use Rattle.sched_laws.proofs.Free.{now_after}

quiet_goes : (m : Machine) (end : Option ℕ) (from : Reached) → next_in_horizon m from.state ≡ end → from.state.now ≤ (after_quiet end from).state.now
quiet_goes m None from is = omega arith
quiet_goes m (Some n) from is = next_later m from.state n is

event_goes : (m : Machine) (e : Event) (action : Option Action) (from : Reached) → IsNextEvent m from.state e action → from.state.now ≤ (after_event m e action from).state.now
event_goes m e None from next = quiet_goes m (named_next_moment e) from next.1
event_goes m e (Some action) from next = (let same = now_after m from.state from.state.now action in omega (arith, same))

pub time_goes_on : (m : Machine) (from : Reached) (entry : Entry) → IsNext m from entry → from.state.now ≤ (after_entry m from entry).state.now
time_goes_on m from entry next = event_goes m entry.event (event_action entry.event) from next.event
