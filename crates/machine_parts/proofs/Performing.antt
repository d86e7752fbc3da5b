-- What the first action is, what an event is of, and what a later moment leaves as it was.
use Rattle.std.proofs.Common.{◌≡◌, ◌≤◌, ℕ, true, arith}
use Rattle.std.specs.Option.{ForSome}
use Rattle.std.specs.Prelude.{Option, Some}
use Rattle.sched_model.specs.declared.action.Action.{Action}
use Rattle.sched_model.specs.declared.action.Action.TheVariants.{Stall, Xl, Moved, DomMoved}
use Rattle.sched_model.specs.declared.machine.Machine.{Machine}
use Rattle.sched_model.specs.declared.state.State.{State}
use Rattle.sched_model.specs.Actions.{IsOfPool, candidates, home_pool_of_action}
use Rattle.sched_model.specs.Machine.{is_action_enabled, first_enabled_action}
use Rattle.sched_model.proofs.RunLemmas.{find_passes}
use Rattle.pool_core.specs.Seen.{Seen}
use Rattle.machine_parts.specs.Places.{SlotSuits}
use Rattle.machine_parts.specs.Parts.{event_pool}

-- the first action may come
pub first-comes : (m : Machine) (s : State) (action : Action) → first_enabled_action m s s.now ≡ Some action → is_action_enabled m s s.now action ≡ true
first-comes m s action first = find_passes (is_action_enabled m s s.now) (candidates m.config) action first

-- an event that is of a pool is none of the tool's, and its home is that pool
pub own-event : (g : ℕ) (s : State) (action : Action) (i : ℕ) → event_pool g s action ≡ Some i → IsOfPool action × (home_pool_of_action g s action ≡ Some i)
own-event g s Stall i is = absurd (cc)
own-event g s Xl i is = absurd (cc)
own-event g s (Moved r) i is = absurd (cc)
own-event g s (DomMoved d) i is = absurd (cc)
own-event g s action i is = (tt, is)

-- what suits a moment suits a later one
pub slot-later : (m : Machine) (now later : ℕ) (slot : Option Seen) → now ≤ later → ForSome slot (SlotSuits m now) → ForSome slot (SlotSuits m later)
slot-later m now later slot past suits seen at = (let is = suits seen at in let latest = is.latest in record { granularity = is.granularity; latest = omega (arith, latest, past) })
