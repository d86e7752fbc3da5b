-- Whether two actions are the same, and whether two events are.
use Rattle.std.specs.Prelude.{Bool}
use Rattle.sched_model.specs.declared.action.Action.{Action}
use Rattle.sched_model.specs.contracts.action.ActionPartialEq.TheImpl as action_eq
use Rattle.sched_model.specs.declared.event.Event.{Event}
use Rattle.sched_model.specs.contracts.event.EventPartialEq.TheImpl as event_eq

-- whether two actions are the same, as their `==` has it
abbrev pub same_action : Action → Action → Bool
same_action = (action_eq.ghosts).eq

-- whether two events are the same in all that their lines print, as their `==` has it
abbrev pub same_event : Event → Event → Bool
same_event = (event_eq.ghosts).eq
