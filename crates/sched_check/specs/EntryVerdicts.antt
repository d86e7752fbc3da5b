-- What is answered to an entry, check by check.
use Rattle.sched_base.specs.Numbers.{moment}
use Rattle.std.specs.Prelude.{ℕ, ◌==◌, ◌&&◌, Bool, true, false, Option, Some, None, Result, Ok, Err, if◌then◌else◌}
use Rattle.sched_model.specs.declared.action.Action.{Action}
use Rattle.sched_model.specs.declared.event.Entry.{Entry}
use Rattle.sched_model.specs.declared.event.Event.{Event}
use Rattle.sched_model.specs.declared.event.Event.TheVariants as event
use Rattle.sched_model.specs.declared.machine.Machine.{Machine}
use Rattle.sched_model.specs.declared.state.State.{State}
use Rattle.sched_model.specs.Machine.{is_action_enabled, first_enabled_action, event_of, next_in_horizon}
use Rattle.sched_model.specs.Runs.{Reached, event_action, named_next_moment, action_entry}
use Rattle.sched_check.specs.declared.refusal.NotStep.{NotStep}
use Rattle.sched_check.specs.declared.refusal.NotStep.TheVariants as no
use Rattle.sched_check.specs.Same.{same_action, same_event}

-- the number that tells a stall or a command from those that are not next: the processor of a stall, the number of a command; the others
-- are told by their action, which names their subject
abbrev pub event_number : Event → ℕ
event_number (event.Stall p until) = p.0
event_number (event.Xl k answer) = k
event_number _ = 0

-- whether the event has the subject of the action that it would be, as that comes now
abbrev pub has_subject : Machine → State → Event → Action → Bool
has_subject m s e action = event_number e == event_number (event_of m s s.now action)

-- whether the moment that is named, if one is, is this one
abbrev pub is_named : Option ℕ → ℕ → Bool
is_named None next = false
is_named (Some named) next = named == next

-- the answer to an End or a Finish, by the moment that an End names, the first action that may come now, and the next moment within
-- the horizon: an action is to come first; another End is due; the Finish is due; or it is the one that is due
abbrev pub quiet_verdict : Machine → State → Option ℕ → Option Action → Option ℕ → Result (Unit {0}) NotStep
quiet_verdict m s named (Some first) next = Err (no.NotQuiet (action_entry m s first))
quiet_verdict m s named None (Some next) = if is_named named next then Ok tt else Err (no.EndAt (moment next))
quiet_verdict m s (Some named) None None = Err no.FinishDue
quiet_verdict m s None None None = Ok tt

-- the answer to the printed fields: they are those of the effect, or not
abbrev pub fields_verdict : Machine → State → Event → Action → Result (Unit {0}) NotStep
fields_verdict m s e action = if same_event e (event_of m s s.now action) then Ok tt else Err (no.Differs (action_entry m s action))

-- the answer to whether the action, which may come, is the first that may: there is none, or another one is, or it is
abbrev pub first_refusal : Machine → State → Action → Option Action → Result (Unit {0}) NotStep
first_refusal m s action None = Err no.NotEnabled
first_refusal m s action (Some first) = if same_action first action then Ok tt else Err (no.NotFirst (action_entry m s first))

-- the same, where that is asked for; where it is not, any may come
abbrev pub turn_refusal : Bool → Machine → State → Action → Result (Unit {0}) NotStep
turn_refusal false m s action = Ok tt
turn_refusal true m s action = first_refusal m s action (first_enabled_action m s s.now)

-- the answer to the event of an action that may come: it is not its turn, or the fields decide
abbrev pub due_verdict : Bool → Machine → State → Event → Action → Result (Unit {0}) NotStep
due_verdict ordered m s e action = elim (turn_refusal ordered m s action) [ Err refusal ↦ Err refusal | Ok turn ↦ fields_verdict m s e action ]

-- the answer to the event of an action: nothing with its kind and subject may come, or the others decide
abbrev pub action_verdict : Bool → Machine → State → Event → Action → Result (Unit {0}) NotStep
action_verdict ordered m s e action =
    if is_action_enabled m s s.now action && has_subject m s e action then due_verdict ordered m s e action else Err no.NotEnabled

-- the answer to an event, with the action that it would be
abbrev pub event_verdict : Bool → Machine → State → Event → Option Action → Result (Unit {0}) NotStep
event_verdict ordered m s e None = quiet_verdict m s (named_next_moment e) (first_enabled_action m s s.now) (next_in_horizon m s)
event_verdict ordered m s e (Some action) = action_verdict ordered m s e action

-- the answer to an entry after a run that is not over: it is not of this moment, or its event decides
abbrev pub moment_verdict : Bool → Machine → State → Entry → Result (Unit {0}) NotStep
moment_verdict ordered m s entry = if entry.at.0 == s.now then event_verdict ordered m s entry.event (event_action entry.event) else Err (no.Moment (moment s.now))

-- the answer to an entry: the run is over, or the moment decides
abbrev pub verdict_of : Machine → Bool → Reached → Entry → Result (Unit {0}) NotStep
verdict_of m ordered from entry = if from.over then Err no.AfterFinish else moment_verdict ordered m from.state entry

-- whether it is the end of the run
abbrev pub is_run_end : Event → Bool
is_run_end event.Finish = true
is_run_end _ = false
