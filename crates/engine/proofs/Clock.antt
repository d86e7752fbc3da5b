-- Where an action leads, as the definitions say.
use Rattle.std.proofs.Common.{◌≡◌, ◌∙◌, ℕ, true, ap, ap₂}
use Rattle.sched_base.specs.Numbers.{moment}
use Rattle.sched_model.specs.declared.action.Action.{Action}
use Rattle.sched_model.specs.declared.event.Event.{Event}
use Rattle.sched_model.specs.declared.event.Entry.{Entry}
use Rattle.sched_model.specs.declared.machine.Machine.{Machine}
use Rattle.sched_model.specs.declared.state.State.{State}
use Rattle.sched_model.specs.Machine.{is_action_enabled, event_of, after}
use Rattle.sched_laws.proofs.Free.{now_after}
use Rattle.machine_parts.specs.Told.{Told, told_more}
use Rattle.machine_parts.specs.Places.{GoesOn, state_of}
use Rattle.machine_parts.proofs.Going.{entry-is, state-on}
use Rattle.engine.specs.EngineState.{standing_of}
use Rattle.sched_model.specs.Standing.{Standing}

-- where a trail leads with the entry of an action
module _ (w new : Told) (goes : GoesOn w) (action : Action) (on : is_action_enabled w.input (state_of w) (state_of w).now action ≡ true) (t : ℕ) (now : t ≡ (state_of w).now) (event : Event) (ev : event ≡ event_of w.input (state_of w) (state_of w).now action) where
  abbrev done : Entry
  done = record { at = moment t; event = event }

  state-done : state_of (told_more w done) ≡ after w.input (state_of w) (state_of w).now action
  state-done = state-on w goes action on done (entry-is w action done (ap moment now) ev)

  pub now-done : (state_of (told_more w done)).now ≡ (state_of w).now
  now-done = ap (λ (s : State). s.now) state-done ∙ now_after w.input (state_of w) (state_of w).now action

  pub standing-done : new ≡ told_more w done → standing_of new ≡ record { machine = w.input; state = after w.input (state_of w) (state_of w).now action }
  standing-done is = ap₂ (λ (m : Machine) (s : State). let x : Standing = record { machine = m; state = s } in x) (ap (λ (x : Told). x.input) is) (ap state_of is ∙ state-done)
