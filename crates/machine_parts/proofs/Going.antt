-- Where a trail leads, and one entry on.
use Rattle.std.proofs.Common.{◌≡◌, ◌≤◌, ◌∙◌, ℕ, true, [], ◌∷◌, ◌++◌, refl, sym, ap, ap₂, subst, arith}
use Rattle.sched_base.specs.Numbers.{moment}
use Rattle.sched_model.specs.declared.action.Action.{Action}
use Rattle.sched_model.specs.declared.event.Entry.{Entry}
use Rattle.sched_model.specs.declared.machine.Machine.{Machine}
use Rattle.sched_model.specs.declared.state.State.{State}
use Rattle.sched_model.specs.CheckedMachine.{most_span}
use Rattle.sched_model.specs.Machine.{is_action_enabled, event_of, after}
use Rattle.sched_model.specs.Runs.{Reached, IsNext, run_start, after_entry}
use Rattle.sched_model.proofs.RunLemmas.{after_entries-append, IsRunFrom-append, IsNext-action, after_entry-action}
use Rattle.state_ranges.specs.Ranges.{StateInRange}
use Rattle.state_ranges.proofs.Done.{in_range}
use Rattle.journal_core.specs.Parts.{part_of}
use Rattle.journal_core.specs.Histories.{reached_by, part_at, now_at}
use Rattle.machine_parts.specs.Told.{Told, told_more}
use Rattle.machine_parts.specs.Places.{GoesOn, state_of}
use Rattle.sched_model.specs.Runs.{open_at}

-- the folded words, opened
pub state_of-is : (w : Told) → state_of w ≡ (reached_by w.input w.history).state
unfolding state_of
state_of-is w = refl

pub part_of-is : (w : Told) (k : ℕ) → part_at w.input w.history k ≡ part_of (state_of w) k
unfolding state_of part_at
part_of-is w k = refl

pub now_of-is : (w : Told) → now_at w.input w.history ≡ (state_of w).now
unfolding state_of now_at
now_of-is w = refl

-- the run is there, and not over
pub leads-to : (w : Told) → GoesOn w → reached_by w.input w.history ≡ open_at (state_of w)
leads-to w goes =
    ap (λ b. let r : Reached = record { state = (reached_by w.input w.history).state; over = b } in r) goes.goes ∙ ap open_at (sym (state_of-is w))

-- its numbers are in range
pub range-of : (w : Told) → GoesOn w → StateInRange w.input (state_of w)
range-of w goes = subst (StateInRange w.input) (sym (state_of-is w)) (in_range w.input goes.checked w.history goes.run)

pub early : (w : Told) → GoesOn w → (state_of w).now ≤ most_span
early w goes = (let now = (range-of w goes).now in let last = goes.checked.config.horizon.most in omega (arith, now, last))

-- one entry on
module _ (w : Told) (goes : GoesOn w) (action : Action) (on : is_action_enabled w.input (state_of w) (state_of w).now action ≡ true) (e : Entry) (is : e ≡ record { at = moment (state_of w).now; event = event_of w.input (state_of w) (state_of w).now action }) where
  abbrev m : Machine
  m = w.input

  abbrev s : State
  s = state_of w

  pub comes-next : IsNext m (reached_by m w.history) e
  comes-next = subst (λ (r : Reached). IsNext m r e) (sym (leads-to w goes)) (subst (IsNext m (open_at s)) (sym is) (IsNext-action m s action on))

  leads-on : reached_by m (w.history ++ e ∷ []) ≡ open_at (after m s s.now action)
  leads-on = after_entries-append m (run_start m) w.history e ∙ ap (λ (r : Reached). after_entry m r e) (leads-to w goes) ∙ ap (after_entry m (open_at s)) is ∙ after_entry-action m s action

  pub goes-on : GoesOn (told_more w e)
  goes-on = record { checked = goes.checked; run = IsRunFrom-append m (run_start m) w.history e goes.run comes-next; goes = ap (λ (r : Reached). r.over) leads-on }

  pub state-on : state_of (told_more w e) ≡ after m s s.now action
  state-on = state_of-is (told_more w e) ∙ ap (λ (r : Reached). r.state) leads-on

-- an entry of that moment and that event
pub entry-is : (w : Told) (action : Action) (e : Entry) → e.at ≡ moment (state_of w).now → e.event ≡ event_of w.input (state_of w) (state_of w).now action
    → e ≡ record { at = moment (state_of w).now; event = event_of w.input (state_of w) (state_of w).now action }
entry-is w action e at event = ap₂ (λ a v. let x : Entry = record { at = a; event = v } in x) at event
