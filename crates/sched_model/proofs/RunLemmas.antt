-- A run grows by an entry at its end, and the ordered run is a run.
use Rattle.std.proofs.Common.{◌≡◌, ℕ, zero, suc, Bool, true, false, List, [], ◌∷◌, ◌++◌, refl, subst, sym}
use Rattle.std.specs.Prelude.{Some, None, find, cond}
use Rattle.sched_model.specs.declared.event.Event.TheVariants as event
use Rattle.sched_model.specs.declared.event.Entry.{Entry}
use Rattle.sched_base.specs.Numbers.{moment}
use Rattle.sched_model.specs.State.{Machine, State}
use Rattle.sched_model.specs.Pool.{Action}
use Rattle.sched_model.specs.declared.action.Action.TheVariants.{Stall, Xl, Moved, DomMoved, Wake, Block, Slice, Repl, Refill, Arrive, Decide, Leave, Save}
use Rattle.sched_model.specs.Machine.{is_action_enabled, first_enabled_action, event_of, after, next_in_horizon, ordered_run}
use Rattle.sched_model.specs.Actions.{candidates}
use Rattle.sched_model.specs.Runs.{Reached, event_action, IsNext, IsRunFrom, after_entry, after_entries}

-- where the run has come to after the entries and one more
pub after_entries-append : (m : Machine) (from : Reached) (entries : List Entry) (entry : Entry) → after_entries m from (entries ++ entry ∷ []) ≡ after_entry m (after_entries m from entries) entry
after_entries-append m from [] entry = refl
after_entries-append m from (first ∷ entries) entry = after_entries-append m (after_entry m from first) entries entry

-- a run goes on by an entry that may come next
pub IsRunFrom-append : (m : Machine) (from : Reached) (entries : List Entry) (entry : Entry) → IsRunFrom m from entries → IsNext m (after_entries m from entries) entry → IsRunFrom m from (entries ++ entry ∷ [])
IsRunFrom-append m from [] entry run next = (next, tt)
IsRunFrom-append m from (first ∷ entries) entry run next = (run.0, IsRunFrom-append m (after_entry m from first) entries entry run.1 next)

-- the event of an action has the action's kind and subject
pub action_of-event_of : (m : Machine) (s : State) (t : ℕ) (action : Action) → event_action (event_of m s t action) ≡ Some action
action_of-event_of m s t Stall = refl
action_of-event_of m s t Xl = refl
action_of-event_of m s t (Moved r) = refl
action_of-event_of m s t (DomMoved d) = refl
action_of-event_of m s t (Wake v) = refl
action_of-event_of m s t (Block p) = refl
action_of-event_of m s t (Slice r) = refl
action_of-event_of m s t (Repl u) = refl
action_of-event_of m s t (Refill d) = refl
action_of-event_of m s t (Arrive p) = refl
action_of-event_of m s t (Decide r) = refl
action_of-event_of m s t (Leave p) = refl
action_of-event_of m s t (Save r) = refl

-- the element that is found passes the test
pub find_passes : {X : Type 0} (test : X → Bool) (xs : List X) (x : X) → find test xs ≡ Some x → test x ≡ true
find_passes test [] x found = cc
find_passes {X} test (y ∷ ys) x found =
    elim (test y) as (λ b. test y ≡ b → cond b (Some y) (find test ys) ≡ Some x → test x ≡ true) [
      | true ↦ λ is h. cc
      | false ↦ λ is h. find_passes test ys x h
    ] refl found

-- an enabled action's event may come next
pub IsNext-action : (m : Machine) (s : State) (action : Action) → is_action_enabled m s s.now action ≡ true → IsNext m (record { state = s; over = false }) (record { at = moment s.now; event = event_of m s s.now action })
IsNext-action m s action on = record { goes_on = refl; moment = refl; event = rw action_of-event_of (on, refl) }

-- and leads to the state after the action
pub after_entry-action : (m : Machine) (s : State) (action : Action) → after_entry m (record { state = s; over = false }) (record { at = moment s.now; event = event_of m s s.now action }) ≡ record { state = after m s s.now action; over = false }
after_entry-action m s action = rw action_of-event_of

-- the ordered run is a run
pub ordered_run-IsRunFrom : (entries : ℕ) (m : Machine) (s : State) → IsRunFrom m (record { state = s; over = false }) (ordered_run entries m s)
ordered_run-IsRunFrom zero m s = tt
ordered_run-IsRunFrom (suc n) m s =
    elim (first_enabled_action m s s.now) as (λ o. first_enabled_action m s s.now ≡ o → IsRunFrom m (record { state = s; over = false }) (elim o [
      | Some action ↦ record { at = moment s.now; event = event_of m s s.now action } ∷ ordered_run n m (after m s s.now action)
      | None ↦ elim (next_in_horizon m s) [
        | Some next ↦ record { at = moment s.now; event = event.End (moment next) } ∷ ordered_run n m (record s { now = next })
        | None ↦ record { at = moment s.now; event = event.Finish } ∷ []
      ]
    ])) [
      | Some action ↦ λ is. (
        IsNext-action m s action (find_passes (is_action_enabled m s s.now) (candidates m.config) action is),
        subst (λ from. IsRunFrom m from (ordered_run n m (after m s s.now action))) (sym (after_entry-action m s action)) (ordered_run-IsRunFrom n m (after m s s.now action)),
      )
      | None ↦ λ is. elim (next_in_horizon m s) as (λ o. next_in_horizon m s ≡ o → IsRunFrom m (record { state = s; over = false }) (elim o [
        | Some next ↦ record { at = moment s.now; event = event.End (moment next) } ∷ ordered_run n m (record s { now = next })
        | None ↦ record { at = moment s.now; event = event.Finish } ∷ []
      ])) [
        | Some next ↦ λ at. (record { goes_on = refl; moment = refl; event = (is, at) }, ordered_run-IsRunFrom n m (record s { now = next }))
        | None ↦ λ at. (record { goes_on = refl; moment = refl; event = (is, at) }, tt)
      ] refl
    ] refl
