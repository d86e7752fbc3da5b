-- The parts of a run, and where an ordered run ends.
use Rattle.std.proofs.Common.{◌≡◌, ℕ, zero, suc, ◌<◌, true, false, List, [], ◌∷◌, ◌++◌, refl, subst, sym, arith, length}
use Rattle.std.specs.Prelude.{Some, None}
use Rattle.sched_base.specs.Numbers.{moment}
use Rattle.sched_model.specs.declared.event.Event.TheVariants as event
use Rattle.sched_model.specs.declared.event.Entry.{Entry}
use Rattle.sched_model.specs.declared.machine.Machine.{Machine}
use Rattle.sched_model.specs.declared.state.State.{State}
use Rattle.sched_model.specs.Machine.{first_enabled_action, event_of, after, next_in_horizon, ordered_run}
use Rattle.sched_model.specs.Runs.{Reached, IsRun, IsRunFrom, IsNext, run_start, after_entry, after_entries}
use Rattle.sched_model.proofs.RunLemmas.{IsRunFrom-append, after_entry-action}
use Rattle.run_laws.specs.RunLaws.{GoesOn}

IsRunFrom-beginning : (m : Machine) (from : Reached) (first rest : List Entry) → IsRunFrom m from (first ++ rest) → IsRunFrom m from first
IsRunFrom-beginning m from [] rest run = tt
IsRunFrom-beginning m from (entry ∷ first) rest run = (run.0, IsRunFrom-beginning m (after_entry m from entry) first rest run.1)

IsNext-last : (m : Machine) (from : Reached) (entries : List Entry) (entry : Entry) → IsRunFrom m from (entries ++ entry ∷ []) → IsNext m (after_entries m from entries) entry
IsNext-last m from [] entry run = run.0
IsNext-last m from (first ∷ entries) entry run = IsNext-last m (after_entry m from first) entries entry run.1

pub run-beginning : (m : Machine) (first rest : List Entry) → IsRun m (first ++ rest) → IsRun m first
run-beginning m first rest run = IsRunFrom-beginning m (run_start m) first rest run

pub run-goes_on : (m : Machine) (entries : List Entry) (entry : Entry) → IsRun m (entries ++ entry ∷ []) → GoesOn m entries entry
run-goes_on m entries entry run = record { run = run-beginning m entries (entry ∷ []) run; next = IsNext-last m (run_start m) entries entry run }

pub goes_on-run : (m : Machine) (entries : List Entry) (entry : Entry) → GoesOn m entries entry → IsRun m (entries ++ entry ∷ [])
goes_on-run m entries entry h = IsRunFrom-append m (run_start m) entries entry h.run h.next

-- an ordered run that needs fewer entries than it is allowed is over
pub ordered_run-over : (most : ℕ) (m : Machine) (s : State) → length (ordered_run most m s) < most → (after_entries m (record { state = s; over = false }) (ordered_run most m s)).over ≡ true
ordered_run-over zero m s short = absurd (omega (arith, short))
ordered_run-over (suc n) m s short =
    elim (first_enabled_action m s s.now) as (λ o. let entries : List Entry = elim o [
      | Some action ↦ record { at = moment s.now; event = event_of m s s.now action } ∷ ordered_run n m (after m s s.now action)
      | None ↦ elim (next_in_horizon m s) [
        | Some next ↦ record { at = moment s.now; event = event.End (moment next) } ∷ ordered_run n m (record s { now = next })
        | None ↦ record { at = moment s.now; event = event.Finish } ∷ []
      ]
    ] in length entries < suc n → (after_entries m (record { state = s; over = false }) entries).over ≡ true) [
      | Some action ↦ λ less. subst (λ (from : Reached). (after_entries m from (ordered_run n m (after m s s.now action))).over ≡ true) (sym (after_entry-action m s action)) (ordered_run-over n m (after m s s.now action) (omega (arith, less)))
      | None ↦ elim (next_in_horizon m s) as (λ o. let entries : List Entry = elim o [
        | Some next ↦ record { at = moment s.now; event = event.End (moment next) } ∷ ordered_run n m (record s { now = next })
        | None ↦ record { at = moment s.now; event = event.Finish } ∷ []
      ] in length entries < suc n → (after_entries m (record { state = s; over = false }) entries).over ≡ true) [
        | Some next ↦ λ less. ordered_run-over n m (record s { now = next }) (omega (arith, less))
        | None ↦ λ less. refl
      ]
    ] short
