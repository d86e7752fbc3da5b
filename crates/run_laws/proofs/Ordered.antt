-- The runs that take the first action each time are the ordered run and its beginnings.
use Rattle.std.proofs.Common.{◌≡◌, ℕ, zero, suc, ◌+◌, ◌<◌, true, List, [], ◌∷◌, ◌++◌, refl, subst, sym, ◌∙◌, ap, arith, length, take, inl, inr, ◌⊎◌}
use Rattle.std.specs.Prelude.{Option, Some, None}
use Rattle.std.proofs.lemmas.Bool.{false≢true}
use Rattle.sched_base.specs.Numbers.{moment}
use Rattle.sched_base.specs.declared.Moment.{Moment}
use Rattle.sched_model.specs.declared.action.Action.{Action}
use Rattle.sched_model.specs.declared.event.Event.{Event}
use Rattle.sched_model.specs.declared.event.Event.TheVariants as event
use Rattle.sched_model.specs.declared.event.Entry.{Entry}
use Rattle.sched_model.specs.declared.machine.Machine.{Machine}
use Rattle.sched_model.specs.declared.state.State.{State}
use Rattle.sched_model.specs.Opening.{opening}
use Rattle.sched_model.specs.Machine.{first_enabled_action, event_of, after, next_in_horizon, ordered_run}
use Rattle.sched_model.specs.Runs.{Reached, event_action, named_next_moment, IsRun, IsRunFrom, IsNextEvent, run_start, after_event, after_entry, after_entries, after_quiet}
use Rattle.sched_model.proofs.RunLemmas.{action_of-event_of, after_entry-action, ordered_run-IsRunFrom}
use Rattle.run_laws.specs.RunLaws.{TakesFirst, IsOrderedFrom, IsOrderedRun}
use Rattle.sched_model.specs.Runs.{open_at}

-- one more entry of the ordered run, where this is the first action that may come and these are the entries after it
abbrev with_action : Machine → State → Action → List Entry → List Entry
with_action m s action entries = record { at = moment s.now; event = event_of m s s.now action } ∷ entries

-- the ordered run where nothing may come
abbrev quiet_run : ℕ → Machine → State → Option ℕ → List Entry
quiet_run n m s None = record { at = moment s.now; event = event.Finish } ∷ []
quiet_run n m s (Some next) = record { at = moment s.now; event = event.End (moment next) } ∷ ordered_run n m (record s { now = next })

abbrev run_by : ℕ → Machine → State → Option Action → List Entry
run_by n m s None = quiet_run n m s (next_in_horizon m s)
run_by n m s (Some action) = with_action m s action (ordered_run n m (after m s s.now action))

-- the ordered run goes by the first action, and by the next moment where there is none
ordered_run-by : (n : ℕ) (m : Machine) (s : State) → ordered_run (suc n) m s ≡ run_by n m s (first_enabled_action m s s.now)
ordered_run-by n m s =
    elim (first_enabled_action m s s.now) as (λ o. let entries : List Entry = elim o [
      | Some action ↦ record { at = moment s.now; event = event_of m s s.now action } ∷ ordered_run n m (after m s s.now action)
      | None ↦ elim (next_in_horizon m s) [
        | Some next ↦ record { at = moment s.now; event = event.End (moment next) } ∷ ordered_run n m (record s { now = next })
        | None ↦ record { at = moment s.now; event = event.Finish } ∷ []
      ]
    ] in entries ≡ run_by n m s o) [
      | Some action ↦ refl
      | None ↦ elim (next_in_horizon m s) as (λ o. let entries : List Entry = elim o [
        | Some next ↦ record { at = moment s.now; event = event.End (moment next) } ∷ ordered_run n m (record s { now = next })
        | None ↦ record { at = moment s.now; event = event.Finish } ∷ []
      ] in entries ≡ quiet_run n m s o) [ Some next ↦ refl | None ↦ refl ]
    ]

-- an entry by its parts
entry_is : (entry : Entry) (t : ℕ) (e : Event) → entry.at.0 ≡ t → entry.event ≡ e → entry ≡ record { at = moment t; event = e }
entry_is entry t e at is = ap (λ n. record { at = moment n; event = entry.event }) at ∙ ap (λ f. record { at = moment t; event = f }) is

-- an event without an action is an End or a Finish
quiet_event : (e : Event) → event_action e ≡ None → (e ≡ event.Finish) ⊎ ((next : Moment) × (e ≡ event.End next))
quiet_event (event.End next) is = inr (next, refl)
quiet_event event.Finish is = inl refl
quiet_event other is = absurd (cc)

-- the ordered run takes the first action each time
ordered_run-IsOrderedFrom : (n : ℕ) (m : Machine) (s : State) → IsOrderedFrom m (open_at s) (ordered_run n m s)
ordered_run-IsOrderedFrom zero m s = tt
ordered_run-IsOrderedFrom (suc n) m s =
    subst (IsOrderedFrom m (open_at s)) (sym (ordered_run-by n m s))
    (elim (first_enabled_action m s s.now) as (λ o. first_enabled_action m s s.now ≡ o → IsOrderedFrom m (open_at s) (run_by n m s o)) [
      | Some action ↦ λ is. (
        subst (TakesFirst m s) (sym (action_of-event_of m s s.now action)) is,
        subst (λ from. IsOrderedFrom m from (ordered_run n m (after m s s.now action))) (sym (after_entry-action m s action)) (ordered_run-IsOrderedFrom n m (after m s s.now action)),
      )
      | None ↦ λ is. elim (next_in_horizon m s) as (λ o. IsOrderedFrom m (open_at s) (quiet_run n m s o)) [ Some next ↦ (tt, ordered_run-IsOrderedFrom n m (record s { now = next })) | None ↦ (tt, tt) ]
    ] refl)

take-none : (n : ℕ) → let none : List Entry = [] in take n none ≡ none
take-none zero = refl
take-none (suc n) = refl

quiet_run-take : (n k : ℕ) (m : Machine) (s : State) (o : Option ℕ) → ((later : State) → take n (ordered_run k m later) ≡ ordered_run n m later) → take (suc n) (quiet_run k m s o) ≡ quiet_run n m s o
quiet_run-take n k m s None h = ap (λ xs. record { at = moment s.now; event = event.Finish } ∷ xs) (take-none n)
quiet_run-take n k m s (Some next) h = ap (λ xs. record { at = moment s.now; event = event.End (moment next) } ∷ xs) (h (record s { now = next }))

run_by-take : (n k : ℕ) (m : Machine) (s : State) (o : Option Action) → ((later : State) → take n (ordered_run k m later) ≡ ordered_run n m later) → take (suc n) (run_by k m s o) ≡ run_by n m s o
run_by-take n k m s None h = quiet_run-take n k m s (next_in_horizon m s) h
run_by-take n k m s (Some action) h = ap (with_action m s action) (h (after m s s.now action))

-- fewer entries allowed are a beginning
pub ordered_run-take : (most more : ℕ) (m : Machine) (s : State) → take most (ordered_run (most + more) m s) ≡ ordered_run most m s
ordered_run-take zero more m s = refl
ordered_run-take (suc n) more m s =
    let e : suc n + more ≡ suc (n + more) = omega arith in
    ap (λ k. take (suc n) (ordered_run k m s)) e
    ∙ ap (take (suc n)) (ordered_run-by (n + more) m s)
    ∙ run_by-take n (n + more) m s (first_enabled_action m s s.now) (λ later. ordered_run-take n more m later)
    ∙ sym (ordered_run-by n m s)

quiet_run-more : (n k : ℕ) (m : Machine) (s : State) (o : Option ℕ) → ((later : State) → length (ordered_run n m later) < n → ordered_run k m later ≡ ordered_run n m later) → length (quiet_run n m s o) < suc n → quiet_run k m s o ≡ quiet_run n m s o
quiet_run-more n k m s None h short = refl
quiet_run-more n k m s (Some next) h short = ap (λ xs. record { at = moment s.now; event = event.End (moment next) } ∷ xs) (h (record s { now = next }) (omega (arith, short)))

run_by-more : (n k : ℕ) (m : Machine) (s : State) (o : Option Action) → ((later : State) → length (ordered_run n m later) < n → ordered_run k m later ≡ ordered_run n m later) → length (run_by n m s o) < suc n → run_by k m s o ≡ run_by n m s o
run_by-more n k m s None h short = quiet_run-more n k m s (next_in_horizon m s) h short
run_by-more n k m s (Some action) h short = ap (with_action m s action) (h (after m s s.now action) (omega (arith, short)))

-- more entries allowed change nothing once the run is over
pub ordered_run-more : (most more : ℕ) (m : Machine) (s : State) → length (ordered_run most m s) < most → ordered_run (most + more) m s ≡ ordered_run most m s
ordered_run-more zero more m s short = absurd (omega (arith, short))
ordered_run-more (suc n) more m s short =
    let e : suc n + more ≡ suc (n + more) = omega arith in
    ap (λ k. ordered_run k m s) e
    ∙ ordered_run-by (n + more) m s
    ∙ run_by-more n (n + more) m s (first_enabled_action m s s.now) (λ later less. ordered_run-more n more m later less) (subst (λ (es : List Entry). length es < suc n) (ordered_run-by n m s) short)
    ∙ sym (ordered_run-by n m s)

-- a run that is over has no more entries
no_more : (m : Machine) (from : Reached) (entries : List Entry) → from.over ≡ true → IsRunFrom m from entries → entries ≡ []
no_more m from [] over run = refl
no_more m from (entry ∷ entries) over run = absurd (false≢true (sym run.0.goes_on ∙ over))

-- the ordered run from here, by its first entry and the entries after it
only_action : (m : Machine) (s : State) (entry : Entry) (entries : List Entry) (action : Action) → entry.at.0 ≡ s.now → entry.event ≡ event_of m s s.now action → first_enabled_action m s s.now ≡ Some action → entries ≡ ordered_run (length entries) m (after m s s.now action) → entry ∷ entries ≡ ordered_run (suc (length entries)) m s
only_action m s entry entries action at is first tail =
    ap (λ x. x ∷ entries) (entry_is entry s.now (event_of m s s.now action) at is)
    ∙ ap (with_action m s action) tail
    ∙ sym (ordered_run-by (length entries) m s ∙ ap (run_by (length entries) m s) first)

only_end : (m : Machine) (s : State) (entry : Entry) (entries : List Entry) (next : Moment) → entry.at.0 ≡ s.now → entry.event ≡ event.End next → first_enabled_action m s s.now ≡ None → next_in_horizon m s ≡ Some next.0 → entries ≡ ordered_run (length entries) m (record s { now = next.0 }) → entry ∷ entries ≡ ordered_run (suc (length entries)) m s
only_end m s entry entries next at is first horizon tail =
    ap (λ x. x ∷ entries) (entry_is entry s.now (event.End next) at is)
    ∙ ap (λ xs. record { at = moment s.now; event = event.End next } ∷ xs) tail
    ∙ sym (ordered_run-by (length entries) m s ∙ ap (run_by (length entries) m s) first ∙ ap (quiet_run (length entries) m s) horizon)

only_finish : (m : Machine) (s : State) (entry : Entry) (entries : List Entry) → entry.at.0 ≡ s.now → entry.event ≡ event.Finish → first_enabled_action m s s.now ≡ None → next_in_horizon m s ≡ None → entries ≡ [] → entry ∷ entries ≡ ordered_run (suc (length entries)) m s
only_finish m s entry entries at is first horizon tail =
    ap (λ x. x ∷ entries) (entry_is entry s.now event.Finish at is)
    ∙ ap (λ xs. record { at = moment s.now; event = event.Finish } ∷ xs) tail
    ∙ sym (ordered_run-by (length entries) m s ∙ ap (run_by (length entries) m s) first ∙ ap (quiet_run (length entries) m s) horizon)

-- a run that takes the first action each time is the ordered run of its length
ordered_run-only : (m : Machine) (s : State) (entries : List Entry) → IsRunFrom m (open_at s) entries → IsOrderedFrom m (open_at s) entries → entries ≡ ordered_run (length entries) m s
ordered_run-only m s [] run ordered = refl
ordered_run-only m s (entry ∷ entries) run ordered =
    elim (event_action entry.event) as (λ o. event_action entry.event ≡ o → IsNextEvent m s entry.event o → TakesFirst m s o → IsRunFrom m (after_event m entry.event o (open_at s)) entries → IsOrderedFrom m (after_event m entry.event o (open_at s)) entries → entry ∷ entries ≡ ordered_run (suc (length entries)) m s) [
      | Some action ↦ λ is next first rest order. only_action m s entry entries action run.0.moment next.1 first (ordered_run-only m (after m s s.now action) entries rest order)
      | None ↦ λ is next first rest order. elim (quiet_event entry.event is) [
        | inl finish ↦ only_finish m s entry entries run.0.moment finish next.0 (next.1 ∙ ap named_next_moment finish) (no_more m (record { state = s; over = true }) entries refl (subst (λ e. IsRunFrom m (after_quiet (named_next_moment e) (open_at s)) entries) finish rest))
        | inr end ↦ only_end m s entry entries end.0 run.0.moment end.1 next.0 (next.1 ∙ ap named_next_moment end.1)
            (ordered_run-only m (record s { now = end.0.0 }) entries (subst (λ e. IsRunFrom m (after_quiet (named_next_moment e) (open_at s)) entries) end.1 rest) (subst (λ e. IsOrderedFrom m (after_quiet (named_next_moment e) (open_at s)) entries) end.1 order))
      ]
    ] refl run.0.event ordered.0 run.1 ordered.1

pub ordered-is_run_by : (m : Machine) (entries : List Entry) → IsOrderedRun m entries → entries ≡ ordered_run (length entries) m (opening m)
ordered-is_run_by m entries h = ordered_run-only m (opening m) entries h.run h.ordered

pub run_by-is_ordered : (m : Machine) (entries : List Entry) → entries ≡ ordered_run (length entries) m (opening m) → IsOrderedRun m entries
run_by-is_ordered m entries e = record {
  run = subst (IsRun m) (sym e) (ordered_run-IsRunFrom (length entries) m (opening m));
  ordered = subst (IsOrderedFrom m (run_start m)) (sym e) (ordered_run-IsOrderedFrom (length entries) m (opening m));
}

-- the ordered run is an ordered run, however many entries it is allowed
pub ordered_run-is_ordered : (most : ℕ) (m : Machine) → IsOrderedRun m (ordered_run most m (opening m))
ordered_run-is_ordered most m = record { run = ordered_run-IsRunFrom most m (opening m); ordered = ordered_run-IsOrderedFrom most m (opening m) }

-- an entry that takes the first action goes on with an ordered run
pub IsOrderedFrom-append : (m : Machine) (from : Reached) (entries : List Entry) (e : Entry) → IsOrderedFrom m from entries → TakesFirst m (after_entries m from entries).state (event_action e.event) → IsOrderedFrom m from (entries ++ e ∷ [])
IsOrderedFrom-append m from [] e ordered first = (first, tt)
IsOrderedFrom-append m from (x ∷ entries) e ordered first = (ordered.0, IsOrderedFrom-append m (after_entry m from x) entries e ordered.1 first)
