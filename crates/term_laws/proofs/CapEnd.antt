-- The end of a term: what its open legs still add, and what follows adds nothing.
use Rattle.term_laws.proofs.TermSums.{leg_from-starts}
use Rattle.std.proofs.Common.{◌≡◌, ◌≢◌, ◌≤◌, ◌<◌, ◌+◌, ℕ, suc, Bool, true, false, List, [], ◌∷◌, refl, arith, ap, subst, ◌∙◌, ◌⊎◌, inl, inr, cond, nat_lt}
use Rattle.std.specs.Prelude.{Option, Some, None, max, is_some, sum_by, ◌&&◌, ◌||◌, ℤ, pos, ◌+ℤ◌, ◌-ℤ◌, ◌≤ℤ◌}
use Rattle.std.specs.List.{list_any}
use Rattle.std.proofs.lemmas.Int.{ints}
use Rattle.std.proofs.lemmas.List.Sums.{sum_by-cons}
use Rattle.std.proofs.lemmas.Bool.{and_from}
use Rattle.sched_base.specs.Credit2Numbers.{positive_part}
use Rattle.sched_model.specs.declared.event.Event.{Event}
use Rattle.sched_model.specs.declared.event.Entry.{Entry}
use Rattle.sched_model.specs.declared.machine.Machine.{Machine}
use Rattle.sched_model.specs.declared.state.State.{State}
use Rattle.sched_model.specs.declared.state.Credit2Domain.{Credit2Domain}
use Rattle.sched_model.specs.Runs.{Reached, IsRunFrom, after_entry, after_entries}
use Rattle.sched_base.proofs.Bools.{or_left, or_right}
use Rattle.term_laws.specs.Term.{Leg, late_of, leg_from, moves, shared_span, meets, late_in}
use Rattle.term_laws.proofs.Time.{time_goes_on}
use Rattle.term_laws.specs.CapTerm.{PlacedLeg, CapTerm, next_decision, taken_for, domain_legs, cap_set, settings, refills, credit2_in, is_set_after}
use Rattle.term_laws.proofs.CapTracks.{cap_at, on_core, Stops, EventTracks, CapTracks}
use Rattle.term_laws.proofs.CoreSums.{counts_or_not, total_two, above_most}
use Rattle.sched_laws.specs.Counts.{over, total_over}
use Rattle.term_laws.proofs.CapLegs.{OpenLeg, Opens, to_close, rest, DecidesNone, DecidesOne, decides}
use Rattle.term_laws.proofs.CapStep.{left_over, cap_there, cap_of, cap_stays, late_enough}

-- how long a leg lies within the term
abbrev pub span_in : CapTerm → PlacedLeg → ℕ
span_in term placed = shared_span term.term placed.leg

-- what is late of a leg that meets the term; whether a setting of the cap, after the term and within such a leg, takes the term away
abbrev pub late_of_met : CapTerm → PlacedLeg → ℕ
late_of_met term placed = late_in term.term placed.leg

abbrev pub disturbs : List ℕ → CapTerm → PlacedLeg → ℕ
disturbs set term placed = cond (meets term.term placed.leg && is_set_after set term placed) 1 0

-- legs that begin when the term is over add nothing
pub later_none : (m : Machine) (d t : ℕ) (f : PlacedLeg → ℕ) → ((placed : PlacedLeg) → t ≤ placed.leg.from → f placed ≡ 0) → (entries : List Entry) (from : Reached) (s : State) (n : ℕ) → IsRunFrom m from entries → t ≤ from.state.now → sum_by f (domain_legs s d n entries) ≡ 0
later_none m d t f none [] from s n run over = refl
later_none m d t f none (entry ∷ entries) from s n run over =
    let moment_is = run.0.moment in
    let later = time_goes_on m from entry run.0 in
    let follow = later_none m d t f none entries (after_entry m from entry) s (suc n) run.1 (omega (arith, over, later)) in
    elim (taken_for d entry.event) as (λ o. sum_by f (elim o as (λ _. List PlacedLeg) [
      | Some r ↦ record { leg = leg_from s r entry.at.0 entries; first = n; last = next_decision r (suc n) entries } ∷ domain_legs s d (suc n) entries
      | None ↦ domain_legs s d (suc n) entries
    ]) ≡ 0) [
      | Some r ↦ (
          let placed : PlacedLeg = record { leg = leg_from s r entry.at.0 entries; first = n; last = next_decision r (suc n) entries } in
          let starts = leg_from-starts s r entry.at.0 entries in
          let here = none placed (omega (arith, starts, over, moment_is)) in
          let sum = sum_by-cons f placed (domain_legs s d (suc n) entries) in
          omega (arith, here, sum, follow))
      | None ↦ follow
    ]

-- a leg that ends late enough, where it meets the term
abbrev pub EndsLate : CapTerm → ℤ → PlacedLeg → Type 0
EndsLate term stop placed = 0 < span_in term placed → (term.term.until ≤ placed.leg.until) × (pos placed.leg.until ≤ℤ (stop +ℤ pos placed.leg.late))

-- the open legs add no more than what is left to them, and what is late of them
pub open_fits : (cores d : ℕ) (term : CapTerm) (opens : Opens) (stop : ℕ → ℤ) (s : State) (n allowed : ℕ) (entries : List Entry)
    → total_over cores (left_over opens stop term.term.from) ≤ allowed
    → ((r : ℕ) (o : OpenLeg) → opens r ≡ Some o → EndsLate term (stop r) (to_close s r n entries o))
    → sum_by (span_in term) (domain_legs s d n entries) ≡ 0
    → rest cores d (span_in term) opens s n entries ≤ allowed + rest cores d (late_of_met term) opens s n entries
open_fits cores d term opens stop s n allowed entries few late none =
    let sums = total_two cores (λ r. over (λ o. span_in term (to_close s r n entries o)) (opens r)) (left_over opens stop term.term.from) (λ r. over (λ o. late_of_met term (to_close s r n entries o)) (opens r)) (λ r low. one r (opens r) refl) in
    omega (arith, sums, few, none)
  where
    leg : (r : ℕ) (o : OpenLeg) → EndsLate term (stop r) (to_close s r n entries o) → span_in term (to_close s r n entries o) ≤ positive_part (stop r -ℤ pos (max o.from term.term.from)) + late_of_met term (to_close s r n entries o)
    leg r o ends =
        let placed : PlacedLeg = to_close s r n entries o in
        let starts = leg_from-starts s r o.from entries in
        let most = above_most (stop r -ℤ pos (max o.from term.term.from)) in
        elim (counts_or_not (span_in term placed) placed.leg.late) [
          | inl unmet ↦ omega (arith, unmet)
          | inr met ↦ (let is = met.1 in let e = ends met.0 in let over_it = e.0 in let enough = e.1 in omega (arith, ints, starts, most, is, over_it, enough))
        ]

    one : (r : ℕ) (o : Option OpenLeg) → opens r ≡ o
        → over (λ z. span_in term (to_close s r n entries z)) o ≤ over (λ z. positive_part (stop r -ℤ pos (max z.from term.term.from))) o + over (λ z. late_of_met term (to_close s r n entries z)) o
    one r None is = omega arith
    one r (Some o) is = leg r o (late r o is)

-- no setting of the cap comes before the core's next decision
abbrev pub Calm : Machine → ℕ → ℕ → List Entry → Type 0
Calm m d r [] = Unit {0}
Calm m d r (entry ∷ entries) = late_of r entry.event ≡ None → (cap_set m d entry.event ≡ None) × Calm m d r entries

next_not_before : (r n : ℕ) (entries : List Entry) → n ≤ next_decision r n entries
next_not_before r n [] = omega arith
next_not_before r n (entry ∷ entries) = elim (late_of r entry.event) as (λ o. n ≤ elim o as (λ _. ℕ) [ Some late ↦ n | None ↦ next_decision r (suc n) entries ]) [
  | Some late ↦ omega arith
  | None ↦ (let low = next_not_before r (suc n) entries in omega (arith, low))
]

pub calm_by : (m : Machine) (d r past first : ℕ) (entries : List Entry) (n : ℕ) → past < n → first < n
    → list_any (λ k. nat_lt past k && nat_lt first k && nat_lt k (next_decision r n entries)) (settings m d n entries) ≡ false → Calm m d r entries
calm_by m d r past first [] n after begun none = tt
calm_by m d r past first (entry ∷ entries) n after begun none = λ open_still.
    let next : next_decision r n (entry ∷ entries) ≡ next_decision r (suc n) entries = ap (λ (o : Option ℕ). elim o as (λ _. ℕ) [ Some late ↦ n | None ↦ next_decision r (suc n) entries ]) open_still in
    let low = next_not_before r (suc n) entries in
    let test : ℕ → Bool = λ k. nat_lt past k && nat_lt first k && nat_lt k (next_decision r (suc n) entries) in
    let none2 : list_any test (settings m d n (entry ∷ entries)) ≡ false = subst (λ q. list_any (λ k. nat_lt past k && nat_lt first k && nat_lt k q) (settings m d n (entry ∷ entries)) ≡ false) next none in
    go (cap_set m d entry.event) refl none2 low (λ rest_none. calm_by m d r past first entries (suc n) (omega (arith, after)) (omega (arith, begun)) rest_none)
  where
    go : (o : Option ℕ) → cap_set m d entry.event ≡ o
        → list_any (λ k. nat_lt past k && nat_lt first k && nat_lt k (next_decision r (suc n) entries)) (elim o as (λ _. List ℕ) [ Some percent ↦ n ∷ settings m d (suc n) entries | None ↦ settings m d (suc n) entries ]) ≡ false
        → suc n ≤ next_decision r (suc n) entries
        → (list_any (λ k. nat_lt past k && nat_lt first k && nat_lt k (next_decision r (suc n) entries)) (settings m d (suc n) entries) ≡ false → Calm m d r entries) → (cap_set m d entry.event ≡ None) × Calm m d r entries
    go None is rest_none low follow = (is, follow rest_none)
    go (Some percent) is found low follow =
        absurd (
        let a : nat_lt past n ≡ true = grind (arith, after) in
        let b : nat_lt first n ≡ true = grind (arith, begun) in
        let c : nat_lt n (next_decision r (suc n) entries) ≡ true = grind (arith, low) in
        let here : (nat_lt past n && nat_lt first n && nat_lt n (next_decision r (suc n) entries)) ≡ true = and_from _ _ (and_from _ _ a b) c in
        let head = or_left (nat_lt past n && nat_lt first n && nat_lt n (next_decision r (suc n) entries)) (list_any (λ k. nat_lt past k && nat_lt first k && nat_lt k (next_decision r (suc n) entries)) (settings m d (suc n) entries)) found in
        cc)

-- all settings from the entry with the number n on are among these
abbrev pub HasSettings : Machine → ℕ → List ℕ → ℕ → List Entry → Type 0
HasSettings m d set n entries = (test : ℕ → Bool) → list_any test set ≡ false → list_any test (settings m d n entries) ≡ false

pub settings_follow : (m : Machine) (d : ℕ) (set : List ℕ) (n : ℕ) (entry : Entry) (entries : List Entry) → HasSettings m d set n (entry ∷ entries) → HasSettings m d set (suc n) entries
settings_follow m d set n entry entries has test none = go (cap_set m d entry.event) (has test none)
  where
    go : (o : Option ℕ) → list_any test (elim o as (λ _. List ℕ) [ Some percent ↦ n ∷ settings m d (suc n) entries | None ↦ settings m d (suc n) entries ]) ≡ false → list_any test (settings m d (suc n) entries) ≡ false
    go None is = is
    go (Some percent) is = or_right _ _ is

pub some_clash : {X : Type 0} (x : X) (o : Option X) → o ≡ Some x → o ≡ None → ⊥
some_clash x None is none = cc
some_clash x (Some y) is none = cc

module _ (m : Machine) (d : ℕ) (K : State → Type 0) (tracks : CapTracks m d K) where
  -- a running unit whose core does not decide stops where it did, as long as the cap is not set
  stops_after : (r k : ℕ) (stop : ℤ) (e : Event) (s s2 : State) (x y : Credit2Domain) → K s → K s2 → EventTracks m d e s s2 → credit2_in s d ≡ Some x → 0 < x.cap → credit2_in s2 d ≡ Some y
      → on_core s d r ≡ Some k → late_of r e ≡ None → cap_set m d e ≡ None → moves d e ≡ false → Stops x k stop → Stops y k stop
  stops_after r k stop e s s2 x y known known2 step at capped at2 on open_still none stays stops = by_refill (refills d e) refl
    where
      on2 : on_core s2 d r ≡ Some k
      on2 = step.stays r open_still ∙ on

      by_decision : refills d e ≡ false → DecidesNone d e ⊎ DecidesOne d e → Stops y k stop
      by_decision not_refill (inl quiet) =
          (step.goes x y (ap (λ (b : Bool). b || is_some (cap_set m d e) || moves d e) not_refill ∙ ap (λ (o : Option ℕ). is_some o || moves d e) none ∙ stays) quiet.none at capped at2).others k stop stops
      by_decision not_refill (inr one) =
          let other : r ≢ one.core = λ same. some_clash one.late (late_of one.core e) one.is_late (subst (λ c. late_of c e ≡ None) same open_still) in
          (step.decided one.core one.late x y one.is_late at capped at2).others k stop (λ had. other (tracks.one s known r one.core k on had)) (λ has. other (tracks.one s2 known2 r one.core k on2 has)) stops

      by_refill : (b : Bool) → refills d e ≡ b → Stops y k stop
      by_refill true is = (step.refilled x y is at capped at2).others k stop stops
      by_refill false is = by_decision is (decides d e)

  -- a leg that is open ends not before now, and so late as its unit overruns
  pub ends_late : (entries : List Entry) (from : Reached) (n r : ℕ) (o : OpenLeg) (stop : ℤ) (x : Credit2Domain) → IsRunFrom m from entries → K from.state → credit2_in from.state d ≡ Some x → 0 < x.cap → on_core from.state d r ≡ Some o.unit → Stops x o.unit stop → Calm m d r entries
      → (from.state.now ≤ (to_close (after_entries m from entries).state r n entries o).leg.until)
      × (pos (to_close (after_entries m from entries).state r n entries o).leg.until ≤ℤ (stop +ℤ pos (to_close (after_entries m from entries).state r n entries o).leg.late))
  ends_late [] from n r o stop x run known at capped on stops calm = (omega arith, late_enough m d K tracks from.state x r o.unit stop known at capped on stops)
  ends_late (entry ∷ entries) from n r o stop x run known at capped on stops calm =
      go (late_of r entry.event) refl (λ y at2 capped2 on2 stops2 calm2. ends_late entries (after_entry m from entry) (suc n) r o stop y run.1 (tracks.known from entry run.0 known) at2 capped2 on2 stops2 calm2)
    where
      step : EventTracks m d entry.event from.state (after_entry m from entry).state
      step = tracks.steps from entry run.0 known

      still : (b : Bool) → moves d entry.event ≡ b → moves d entry.event ≡ false
      still false is = is
      still true is = absurd (some_clash o.unit (on_core from.state d r) on (step.moved r is))

      go : (late : Option ℕ) → late_of r entry.event ≡ late
          → ((y : Credit2Domain) → credit2_in (after_entry m from entry).state d ≡ Some y → 0 < y.cap → on_core (after_entry m from entry).state d r ≡ Some o.unit → Stops y o.unit stop → Calm m d r entries
          → ((after_entry m from entry).state.now ≤ (leg_from (after_entries m from (entry ∷ entries)).state r o.from entries).until)
          × (pos (leg_from (after_entries m from (entry ∷ entries)).state r o.from entries).until ≤ℤ (stop +ℤ pos (leg_from (after_entries m from (entry ∷ entries)).state r o.from entries).late)))
          → (from.state.now ≤ (elim late as (λ _. Leg) [ Some l ↦ record { from = o.from; until = entry.at.0; late = l } | None ↦ leg_from (after_entries m from (entry ∷ entries)).state r o.from entries ]).until)
          × (pos (elim late as (λ _. Leg) [ Some l ↦ record { from = o.from; until = entry.at.0; late = l } | None ↦ leg_from (after_entries m from (entry ∷ entries)).state r o.from entries ]).until
          ≤ℤ (stop +ℤ pos (elim late as (λ _. Leg) [ Some l ↦ record { from = o.from; until = entry.at.0; late = l } | None ↦ leg_from (after_entries m from (entry ∷ entries)).state r o.from entries ]).late))
      go (Some l) is follow =
          let moment_is = run.0.moment in
          let same = (step.decides r l is).0 in
          let enough = late_enough m d K tracks from.state x r o.unit stop known at capped on stops in
          (omega (arith, moment_is), omega (arith, ints, moment_is, same, enough))
      go None is follow =
          let c = calm is in
          let stays = still (moves d entry.event) refl in
          let there = cap_there (after_entry m from entry).state d x.cap (step.cap ∙ cap_stays m d (cap_at from.state d) entry.event c.0 stays ∙ cap_of from.state d x at) capped in
          let same_cap = there.2 in
          let later = time_goes_on m from entry run.0 in
          let rest_late = follow there.0 there.1 (omega (arith, capped, same_cap)) (step.stays r is ∙ on)
          (stops_after r o.unit stop entry.event from.state (after_entry m from entry).state x there.0 known (tracks.known from entry run.0 known) step at capped there.1 on is c.0 stays stops) c.1 in
          let low = rest_late.0 in
          (omega (arith, low, later), rest_late.1)
