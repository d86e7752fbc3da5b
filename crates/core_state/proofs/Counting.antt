-- How often each unit is on a core, before and after a change of one core.
use Rattle.std.proofs.Common.{◌≡◌, ◌+◌, ◌*◌, ◌≤◌, ◌<◌, ℕ, zero, suc, List, [], ◌∷◌, Bool, true, false, cond, ◌∙◌, refl, sym, ap, subst, arith, inl, inr, length}
use Rattle.std.specs.Prelude.{◌||◌, Option, Some, None, nat_lt, option_map, replicate, if◌then◌else◌}
use Rattle.std.specs.List.{list_any}
use Rattle.std.proofs.lemmas.Bool.{cases_lt, lt-ltb}
use Rattle.sched_base.specs.declared.Moment.{Moment}
use Rattle.sched_base.specs.declared.UnitId.{UnitId}
use Rattle.sched_base.specs.Numbers.{moment}
use Rattle.sched_model.specs.declared.state.Processor.{Processor}
use Rattle.sched_model.specs.declared.state.Resource.{Resource}
use Rattle.sched_model.specs.declared.state.Stage.TheVariants.{Decided, Open}
use Rattle.sched_model.specs.CheckedMachine.{IsGranularity}
use Rattle.sched_model.specs.Places.{at_place, change_at, clear_at, first_place, is_unit, numbered_items, put_at}
use Rattle.sched_model.specs.Pool.{due_within, is_held_back, reopened_core, same_choice, saved_core}
use Rattle.sched_laws.specs.Counts.{one_at, over, total}
use Rattle.sched_laws.specs.PoolFacts.{core_places}
use Rattle.sched_laws.proofs.Counts.{total-change_at_same}
use Rattle.sched_laws.proofs.Lists.{some_same}
use Rattle.unit_places.specs.Places.{has_unit_place}
use Rattle.core_state.specs.Counts.{AreCounts, count_of}
use Rattle.core_state.specs.Seen.{chosen_core, with_sibling}

-- a place that is written, emptied or changed
total_put : {X : Type 0} (f : X → ℕ) (r : ℕ) (x : X) (places : List (Option X)) → r < length places → total f (put_at r x places) + over f (at_place places r) ≡ total f places + f x
total_put f r x [] low = absurd (omega (arith, low))
total_put f zero x (None ∷ places) low = omega arith
total_put f zero x (Some y ∷ places) low = omega arith
total_put f (suc r) x (None ∷ places) low = total_put f r x places (omega (arith, low))
total_put f (suc r) x (Some y ∷ places) low = let rest = total_put f r x places (omega (arith, low)) in omega (arith, rest)

total_clear : {X : Type 0} (f : X → ℕ) (r : ℕ) (places : List (Option X)) → total f (clear_at r places) + over f (at_place places r) ≡ total f places
total_clear f r [] = refl
total_clear f zero (None ∷ places) = omega arith
total_clear f zero (Some y ∷ places) = omega arith
total_clear f (suc r) (None ∷ places) = total_clear f r places
total_clear f (suc r) (Some y ∷ places) = let rest = total_clear f r places in omega (arith, rest)

total_change : {X : Type 0} (f : X → ℕ) (r : ℕ) (h : X → X) (places : List (Option X)) → total f (change_at r h places) + over f (at_place places r) ≡ total f places + over f (option_map h (at_place places r))
total_change f r h [] = refl
total_change f zero h (None ∷ places) = refl
total_change f zero h (Some y ∷ places) = omega arith
total_change f (suc r) h (None ∷ places) = total_change f r h places
total_change f (suc r) h (Some y ∷ places) = let rest = total_change f r h places in omega (arith, rest)

-- a core has a unit at two places at most
one_most : (u : UnitId) (o : Option UnitId) → one_at u o ≤ 1
one_most u o = elim (is_unit o u) as (λ b. cond b 1 0 ≤ 1) [ true ↦ omega arith | false ↦ omega arith ]

total_most : (u : UnitId) (cores : List (Option Resource)) → total (core_places u) cores ≤ length cores + length cores
total_most u [] = omega arith
total_most u (None ∷ cores) = let rest = total_most u cores in omega (arith, rest)
total_most u (Some c ∷ cores) = let rest = total_most u cores in let a = one_most u c.cur in let b = one_most u c.saving in omega (arith, rest, a, b)

-- a unit that is counted is on a core
counted_is_on : (u : UnitId) (n : ℕ) (cores : List (Option Resource)) → 1 ≤ total (core_places u) cores → list_any (λ (e : ℕ × Resource). is_unit e.1.cur u || is_unit e.1.saving u) (numbered_items n cores) ≡ true
counted_is_on u n [] some = absurd (omega (arith, some))
counted_is_on u n (None ∷ cores) some = counted_is_on u (suc n) cores some
counted_is_on u n (Some c ∷ cores) some =
    elim (is_unit c.cur u) as (λ a. 1 ≤ (cond a 1 0 + one_at u c.saving) + total (core_places u) cores → (a || is_unit c.saving u || list_any (λ (e : ℕ × Resource). is_unit e.1.cur u || is_unit e.1.saving u) (numbered_items (suc n) cores)) ≡ true) [
      | true ↦ λ e. refl
      | false ↦ λ e. elim (is_unit c.saving u) as (λ b. 1 ≤ (0 + cond b 1 0) + total (core_places u) cores → (b || list_any (λ (e : ℕ × Resource). is_unit e.1.cur u || is_unit e.1.saving u) (numbered_items (suc n) cores)) ≡ true) [
        | true ↦ λ e2. refl
        | false ↦ λ e2. counted_is_on u (suc n) cores (omega (arith, e2))
      ] e
    ] some

uncounted_is_off : (u : UnitId) (n : ℕ) (cores : List (Option Resource)) → total (core_places u) cores ≡ 0 → list_any (λ (e : ℕ × Resource). is_unit e.1.cur u || is_unit e.1.saving u) (numbered_items n cores) ≡ false
uncounted_is_off u n [] none = refl
uncounted_is_off u n (None ∷ cores) none = uncounted_is_off u (suc n) cores none
uncounted_is_off u n (Some c ∷ cores) none =
    elim (is_unit c.cur u) as (λ a. (cond a 1 0 + one_at u c.saving) + total (core_places u) cores ≡ 0 → (a || is_unit c.saving u || list_any (λ (e : ℕ × Resource). is_unit e.1.cur u || is_unit e.1.saving u) (numbered_items (suc n) cores)) ≡ false) [
      | true ↦ λ e. absurd (omega (arith, e))
      | false ↦ λ e. elim (is_unit c.saving u) as (λ b. (0 + cond b 1 0) + total (core_places u) cores ≡ 0 → (b || list_any (λ (e : ℕ × Resource). is_unit e.1.cur u || is_unit e.1.saving u) (numbered_items (suc n) cores)) ≡ false) [
        | true ↦ λ e2. absurd (omega (arith, e2))
        | false ↦ λ e2. uncounted_is_off u (suc n) cores (omega (arith, e2))
      ] e
    ] none

counted_as_on : (u : UnitId) (cores : List (Option Resource)) (k : ℕ) → k ≡ total (core_places u) cores
    → nat_lt 0 k ≡ list_any (λ (e : ℕ × Resource). is_unit e.1.cur u || is_unit e.1.saving u) (numbered_items 0 cores)
counted_as_on u cores zero is = sym (uncounted_is_off u 0 cores (sym is))
counted_as_on u cores (suc k) is = lt-ltb 0 (suc k) (omega arith) ∙ sym (counted_is_on u 0 cores (omega (arith, is)))

-- one that is not counted is no core's own
uncounted_is_none : (u : UnitId) (n : ℕ) (cores : List (Option Resource)) → total (core_places u) cores ≡ 0 → first_place n (λ (c : Resource). is_unit c.cur u) cores ≡ None
uncounted_is_none u n [] none = refl
uncounted_is_none u n (None ∷ cores) none = uncounted_is_none u (suc n) cores none
uncounted_is_none u n (Some c ∷ cores) none =
    elim (is_unit c.cur u) as (λ a. (cond a 1 0 + one_at u c.saving) + total (core_places u) cores ≡ 0 → elim a as (λ _. Option ℕ) [ true ↦ Some n | false ↦ first_place (suc n) (λ (x : Resource). is_unit x.cur u) cores ] ≡ None) [
      | true ↦ λ e. absurd (omega (arith, e))
      | false ↦ λ e. uncounted_is_none u (suc n) cores (omega (arith, e))
    ] none

-- no core, no count
pub none_counted : (n : ℕ) (cores : List (Option Resource)) (counts : List ℕ) → cores ≡ replicate n None → ((u : UnitId) → count_of counts u ≡ 0) → AreCounts cores counts
none_counted n cores counts is none = λ u has. none u ∙ sym (ap (total (core_places u)) is ∙ empty u n)
  where
    empty : (u : UnitId) (n : ℕ) → total (core_places u) (replicate n None) ≡ 0
    empty u zero = refl
    empty u (suc n) = empty u n

-- room for another core's units, and the counts of one core
pub room_left : (cores : List (Option Resource)) (counts : List ℕ) (u : UnitId) → length cores ≤ 64 → AreCounts cores counts → has_unit_place u ≡ true → count_of counts u ≤ 128
room_left cores counts u few are has = let most = total_most u cores in let is = are u has in omega (arith, most, is, few)

pub own_counted : (r : ℕ) (cores : List (Option Resource)) (counts : List ℕ) (u : UnitId) (o : Option Resource) → o ≡ at_place cores r → AreCounts cores counts → has_unit_place u ≡ true → over (core_places u) o ≤ count_of counts u
own_counted r cores counts u o at are has =
    let sum = total_clear (core_places u) r cores in
    let is = are u has in
    let own : over (core_places u) o ≡ over (core_places u) (at_place cores r) = ap (over (core_places u)) at in
    omega (arith, sum, is, own)

-- the counts are right after a core came in, went out or changed
pub put_counted : (r : ℕ) (core : Resource) (cores now : List (Option Resource)) (counts next : List ℕ) → r < length cores → now ≡ put_at r core cores → AreCounts cores counts
    → ((u : UnitId) → has_unit_place u ≡ true → count_of next u + over (core_places u) (at_place cores r) ≡ count_of counts u + core_places u core) → AreCounts now next
put_counted r core cores now counts next low is are sums = λ u has.
    let after : total (core_places u) now ≡ total (core_places u) (put_at r core cores) = ap (total (core_places u)) is in
    let change = total_put (core_places u) r core cores low in
    let was = are u has in
    let sum = sums u has in
    omega (arith, after, change, was, sum)

pub taken_counted : (r : ℕ) (cores now : List (Option Resource)) (counts next : List ℕ) → now ≡ clear_at r cores → AreCounts cores counts
    → ((u : UnitId) → has_unit_place u ≡ true → count_of next u + over (core_places u) (at_place cores r) ≡ count_of counts u) → AreCounts now next
taken_counted r cores now counts next is are sums = λ u has.
    let after : total (core_places u) now ≡ total (core_places u) (clear_at r cores) = ap (total (core_places u)) is in
    let change = total_clear (core_places u) r cores in
    let was = are u has in
    let sum = sums u has in
    omega (arith, after, change, was, sum)

pub changed_counted : (r : ℕ) (f : Resource → Resource) (cores now : List (Option Resource)) (counts next : List ℕ) → now ≡ change_at r f cores → AreCounts cores counts
    → ((u : UnitId) → has_unit_place u ≡ true → count_of next u + over (core_places u) (at_place cores r) ≡ count_of counts u + over (core_places u) (option_map f (at_place cores r))) → AreCounts now next
changed_counted r f cores now counts next is are sums = λ u has.
    let after : total (core_places u) now ≡ total (core_places u) (change_at r f cores) = ap (total (core_places u)) is in
    let change = total_change (core_places u) r f cores in
    let was = are u has in
    let sum = sums u has in
    omega (arith, after, change, was, sum)

-- a change that leaves a core its units leaves the counts
abbrev pub KeepsPlaces : (Resource → Resource) → Type 0
KeepsPlaces f = (u : UnitId) (c : Resource) → core_places u (f c) ≡ core_places u c

pub same_counted : (r : ℕ) (f : Resource → Resource) (cores now : List (Option Resource)) (counts : List ℕ) → KeepsPlaces f → now ≡ change_at r f cores → AreCounts cores counts → AreCounts now counts
same_counted r f cores now counts keeps is are = λ u has. are u has ∙ sym (total-change_at_same (core_places u) r f cores (λ c at. keeps u c)) ∙ ap (total (core_places u)) (sym is)

pub open_places : (i : ℕ) (f : Processor → Processor) → KeepsPlaces (λ c. reopened_core (with_sibling i f c))
open_places i f u c =
    elim (list_any is_held_back (with_sibling i f c).processors) as (λ b. core_places u (if b then with_sibling i f c else record (with_sibling i f c) { stage = Open }) ≡ core_places u c) [ true ↦ refl | false ↦ refl ]

-- the units of a core that decided
abbrev chosen_by : Bool → ℕ → Option UnitId → Option Moment → Resource → Resource
chosen_by same t unit due c =
    elim same as (λ _. Resource) [
      | true ↦ record c { due = due; pending = false; stage = Decided }
      | false ↦ record c { saving = c.cur; cur = unit; since = moment t; due = due; pending = false; stage = Decided }
    ]

pub same_places : (u : UnitId) (t : ℕ) (unit : Option UnitId) (due : Option Moment) (c : Resource) → same_choice unit c.cur ≡ true → core_places u (chosen_core t unit due c) ≡ core_places u c
same_places u t unit due c is = ap (λ (same : Bool). core_places u (chosen_by same t unit due c)) is

pub other_places : (u : UnitId) (t : ℕ) (unit : Option UnitId) (due : Option Moment) (c : Resource) → same_choice unit c.cur ≡ false → core_places u (chosen_core t unit due c) ≡ one_at u unit + one_at u c.cur
other_places u t unit due c is = ap (λ (same : Bool). core_places u (chosen_by same t unit due c)) is

-- the unit that a core saves is one of its own
pub saving_of : (u : UnitId) (o : Option Resource) → over (core_places u) o ≡ over (core_places u) (option_map saved_core o) + one_at u (elim o as (λ _. Option UnitId) [ None ↦ None | Some c ↦ c.saving ])
saving_of u None = refl
saving_of u (Some c) = omega arith

-- what a count says
counted_of : (counts : List ℕ) (u : UnitId) (k : ℕ) → (if has_unit_place u then Some (count_of counts u) else None) ≡ Some k → (has_unit_place u ≡ true) × (count_of counts u ≡ k)
counted_of counts u k is =
    elim (has_unit_place u) as (λ b. has_unit_place u ≡ b → (if b then Some (count_of counts u) else None) ≡ Some k → (has_unit_place u ≡ true) × (count_of counts u ≡ k)) [
      | true ↦ λ has e. (has, some_same e)
      | false ↦ λ none e. absurd (cc)
    ] refl is

pub on_by_count : (cores : List (Option Resource)) (counts : List ℕ) (u : UnitId) (k : ℕ) → AreCounts cores counts → (if has_unit_place u then Some (count_of counts u) else None) ≡ Some k
    → nat_lt 0 k ≡ list_any (λ (e : ℕ × Resource). is_unit e.1.cur u || is_unit e.1.saving u) (numbered_items 0 cores)
on_by_count cores counts u k are is = let both = counted_of counts u k is in counted_as_on u cores k (sym both.1 ∙ are u both.0)

pub none_by_count : (cores : List (Option Resource)) (counts : List ℕ) (u : UnitId) → AreCounts cores counts → (if has_unit_place u then Some (count_of counts u) else None) ≡ Some 0
    → first_place 0 (λ (c : Resource). is_unit c.cur u) cores ≡ None
none_by_count cores counts u are is = let both = counted_of counts u 0 is in uncounted_is_none u 0 cores (sym (are u both.0) ∙ both.1)
