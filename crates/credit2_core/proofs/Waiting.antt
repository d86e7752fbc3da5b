-- The order of arrival of the units of a run queue after each of its calls, and its first unit.
use Rattle.std.proofs.Common.{◌≡◌, ◌<◌, Bool, true, false, List, [], ◌∷◌, ◌++◌, length, map, refl, sym, ap, ◌∙◌, subst, arith, inl, inr}
use Rattle.std.specs.Prelude.{ℕ, Option, Some, None, filter, not, ◌||◌, ◌&&◌, int_lt, nat_lt, if◌then◌else◌, ℤ, neg_ℤ}
use Rattle.std.specs.List.{AllByRecursion}
use Rattle.std.proofs.lemmas.Int.{ints}
use Rattle.std.proofs.lemmas.List.{append-nil}
use Rattle.std.proofs.lemmas.Bool.{cases_Bool}
use Rattle.sched_base.specs.declared.UnitId.{UnitId}
use Rattle.sched_model.specs.declared.state.Credit2Records.{Credit2Records}
use Rattle.sched_model.specs.Places.{without_unit}
use Rattle.sched_model.specs.Places as places
use Rattle.sched_model.specs.Credit2.{richest_unit, unit_credit, is_rate_limited, has_more_credit, change_unit, burned_unit, most_weight}
use Rattle.arrival_queue.specs.declared.key.Key.{Key}
use Rattle.arrival_queue.specs.Queues.{Queued, queued_unit, list_with, list_without, rank_in, closed_up, has_unit, is_lesser_key, goes_before}
use Rattle.arrival_queue.specs.Filters.{first_that}
use Rattle.arrival_queue.specs.Order.{GoesBeforeAll, IsInOrder, EachRankOnce, EachUnitOnce}
use Rattle.queue_laws.specs.Arrivals.{arrivals, HasRanks, RanksBelow, HasUnits, HasIndices, least_by, own_or}
use Rattle.queue_laws.proofs.Arrivals.{arrivals_placed}
use Rattle.queue_laws.proofs.Removed.{arrivals_removed, arrivals_moved, lacks_own}
use Rattle.queue_laws.proofs.Removed as laws
use Rattle.queue_laws.proofs.Scan.{first_is_least, least_by_own}
use Rattle.queue_laws.proofs.Once.{once_ranks, once_below, once_units}
use Rattle.credit2_core.specs.Keys.{HasCredits, key_in}
use Rattle.credit2_core.specs.Choice.{richer_of, is_better_of}
use Rattle.credit2_core.proofs.Lists.{queued_have}

-- what the queue tells of its order
pub record IsOrdered (es : List Queued) : Type 0 where
  pub order : IsInOrder es
  pub ranks : EachRankOnce es
  pub units : EachUnitOnce es

-- each unit of the list has a small index
abbrev pub AreSmall : List UnitId → Type 0
AreSmall units = AllByRecursion (λ (u : UnitId). u.n < 256) units

pub placed_arrivals : (u : UnitId) (k : Key) (es : List Queued) → IsOrdered es → arrivals (list_with (queued_unit u k (length es)) es) ≡ arrivals es ++ u ∷ []
placed_arrivals u k es ordered =
    let none : es ++ [] ≡ es = append-nil es in
    ap arrivals (sym (append-nil (list_with (queued_unit u k (length es)) es)))
    ∙ arrivals_placed u k (length es) es [] (subst (RanksBelow (length es)) (sym none) (once_below es ordered.ranks))
    ∙ ap (λ (xs : List Queued). arrivals xs ++ u ∷ []) none

pub removed_arrivals : (u : UnitId) (es : List Queued) → IsOrdered es → u.n < 256 → AreSmall (arrivals es) → has_unit u es ≡ true → arrivals (map (closed_up (rank_in u es)) (list_without u es)) ≡ without_unit u (arrivals es)
removed_arrivals u es ordered low small there =
    arrivals_removed u (rank_in u es) es (once_ranks es ordered.ranks) low (queued_have (λ (w : UnitId). w.n < 256) es small) (lacks_own u es (once_ranks es ordered.ranks) (once_units es ordered.units) there)

pub moved_arrivals : (u : UnitId) (k : Key) (es : List Queued) → IsOrdered es → u.n < 256 → AreSmall (arrivals es) → has_unit u es ≡ true → arrivals (list_with (queued_unit u k (rank_in u es)) (list_without u es)) ≡ arrivals es
moved_arrivals u k es ordered low small there =
    let none : es ++ [] ≡ es = append-nil es in
    ap arrivals (sym (append-nil (list_with (queued_unit u k (rank_in u es)) (list_without u es))))
    ∙ arrivals_moved u k es [] (subst HasRanks (sym none) (once_ranks es ordered.ranks)) (subst HasUnits (sym none) (once_units es ordered.units)) low (subst HasIndices (sym none) (queued_have (λ (w : UnitId). w.n < 256) es small))
    (subst (λ (xs : List Queued). has_unit u xs ≡ true) (sym none) there) (rank_in u es) (ap (rank_in u) (sym none))
    ∙ ap arrivals none

-- whether a unit waits, by its number and by its name
pub has_arrived : (u : UnitId) (es : List Queued) → u.n < 256 → AreSmall (arrivals es) → has_unit u es ≡ places.has_listed_unit (arrivals es) u
has_arrived u es low small = sym (laws.has_arrived u es low (queued_have (λ (w : UnitId). w.n < 256) es small))

less_key : (a b : ℤ) → is_lesser_key (record { first = neg_ℤ a; second = 0 }) (record { first = neg_ℤ b; second = 0 }) ≡ int_lt b a
less_key a b = elim (cases_Bool (int_lt b a)) [
  | inl is ↦ (let e : int_lt (neg_ℤ a) (neg_ℤ b) ≡ true = lower a b is in rw (e, is) refl)
  | inr is ↦ (let e : int_lt (neg_ℤ a) (neg_ℤ b) ≡ false = higher a b is in rw (e, is) (no_less (int_lt (neg_ℤ b) (neg_ℤ a))))
]
  where
    lower : (a b : ℤ) → int_lt b a ≡ true → int_lt (neg_ℤ a) (neg_ℤ b) ≡ true
    lower a b is = grind (arith, ints, is)

    higher : (a b : ℤ) → int_lt b a ≡ false → int_lt (neg_ℤ a) (neg_ℤ b) ≡ false
    higher a b is = grind (arith, ints, is)

    no_less : (b : Bool) → (not b && nat_lt 0 0) ≡ false
    no_less true = refl
    no_less false = refl

greatest_least : (records : Credit2Records) (best : Option UnitId) (units : List UnitId) → richest_unit records best units ≡ least_by (key_in records) best units
greatest_least records best [] = refl
greatest_least records None (u ∷ units) = greatest_least records (Some u) units
greatest_least records (Some best) (u ∷ units) =
    ap (λ (b : Bool). richest_unit records (Some (if b then u else best)) units) (sym (less_key (unit_credit records u) (unit_credit records best)))
    ∙ greatest_least records (Some (if is_lesser_key (key_in records u) (key_in records best) then u else best)) units

pub first_greatest : (records : Credit2Records) (p : UnitId → Bool) (es : List Queued) → IsOrdered es → HasCredits records es → first_that p es ≡ richest_unit records None (filter p (arrivals es))
first_greatest records p es ordered keys = first_is_least (key_in records) p es ordered.order keys ∙ sym (greatest_least records None (filter p (arrivals es)))

-- of a unit and those that wait: the unit, or the first of those that wait where it has more credit
pub greatest_own : (records : Credit2Records) (own : UnitId) (units : List UnitId) → richest_unit records (Some own) units ≡ richer_of records own (richest_unit records None units)
greatest_own records own units =
    greatest_least records (Some own) units ∙ least_by_own (key_in records) own units ∙ by_found (least_by (key_in records) None units) ∙ ap (richer_of records own) (sym (greatest_least records None units))
  where
    by_found : (o : Option UnitId) → ◌≡◌ {A = Option UnitId} (Some (own_or (key_in records) own o)) (richer_of records own o)
    by_found None = refl
    by_found (Some u) = ap (λ (b : Bool). Some (if b then u else own)) (less_key (unit_credit records u) (unit_credit records own))

-- of two units in the order of the queue the second has no more credit
no_richer : (records : Credit2Records) (a b : Queued) → a.key ≡ key_in records a.unit → b.key ≡ key_in records b.unit → goes_before a b ≡ true → int_lt (unit_credit records a.unit) (unit_credit records b.unit) ≡ false
no_richer records a b own other before = elim (cases_Bool (int_lt (unit_credit records a.unit) (unit_credit records b.unit))) [
  | inl is ↦ (
      let first : is_lesser_key a.key b.key ≡ false =
      ap (λ (k : Key). is_lesser_key k b.key) own ∙ ap (is_lesser_key (key_in records a.unit)) other ∙ less_key (unit_credit records a.unit) (unit_credit records b.unit)
      ∙ turned (unit_credit records a.unit) (unit_credit records b.unit) is
      in
      let second : is_lesser_key b.key a.key ≡ true =
      ap (λ (k : Key). is_lesser_key k a.key) other ∙ ap (is_lesser_key (key_in records b.unit)) own ∙ less_key (unit_credit records b.unit) (unit_credit records a.unit) ∙ is
      in
      absurd (no_way (is_lesser_key a.key b.key) (is_lesser_key b.key a.key) (nat_lt a.rank b.rank) first second before)
      )
  | inr is_not ↦ is_not
]
  where
    turned : (a b : ℤ) → int_lt a b ≡ true → int_lt b a ≡ false
    turned a b is = grind (arith, ints, is)

    no_way : (x y z : Bool) → x ≡ false → y ≡ true → (x || not y && z) ≡ true → ⊥
    no_way x y z e f before = let g : false ≡ true = sym (ap (λ (b : Bool). b || not y && z) e ∙ ap (λ (b : Bool). not b && z) f) ∙ before in absurd (cc)

-- where no unit passes one test, none passes two
pub first_of_none : (p q : UnitId → Bool) (es : List Queued) → first_that q es ≡ None → first_that (λ u. p u && q u) es ≡ None
first_of_none p q [] none = refl
first_of_none p q (e ∷ es) none =
    elim (q e.unit) as (λ b. (if b then Some e.unit else first_that q es) ≡ None → (if p e.unit && b then Some e.unit else first_that (λ u. p u && q u) es) ≡ None) [
      | true ↦ λ some. absurd (cc)
      | false ↦ λ rest. elim (p e.unit) as (λ a. (if a && false then Some e.unit else first_that (λ u. p u && q u) es) ≡ None) [ true ↦ first_of_none p q es rest | false ↦ first_of_none p q es rest ]
    ] none

-- the first that passes one test is the first that passes two, where it passes the other
pub first_of_both : (p q : UnitId → Bool) (es : List Queued) (u : UnitId) → first_that q es ≡ Some u → p u ≡ true → first_that (λ w. p w && q w) es ≡ Some u
first_of_both p q [] u found passes = found
first_of_both p q (e ∷ es) u found passes =
    elim (q e.unit) as (λ b. (if b then Some e.unit else first_that q es) ≡ Some u → (if p e.unit && b then Some e.unit else first_that (λ w. p w && q w) es) ≡ Some u) [
      | true ↦ λ is. (let own : p e.unit ≡ true = ap p (same_some is) ∙ passes in rw own is)
      | false ↦ λ rest. elim (p e.unit) as (λ a. (if a && false then Some e.unit else first_that (λ w. p w && q w) es) ≡ Some u) [ true ↦ first_of_both p q es u rest passes | false ↦ first_of_both p q es u rest passes ]
    ] found
  where
    same_some : Some e.unit ≡ Some u → e.unit ≡ u
    same_some is = cc

-- where the first unit that passes one test is no better than the core's own, no unit is that passes two
pub none_better : (records : Credit2Records) (own : UnitId) (since t : ℕ) (p q : UnitId → Bool) (es : List Queued) → IsInOrder es → HasCredits records es
    → is_better_of records own since t (first_that q es) ≡ false → is_better_of records own since t (first_that (λ u. p u && q u) es) ≡ false
none_better records own since t p q [] order keys worse_first = refl
none_better records own since t p q (e ∷ es) order keys worse_first =
    elim (q e.unit) as (λ b. is_better_of records own since t (if b then Some e.unit else first_that q es) ≡ false → is_better_of records own since t (if p e.unit && b then Some e.unit else first_that both es) ≡ false) [
      | true ↦ λ worse_own. elim (p e.unit) as (λ a. is_better_of records own since t (if a && true then Some e.unit else first_that both es) ≡ false) [ true ↦ worse_own | false ↦ behind worse_own es order.0 keys.1 ]
      | false ↦ λ worse_rest. elim (p e.unit) as (λ a. is_better_of records own since t (if a && false then Some e.unit else first_that both es) ≡ false) [
        | true ↦ none_better records own since t p q es order.1 keys.1 worse_rest
        | false ↦ none_better records own since t p q es order.1 keys.1 worse_rest
      ]
    ] worse_first
  where
    both : UnitId → Bool
    both u = p u && q u

    burned : ℤ
    burned = unit_credit (change_unit own (burned_unit (most_weight records) t) records) own

    still : (w : Bool) (b c d : ℤ) → (w && int_lt b c) ≡ false → int_lt c d ≡ false → (w && int_lt b d) ≡ false
    still false b c d first second = refl
    still true b c d first second = grind (arith, ints, first, second)

    worse : has_more_credit records own since t e.unit ≡ false → (x : Queued) → goes_before e x ≡ true → x.key ≡ key_in records x.unit → has_more_credit records own since t x.unit ≡ false
    worse worse_own x before key = still (not (is_rate_limited records since t)) burned (unit_credit records e.unit) (unit_credit records x.unit) worse_own (no_richer records e x keys.0 key before)

    behind : has_more_credit records own since t e.unit ≡ false → (xs : List Queued) → GoesBeforeAll e xs → HasCredits records xs → is_better_of records own since t (first_that both xs) ≡ false
    behind worse_own [] before each = refl
    behind worse_own (x ∷ xs) before each =
        elim (p x.unit && q x.unit) as (λ b. is_better_of records own since t (if b then Some x.unit else first_that both xs) ≡ false) [ true ↦ worse worse_own x before.0 each.0 | false ↦ behind worse_own xs before.1 each.1 ]
