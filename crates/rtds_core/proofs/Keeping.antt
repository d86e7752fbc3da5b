-- What the parts keep over each change.
use Rattle.std.proofs.Common.{◌≡◌, ◌<◌, ◌+◌, ℕ, suc, Bool, true, false, List, [], ◌∷◌, ◌++◌, refl, arith, ap, subst, sym, ◌∙◌, inl, inr, length, map, length-append}
use Rattle.std.specs.Prelude.{Option, Some, None, ◌||◌, ◌==◌, if◌then◌else◌}
use Rattle.std.specs.List.{AllByRecursion}
use Rattle.std.proofs.lemmas.Bool.Decides.{nat_tests}
use Rattle.std.proofs.lemmas.Bool.{cases_Bool, eq-eqb, or_cases}
use Rattle.unit_places.specs.Places.{number_of}
use Rattle.sched_base.specs.declared.Cores.{Cores}
use Rattle.sched_base.specs.declared.Moment.{Moment}
use Rattle.sched_base.specs.declared.UnitId.{UnitId}
use Rattle.sched_model.specs.Places.{has_listed_unit, same_unit}
use Rattle.sched_model.specs.declared.state.RtdsUnit.{RtdsUnit}
use Rattle.sched_model.specs.EligibleUnits.{rtds_unit_at}
use Rattle.sched_model.specs.Rtds.{change_unit}
use Rattle.sched_base.proofs.Bools.{clash, or_left, or_right}
use Rattle.sched_laws.proofs.Choices.{same_unit_same}
use Rattle.sched_base.proofs.Lists.{AllByRecursion-map, AllByRecursion-push}
use Rattle.sched_laws.proofs.RtdsUnits.{rtds_unit-same, rtds_unit-other}
use Rattle.arrival_queue.specs.Queues.{Queued, queued_unit as queued, is_of, put_first, goes_before, list_without as without, closed_up}
use Rattle.arrival_queue.specs.Queues.{has_unit as has_queued}
use Rattle.rtds_queue.specs.Lists.{Lists, key_of, holds, count, rank_of, lists_after_arrival, after_remove, after_renew}
use Rattle.queue_laws.specs.Arrivals.{arrival_order, arrivals, HasUnits, HasIndices}
use Rattle.queue_laws.proofs.Arrivals.{each_arrived, length-arrivals}
use Rattle.queue_laws.proofs.Removed.{each_without, stands, each-append}
use Rattle.queue_laws.proofs.Once.{once_units, each_placed, each_closed}
use Rattle.rtds_core.specs.Best.{queue_of, key_by, IsEligible, IsSpent, AreQueued}
use Rattle.rtds_core.specs.RtdsParts.{IsShaped, IsKept}
use Rattle.rtds_core.proofs.Queues.{IsOrdered, waits}
use Rattle.rtds_core.proofs.Changed.{low_unit}
use Rattle.rtds_core.proofs.Units.{few_units, all_names, count_names, known_named, apart_arrivals}
use Rattle.arrival_queue.proofs.Counting.{has_unit-append, without-append}

-- the units of the queues have small numbers
pub low_queued : (domains : List (Option (List RtdsUnit))) (affinity : List (Option (List Cores))) (q : Lists) → IsShaped domains affinity → AreQueued domains q → HasIndices (q.eligible ++ q.spent)
low_queued domains affinity q is queued =
    each-append (λ (e : Queued). e.unit.n < 256) q.eligible q.spent
    (AllByRecursion-map (IsEligible domains) (λ (e : Queued). e.unit.n < 256) (λ e el. (low_unit domains affinity e.unit el.unit is el.at).byte) q.eligible queued.eligible)
    (AllByRecursion-map (IsSpent domains) (λ (e : Queued). e.unit.n < 256) (λ e sp. (low_unit domains affinity e.unit sp.unit is sp.at).byte) q.spent queued.spent)

-- a unit that waits has a record, and is not on
pub waiting_known : (domains : List (Option (List RtdsUnit))) (q : Lists) (w : UnitId) → AreQueued domains q → has_listed_unit (queue_of q) w ≡ true → (x : RtdsUnit) × (rtds_unit_at domains w ≡ Some x) × (x.burned ≡ None)
waiting_known domains q w queued has = arrived_known (q.eligible ++ q.spent)
    (each-append (λ e. (x : RtdsUnit) × (rtds_unit_at domains e.unit ≡ Some x) × (x.burned ≡ None)) q.eligible q.spent
    (AllByRecursion-map (IsEligible domains) (λ e. (x : RtdsUnit) × (rtds_unit_at domains e.unit ≡ Some x) × (x.burned ≡ None)) (λ e el. (el.unit, el.at, el.off)) q.eligible queued.eligible)
    (AllByRecursion-map (IsSpent domains) (λ e. (x : RtdsUnit) × (rtds_unit_at domains e.unit ≡ Some x) × (x.burned ≡ None)) (λ e sp. (sp.unit, sp.at, sp.off)) q.spent queued.spent)) has
  where
    in_units : (es : List Queued) → AllByRecursion (λ e. (x : RtdsUnit) × (rtds_unit_at domains e.unit ≡ Some x) × (x.burned ≡ None)) es → has_listed_unit (map (λ (e : Queued). e.unit) es) w ≡ true → (x : RtdsUnit) × (rtds_unit_at domains w ≡ Some x) × (x.burned ≡ None)
    in_units [] each has = absurd (cc)
    in_units (e ∷ es) each has = elim (or_cases (same_unit w e.unit) (has_listed_unit (map (λ (x : Queued). x.unit) es) w) has) [
      | inl is ↦ subst (λ (v : UnitId). (x : RtdsUnit) × (rtds_unit_at domains v ≡ Some x) × (x.burned ≡ None)) (sym (same_unit_same w e.unit is)) each.0
      | inr rest ↦ in_units es each.1 rest
    ]

    arrived_known : (es : List Queued) → AllByRecursion (λ e. (x : RtdsUnit) × (rtds_unit_at domains e.unit ≡ Some x) × (x.burned ≡ None)) es → has_listed_unit (arrivals es) w ≡ true → (x : RtdsUnit) × (rtds_unit_at domains w ≡ Some x) × (x.burned ≡ None)
    arrived_known es each has = in_units (arrival_order es) (each_arrived (λ e. (x : RtdsUnit) × (rtds_unit_at domains e.unit ≡ Some x) × (x.burned ≡ None)) es each) has

-- an item of another unit
item_other : (u : UnitId) (e : Queued) → is_of u e ≡ false → same_unit u e.unit ≡ false
item_other u e other = elim (cases_Bool (same_unit u e.unit)) [
  | inl same ↦ absurd (clash (is_of u e) (subst (λ (v : UnitId). (number_of e.unit == number_of v) ≡ true) (sym (same_unit_same u e.unit same)) (eq-eqb (number_of e.unit) (number_of e.unit) refl)) other)
  | inr not_so ↦ not_so
]

module _ (u : UnitId) (f : RtdsUnit → RtdsUnit) (domains : List (Option (List RtdsUnit))) where
  eligible_other : (es : List Queued) → has_queued u es ≡ false → AllByRecursion (IsEligible domains) es → AllByRecursion (IsEligible (change_unit u f domains)) es
  eligible_other [] none each = tt
  eligible_other (e ∷ es) none each = (
    record { unit = each.0.unit; at = rtds_unit-other u e.unit f domains (item_other u e (or_left (is_of u e) (has_queued u es) none)) ∙ each.0.at; off = each.0.off; left = each.0.left; key = each.0.key },
    eligible_other es (or_right (is_of u e) (has_queued u es) none) each.1,
  )

  spent_other : (es : List Queued) → has_queued u es ≡ false → AllByRecursion (IsSpent domains) es → AllByRecursion (IsSpent (change_unit u f domains)) es
  spent_other [] none each = tt
  spent_other (e ∷ es) none each = (
    record { unit = each.0.unit; at = rtds_unit-other u e.unit f domains (item_other u e (or_left (is_of u e) (has_queued u es) none)) ∙ each.0.at; off = each.0.off; left = each.0.left },
    spent_other es (or_right (is_of u e) (has_queued u es) none) each.1,
  )

  -- a change of a unit that does not wait
  pub queued_other : (q : Lists) → holds q u ≡ false → AreQueued domains q → AreQueued (change_unit u f domains) q
  queued_other q none is = record {
    eligible = eligible_other q.eligible (or_left (has_queued u q.eligible) (has_queued u q.spent) none) is.eligible;
    spent = spent_other q.spent (or_right (has_queued u q.eligible) (has_queued u q.spent) none) is.spent;
  }

  -- a change that is no matter of the queues
  pub queued_like : ((x : RtdsUnit) → (f x).left ≡ x.left) → ((x : RtdsUnit) → (f x).burned ≡ x.burned) → ((x : RtdsUnit) → key_by (f x) ≡ key_by x) → (q : Lists) → AreQueued domains q → AreQueued (change_unit u f domains) q
  queued_like lefts ons keys q is = record {
    eligible = AllByRecursion-map (IsEligible domains) (IsEligible (change_unit u f domains)) (λ e el. elim (cases_Bool (same_unit u e.unit)) [
      | inl same ↦
          let at : rtds_unit_at (change_unit u f domains) e.unit ≡ Some (f el.unit) = subst (λ (v : UnitId). rtds_unit_at (change_unit u f domains) v ≡ Some (f el.unit)) (same_unit_same u e.unit same) (rtds_unit-same u f domains el.unit (subst (λ (v : UnitId). rtds_unit_at domains v ≡ Some el.unit) (sym (same_unit_same u e.unit same)) el.at)) in
          record { unit = f el.unit; at = at; off = ons el.unit ∙ el.off; left = (let l = el.left in let e1 = lefts el.unit in omega (arith, l, e1)); key = el.key ∙ sym (ap key_of (keys el.unit)) }
      | inr other ↦ record { unit = el.unit; at = rtds_unit-other u e.unit f domains other ∙ el.at; off = el.off; left = el.left; key = el.key }
    ]) q.eligible is.eligible;
    spent = AllByRecursion-map (IsSpent domains) (IsSpent (change_unit u f domains)) (λ e sp. elim (cases_Bool (same_unit u e.unit)) [
      | inl same ↦
          let at : rtds_unit_at (change_unit u f domains) e.unit ≡ Some (f sp.unit) = subst (λ (v : UnitId). rtds_unit_at (change_unit u f domains) v ≡ Some (f sp.unit)) (same_unit_same u e.unit same) (rtds_unit-same u f domains sp.unit (subst (λ (v : UnitId). rtds_unit_at domains v ≡ Some sp.unit) (sym (same_unit_same u e.unit same)) sp.at)) in
          record { unit = f sp.unit; at = at; off = ons sp.unit ∙ sp.off; left = lefts sp.unit ∙ sp.left }
      | inr other ↦ record { unit = sp.unit; at = rtds_unit-other u e.unit f domains other ∙ sp.at; off = sp.off; left = sp.left }
    ]) q.spent is.spent;
  }

-- a unit that is put
pub queued_put : (domains : List (Option (List RtdsUnit))) (q : Lists) (u : UnitId) (x : RtdsUnit) → rtds_unit_at domains u ≡ Some x → x.burned ≡ None → AreQueued domains q → AreQueued domains (lists_after_arrival q u (key_by x) (x.left == 0))
queued_put domains q u x at off is = by_left (x.left == 0) refl
  where
    by_left : (b : Bool) → (x.left == 0) ≡ b → AreQueued domains (lists_after_arrival q u (key_by x) b)
    by_left true e = record { eligible = is.eligible; spent = AllByRecursion-push (IsSpent domains) q.spent (queued u (key_of (key_by x)) (count q)) is.spent (record { unit = x; at = at; off = off; left = grind (arith, nat_tests, e) }) }
    by_left false e = record { eligible = each_placed (IsEligible domains) (queued u (key_of (key_by x)) (count q)) q.eligible (record { unit = x; at = at; off = off; left = grind (arith, nat_tests, e); key = refl }) is.eligible; spent = is.spent }

-- one that is removed
pub queued_removed : (domains : List (Option (List RtdsUnit))) (q : Lists) (u : UnitId) → AreQueued domains q → AreQueued domains (after_remove q u)
queued_removed domains q u is = record {
  eligible = each_closed (IsEligible domains) (rank_of q u) (without u q.eligible) (λ e el. record { unit = el.unit; at = el.at; off = el.off; left = el.left; key = el.key }) (each_without (IsEligible domains) u q.eligible is.eligible);
  spent = each_closed (IsSpent domains) (rank_of q u) (without u q.spent) (λ e sp. record { unit = sp.unit; at = sp.at; off = sp.off; left = sp.left }) (each_without (IsSpent domains) u q.spent is.spent);
}

none_without : (u : UnitId) (es : List Queued) → has_queued u (without u es) ≡ false
none_without u [] = refl
none_without u (e ∷ es) = elim (cases_Bool (is_of u e)) [
  | inl mine ↦ ap (λ (b : Bool). has_queued u (if b then without u es else e ∷ without u es)) mine ∙ none_without u es
  | inr other ↦ ap (λ (b : Bool). has_queued u (if b then without u es else e ∷ without u es)) other ∙ ap (λ (b : Bool). b || has_queued u (without u es)) other ∙ none_without u es
]

-- one that is changed and renewed, with budget left then
pub queued_renewed : (domains : List (Option (List RtdsUnit))) (q : Lists) (u : UnitId) (f : RtdsUnit → RtdsUnit) (x : RtdsUnit) → rtds_unit_at domains u ≡ Some x → (f x).burned ≡ None → 0 < (f x).left → AreQueued domains q → AreQueued (change_unit u f domains) (after_renew q u (key_by (f x)))
queued_renewed domains q u f x at off left is = record {
  eligible = each_placed (IsEligible (change_unit u f domains)) (queued u (key_of (key_by (f x))) (rank_of q u)) (without u q.eligible)
      (record { unit = f x; at = rtds_unit-same u f domains x at; off = off; left = left; key = refl })
      (eligible_other u f domains (without u q.eligible) (none_without u q.eligible) (each_without (IsEligible domains) u q.eligible is.eligible));
  spent = spent_other u f domains (without u q.spent) (none_without u q.spent) (each_without (IsSpent domains) u q.spent is.spent);
}

-- the counts of the queues
length_put : (p : Queued → Bool) (e : Queued) (xs : List Queued) → length (put_first p e xs) ≡ suc (length xs)
length_put p e [] = refl
length_put p e (x ∷ xs) = elim (p x) as (λ b. length (if b then e ∷ x ∷ xs else x ∷ put_first p e xs) ≡ suc (suc (length xs))) [
  | true ↦ refl
  | false ↦ ap suc (length_put p e xs)
]

length_closed : (r : ℕ) (xs : List Queued) → length (map (closed_up r) xs) ≡ length xs
length_closed r [] = refl
length_closed r (x ∷ xs) = ap suc (length_closed r xs)

pub count_put : (q : Lists) (u : UnitId) (x : RtdsUnit) (b : Bool) → 0 < q.spare → (lists_after_arrival q u (key_by x) b).spare + count (lists_after_arrival q u (key_by x) b) ≡ q.spare + count q
count_put q u x true some = (let e = length-append q.spent (queued u (key_of (key_by x)) (count q) ∷ []) in omega (arith, e, some))
count_put q u x false some = (let e = length_put (goes_before (queued u (key_of (key_by x)) (count q))) (queued u (key_of (key_by x)) (count q)) q.eligible in omega (arith, e, some))

-- without a unit that is there, one less
length_without : (u : UnitId) (es : List Queued) → HasUnits es → has_queued u es ≡ true → length (without u es) + 1 ≡ length es
length_without u es units has =
    let s = stands u es units has in
    let a = ap (λ (xs : List Queued). length xs) s.rest in
    let b = ap (λ (xs : List Queued). length xs) s.is in
    let c = length-append s.lft s.rgt in
    let d = length-append s.lft (s.x ∷ s.rgt) in
    omega (arith, a, b, c, d)

both_without : (q : Lists) (u : UnitId) → IsOrdered q → holds q u ≡ true → length (without u q.eligible) + length (without u q.spent) + 1 ≡ count q
both_without q u is here =
    let all = length_without u (q.eligible ++ q.spent) (once_units (q.eligible ++ q.spent) is.units) (has_unit-append u q.eligible q.spent ∙ here) in
    let parts = ap (λ (xs : List Queued). length xs) (without-append u q.eligible q.spent) in
    let a = length-append (without u q.eligible) (without u q.spent) in
    let b = length-append q.eligible q.spent in
    omega (arith, all, parts, a, b)

pub count_removed : (q : Lists) (u : UnitId) → IsOrdered q → holds q u ≡ true → (after_remove q u).spare + count (after_remove q u) ≡ q.spare + count q
count_removed q u is here =
    let a = length_closed (rank_of q u) (without u q.eligible) in
    let b = length_closed (rank_of q u) (without u q.spent) in
    let c = both_without q u is here in
    omega (arith, a, b, c)

pub count_renewed : (q : Lists) (u : UnitId) (x : RtdsUnit) → IsOrdered q → holds q u ≡ true → (after_renew q u (key_by x)).spare + count (after_renew q u (key_by x)) ≡ q.spare + count q
count_renewed q u x is here =
    let a = length_put (goes_before (queued u (key_of (key_by x)) (rank_of q u))) (queued u (key_of (key_by x)) (rank_of q u)) (without u q.eligible) in
    let c = both_without q u is here in
    omega (arith, a, c)

-- there is room for a unit that does not wait
pub room_left : (domains : List (Option (List RtdsUnit))) (affinity : List (Option (List Cores))) (q : Lists) (masks : List Cores) (dues : List (Option Moment)) (spare latest : ℕ) (u : UnitId) (x : RtdsUnit) → IsKept domains affinity q masks dues spare latest → IsOrdered q
    → rtds_unit_at domains u ≡ Some x → has_listed_unit (queue_of q) u ≡ false → 0 < q.spare
room_left domains affinity q masks dues spare latest u x kept order at none =
    let all : List Queued = q.eligible ++ q.spent in
    let apart = apart_arrivals all (once_units all order.units) (low_queued domains affinity q kept.shape kept.queued) in
    let few = few_units (u ∷ queue_of q) (all_names 0 domains) (none, apart) within in
    let n = count_names 0 domains in
    let l = length-arrivals all in
    let c = length-append q.eligible q.spent in
    let room = kept.room in
    omega (arith, few, n, l, c, room)
  where
    within : (w : UnitId) → has_listed_unit (u ∷ queue_of q) w ≡ true → has_listed_unit (all_names 0 domains) w ≡ true
    within w has = elim (or_cases (same_unit w u) (has_listed_unit (queue_of q) w) has) [
      | inl same ↦ subst (λ (v : UnitId). has_listed_unit (all_names 0 domains) v ≡ true) (sym (same_unit_same w u same)) (known_named domains u x at)
      | inr waits ↦ (let k = waiting_known domains q w kept.queued waits in known_named domains w k.0 k.1)
    ]
