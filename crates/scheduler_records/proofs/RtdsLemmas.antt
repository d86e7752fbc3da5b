-- The record of one unit: read, and put back changed.
use Rattle.std.proofs.Common.{◌≡◌, ◌≤◌, ◌-◌, ℕ, zero, suc, List, [], ◌∷◌, ◌∙◌, refl, sym, ap, arith, cond}
use Rattle.std.specs.Prelude.{Option, Some, None, option_map, slice_get, slice_set, slice_index_or, nat_lt}
use Rattle.std.specs.List.{AllByRecursion}
use Rattle.std.proofs.lemmas.List.Elements.{recursion_from_All}
use Rattle.sched_base.specs.declared.UnitId.{UnitId}
use Rattle.sched_base.proofs.Lists.{each_get}
use Rattle.sched_model.specs.declared.state.RtdsUnit.{RtdsUnit}
use Rattle.sched_model.specs.Places.{at_place, change_item}
use Rattle.sched_model.specs.EligibleUnits.{rtds_unit_at}
use Rattle.sched_model.specs.Rtds.{change_unit, unit_burned_to, own_burned_domains, unit_left_budget}
use Rattle.sched_laws.specs.EachPlace.{EachPlace}
use Rattle.sched_laws.proofs.EachPlace.{EachPlace-change_at, by_option, by_cond}
use Rattle.sched_laws.specs.RecordRanges.{RtdsInRange}
use Rattle.sched_laws.proofs.Lists.{AllByRecursion-change_item}
use Rattle.scheduler_records.specs.Fits.{RtdsFits}
use Rattle.scheduler_records.proofs.Items.{change_item-none}

-- an item that is there is changed as it is
change_item-there : {X : Type 0} (i : ℕ) (f : X → X) (xs : List X) (x : X) → slice_get xs i ≡ Some x → change_item i (λ y. f x) xs ≡ change_item i f xs
change_item-there i f [] x there = refl
change_item-there zero f (y ∷ xs) x there = let same : y ≡ x = cc in ap (λ z. f z ∷ xs) (sym same)
change_item-there (suc i) f (y ∷ xs) x there = ap (λ ys. y ∷ ys) (change_item-there i f xs x there)

-- what stands at a place, put there again
slice_set-same : {X : Type 0} (xs : List X) (i : ℕ) (d : X) → slice_set xs i (slice_index_or xs i d) ≡ xs
slice_set-same [] i d = refl
slice_set-same (x ∷ xs) zero d = refl
slice_set-same (x ∷ xs) (suc i) d = ap (λ ys. x ∷ ys) (slice_set-same xs i d)

module _ (domains : List (Option (List RtdsUnit))) (u : UnitId) (f : RtdsUnit → RtdsUnit) where
  -- the record that is there is changed as it is
  pub change_unit-there : (x : RtdsUnit) → rtds_unit_at domains u ≡ Some x → change_unit u (λ y. f x) domains ≡ change_unit u f domains
  change_unit-there x there =
      elim (at_place domains u.dom.0) as (λ (o : Option (List RtdsUnit)). (elim o as (λ _. Option RtdsUnit) [ None ↦ None | Some units ↦ slice_get units u.n ]) ≡ Some x → slice_set domains u.dom.0 (option_map (change_item u.n (λ y. f x)) o) ≡ slice_set domains u.dom.0 (option_map (change_item u.n f) o)) [
        | None ↦ λ is. refl
        | Some units ↦ λ is. ap (λ (ys : List RtdsUnit). slice_set domains u.dom.0 (Some ys)) (change_item-there u.n f units x is)
      ] there

  -- where there is no record, nothing is changed
  pub change_unit-none : rtds_unit_at domains u ≡ None → change_unit u f domains ≡ domains
  change_unit-none none =
      elim (at_place domains u.dom.0) as (λ (o : Option (List RtdsUnit)). at_place domains u.dom.0 ≡ o → (elim o as (λ _. Option RtdsUnit) [ None ↦ None | Some units ↦ slice_get units u.n ]) ≡ None → slice_set domains u.dom.0 (option_map (change_item u.n f) o) ≡ domains) [
        | None ↦ λ at is. ap (slice_set domains u.dom.0) (sym at) ∙ slice_set-same domains u.dom.0 None
        | Some units ↦ λ at is. ap (λ (ys : List RtdsUnit). slice_set domains u.dom.0 (Some ys)) (change_item-none u.n f units is) ∙ ap (slice_set domains u.dom.0) (sym at) ∙ slice_set-same domains u.dom.0 None
      ] refl none

-- neither what is left nor a full budget is more than the longest
record IsLow (x : RtdsUnit) : Type 0 where
  pub left : x.left ≤ 1000000000000
  pub budget : x.budget ≤ 1000000000000

low_in_range : (t : ℕ) (x : RtdsUnit) → RtdsInRange t x → IsLow x
low_in_range t x fits = let b = fits.budget.most in let l = fits.left in record { left = omega (arith, b, l); budget = b }

low_burned : (t : ℕ) (x : RtdsUnit) → IsLow x → IsLow (unit_burned_to t x)
low_burned t x low = by_option IsLow x.burned _ _ (λ is. low) (λ from is. record { left = charged (t - from); budget = low.budget })
  where
    charged : (elapsed : ℕ) → cond (nat_lt elapsed x.left) (x.left - elapsed) (cond x.extra x.budget 0) ≤ 1000000000000
    charged elapsed =
        let l = low.left in
        let b = low.budget in
        by_cond (λ k. k ≤ 1000000000000) (nat_lt elapsed x.left) _ _ (λ is. omega (arith, l)) (λ is. by_cond (λ k. k ≤ 1000000000000) x.extra _ _ (λ e. b) (λ e. omega arith))

all_low : (t : ℕ) (xs : List RtdsUnit) → AllByRecursion (RtdsInRange t) xs → AllByRecursion IsLow xs
all_low t [] each = tt
all_low t (x ∷ xs) each = (low_in_range t x each.0, all_low t xs each.1)

each_low : (t : ℕ) (domains : List (Option (List RtdsUnit))) → RtdsFits t domains → EachPlace (AllByRecursion IsLow) domains
each_low t domains fits i units at = all_low t units (recursion_from_All (RtdsInRange t) units (fits.domains i units at))

low_left : (domains : List (Option (List RtdsUnit))) (u : UnitId) → EachPlace (AllByRecursion IsLow) domains → unit_left_budget domains u ≤ 1000000000000
low_left domains u each =
    by_option (λ (k : ℕ). k ≤ 1000000000000) (rtds_unit_at domains u) _ _ (λ none. omega arith) (λ x there. (unit_low x there).left)
  where
    unit_low : (x : RtdsUnit) → rtds_unit_at domains u ≡ Some x → IsLow x
    unit_low x there =
        by_option (λ (o : Option RtdsUnit). o ≡ Some x → IsLow x) (at_place domains u.dom.0) _ _ (λ none e. absurd (cc)) (λ units at e. each_get IsLow units u.n x (each u.dom.0 units at) e) there

-- no unit has more left than the longest budget, also after the core's own is charged
pub left_low : (cur : Option UnitId) (t : ℕ) (domains : List (Option (List RtdsUnit))) (u : UnitId) → RtdsFits t domains → unit_left_budget (own_burned_domains cur t domains) u ≤ 1000000000000
left_low None t domains u fits = low_left domains u (each_low t domains fits)
left_low (Some own) t domains u fits =
    low_left (own_burned_domains (Some own) t domains) u
    (EachPlace-change_at (AllByRecursion IsLow) own.dom.0 (change_item own.n (unit_burned_to t)) domains (each_low t domains fits)
    (λ units at each. AllByRecursion-change_item IsLow own.n (unit_burned_to t) units (λ x there low. low_burned t x low) each))
