-- The least of some moments, one by one.
use Rattle.std.proofs.Common.{◌≡◌, ◌≤◌, ℕ, zero, suc, Bool, true, false, List, ◌∷◌, refl, arith, subst, cond}
use Rattle.std.specs.Prelude.{Option, Some, None, nat_le}
use Rattle.sched_base.specs.declared.Moment.{Moment}
use Rattle.sched_model.specs.Places.{at_place}
use Rattle.core_state.specs.Firsts.{earlier_of_both}
use Rattle.composition_laws.specs.WholeNext.{ComesSoonest, IsSoonest}

goes_before : (a : Option Moment) (b : Moment) (moments : List (Option Moment)) → ((x : Moment) → a ≡ Some x → b.0 ≤ x.0) → ComesSoonest moments b → ComesSoonest (a ∷ moments) b
goes_before a b moments before found = record { place = suc found.place; there = found.there; least = later }
  where
    later : (i : ℕ) (other : Moment) → at_place (a ∷ moments) i ≡ Some other → b.0 ≤ other.0
    later zero other at = before other at
    later (suc i) other at = found.least i other at

comes_first : (a : Moment) (moments : List (Option Moment)) → ((i : ℕ) (other : Moment) → at_place moments i ≡ Some other → a.0 ≤ other.0) → ComesSoonest (Some a ∷ moments) a
comes_first a moments before = record { place = 0; there = refl; least = later }
  where
    later : (i : ℕ) (other : Moment) → at_place (Some a ∷ moments) i ≡ Some other → a.0 ≤ other.0
    later zero other at = (let same : a ≡ other = cc in subst (λ (x : Moment). a.0 ≤ x.0) same (omega arith))
    later (suc i) other at = before i other at

pub sooner_more : (a : Option Moment) (moments : List (Option Moment)) (found : Option Moment) → IsSoonest moments found → IsSoonest (a ∷ moments) (earlier_of_both a found)
sooner_more None moments None all = λ i. elim i as (λ (k : ℕ). at_place (None ∷ moments) k ≡ None) [ zero ↦ refl | suc k ↦ all k ]
sooner_more None moments (Some b) found = goes_before None b moments (λ x is. absurd (cc)) found
sooner_more (Some a) moments None all = comes_first a moments (λ i other at. absurd (let none = all i in cc))
sooner_more (Some a) moments (Some b) found = by_order (nat_le a.0 b.0) refl
  where
    by_order : (le : Bool) → nat_le a.0 b.0 ≡ le → IsSoonest (Some a ∷ moments) (cond le (Some a) (Some b))
    by_order true is = comes_first a moments (λ i other at. (let l = found.least i other at in let k : a.0 ≤ b.0 = grind (arith, is) in omega (arith, l, k)))
    by_order false is = goes_before (Some a) b moments (λ x same. (let k : b.0 ≤ a.0 = grind (arith, is) in let e : a ≡ x = cc in subst (λ (y : Moment). b.0 ≤ y.0) e k)) found
