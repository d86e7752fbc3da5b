-- Tests of all units of a list, and of any.
use Rattle.std.proofs.Common.{◌≡◌, Bool, true, false, List, [], ◌∷◌, refl, ap, subst, ◌∙◌}
use Rattle.std.specs.Prelude.{◌||◌}
use Rattle.std.specs.List.{AllByRecursion, list_any}
use Rattle.sched_base.specs.declared.UnitId.{UnitId}
use Rattle.sched_model.specs.Places.{same_unit}
use Rattle.sched_base.proofs.Bools.{or_left, or_right, or_more}
use Rattle.sched_laws.proofs.Choices.{same_unit_same}

-- what holds of all, where it follows for each
pub all_more : (P Q : UnitId → Type 0) (units : List UnitId) → ((u : UnitId) → P u → Q u) → AllByRecursion P units → AllByRecursion Q units
all_more P Q [] more all = tt
all_more P Q (u ∷ units) more all = (more u all.0, all_more P Q units more all.1)

-- where none passes, none is found
pub none_found : (f : UnitId → Bool) (units : List UnitId) → AllByRecursion (λ u. f u ≡ false) units → list_any f units ≡ false
none_found f [] all = refl
none_found f (u ∷ units) all = ap (λ b. b || list_any f units) all.0 ∙ none_found f units all.1

-- where none is found, none passes
pub none_passes : (f : UnitId → Bool) (units : List UnitId) → list_any f units ≡ false → AllByRecursion (λ u. f u ≡ false) units
none_passes f [] none = tt
none_passes f (u ∷ units) none = (or_left (f u) (list_any f units) none, none_passes f units (or_right (f u) (list_any f units) none))

pub more_right : (a b : Bool) → b ≡ true → (a || b) ≡ true
more_right true b is = refl
more_right false b is = is

-- a unit that is in the list and passes is found
pub that_found : (f : UnitId → Bool) (w : UnitId) (units : List UnitId) → list_any (same_unit w) units ≡ true → f w ≡ true → list_any f units ≡ true
that_found f w [] there passes = there
that_found f w (u ∷ units) there passes =
    elim (same_unit w u) as (λ b. same_unit w u ≡ b → (b || list_any (same_unit w) units) ≡ true → (f u || list_any f units) ≡ true) [
      | true ↦ λ same any. or_more (f u) (list_any f units) (subst (λ (x : UnitId). f x ≡ true) (same_unit_same w u same) passes)
      | false ↦ λ other any. more_right (f u) (list_any f units) (that_found f w units any passes)
    ] refl there
