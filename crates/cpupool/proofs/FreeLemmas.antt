-- The set of the cores of no pool has those that stand at a place.
use Rattle.std.proofs.Common.{◌≡◌, ◌+◌, ◌^◌, ℕ, zero, suc, List, [], ◌∷◌, refl, ap, ◌∙◌}
use Rattle.std.specs.Prelude.{Option, Some, None, is_some, map}
use Rattle.sched_base.specs.declared.Moment.{Moment}
use Rattle.sched_model.specs.Opening.{joined_core}
use Rattle.sched_model.specs.Places.{at_place}
use Rattle.sched_model.specs.Pool.{cores_from}
use Rattle.sched_model.specs.State.{has_core_bit}
use Rattle.sched_model.specs.declared.state.Resource.{Resource}
use Rattle.sched_laws.proofs.HomeCores.{home_has}
use Rattle.cpupool.specs.Verdicts.{flags_from}

-- a core of a pool where a free one is
abbrev core_for : Option (List Moment) → Option Resource
core_for None = None
core_for (Some ends) = Some (joined_core ends)

same_set : (r : ℕ) (free : List (Option (List Moment))) → flags_from r (map is_some free) ≡ cores_from r (map core_for free)
same_set r [] = refl
same_set r (None ∷ free) = ap (λ (n : ℕ). 0 + n) (same_set (suc r) free)
same_set r (Some ends ∷ free) = ap (λ (n : ℕ). 2 ^ r + n) (same_set (suc r) free)

same_places : (free : List (Option (List Moment))) (r : ℕ) → is_some (at_place (map core_for free) r) ≡ is_some (at_place free r)
same_places [] r = refl
same_places (None ∷ free) zero = refl
same_places (Some ends ∷ free) zero = refl
same_places (o ∷ free) (suc r) = same_places free r

pub has_free : (free : List (Option (List Moment))) (r : ℕ) → has_core_bit (flags_from 0 (map is_some free)) r ≡ is_some (at_place free r)
has_free free r = ap (λ (n : ℕ). has_core_bit n r) (same_set 0 free) ∙ home_has (map core_for free) r ∙ same_places free r
