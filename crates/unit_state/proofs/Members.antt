-- The set of the domains has those that stand at a place.
use Rattle.std.proofs.Common.{◌≡◌, ◌+◌, ◌^◌, ℕ, zero, suc, List, [], ◌∷◌, refl, ap, ◌∙◌}
use Rattle.std.specs.Prelude.{Option, Some, None, is_some, map}
use Rattle.sched_model.specs.Opening.{joined_core}
use Rattle.sched_model.specs.Places.{at_place}
use Rattle.sched_model.specs.Pool.{cores_from}
use Rattle.sched_model.specs.State.{has_core_bit}
use Rattle.sched_model.specs.declared.state.Domain.{Domain}
use Rattle.sched_model.specs.declared.state.Resource.{Resource}
use Rattle.sched_laws.proofs.HomeCores.{home_has}
use Rattle.unit_state.specs.Seen.{domains_from}

-- a core where a domain is
abbrev core_for : Option Domain → Option Resource
core_for None = None
core_for (Some x) = Some (joined_core [])

same_set : (d : ℕ) (domains : List (Option Domain)) → domains_from d domains ≡ cores_from d (map core_for domains)
same_set d [] = refl
same_set d (None ∷ domains) = ap (λ (n : ℕ). 0 + n) (same_set (suc d) domains)
same_set d (Some x ∷ domains) = ap (λ (n : ℕ). 2 ^ d + n) (same_set (suc d) domains)

same_places : (domains : List (Option Domain)) (d : ℕ) → is_some (at_place (map core_for domains) d) ≡ is_some (at_place domains d)
same_places [] d = refl
same_places (None ∷ domains) zero = refl
same_places (Some x ∷ domains) zero = refl
same_places (x ∷ domains) (suc d) = same_places domains d

pub has_domain : (domains : List (Option Domain)) (d : ℕ) → has_core_bit (domains_from 0 domains) d ≡ is_some (at_place domains d)
has_domain domains d = ap (λ (n : ℕ). has_core_bit n d) (same_set 0 domains) ∙ home_has (map core_for domains) d ∙ same_places domains d
