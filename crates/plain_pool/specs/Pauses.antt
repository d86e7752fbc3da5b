-- Whether a domain is paused, and how many units it has then.
use Rattle.std.specs.Prelude.{ℕ, Bool, List, Option, Some, None, if◌then◌else◌}
use Rattle.sched_model.specs.declared.state.Domain.{Domain}
use Rattle.sched_model.specs.Places.{at_place, test_at}
use Rattle.sched_model.specs.Pool.{domain_unit_count}

-- whether the domain is there and paused
abbrev pub is_paused_at : ℕ → List (Option Domain) → Bool
is_paused_at d domains = test_at domains d (λ (domain : Domain). domain.paused)

-- how many units the domain has, where it is there and paused
abbrev pub paused_count : ℕ → ℕ → List (Option Domain) → Option ℕ
paused_count g d domains = elim (at_place domains d) [ None ↦ None | Some domain ↦ (if domain.paused then Some (domain_unit_count g domain) else None) ]
