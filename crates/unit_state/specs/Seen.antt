-- What callers see of a pool's guests, what its calls ask, and what a change of one vCPU or one domain makes of it.
use Rattle.std.specs.Prelude.{ℕ, suc, ◌≡◌, ◌≤◌, ◌+◌, ◌^◌, Bool, false, List, [], ◌∷◌, Option, Some, None, replicate, is_some, if◌then◌else◌}
use Rattle.sched_base.specs.declared.Moment.{Moment}
use Rattle.sched_base.specs.declared.PoolId.{PoolId}
use Rattle.sched_base.specs.declared.VcpuId.{VcpuId}
use Rattle.sched_model.specs.declared.state.Domain.{Domain}
use Rattle.sched_laws.specs.RecordRanges.{IsFrom}
use Rattle.sched_model.specs.Places.{at_place, test_at}
use Rattle.sched_model.specs.State.{is_awake}
use Rattle.sched_base.specs.Numbers.{has_moment_come}
use Rattle.sched_model.specs.Pool.{done_moment, domain_unit_count, vcpu_among}

-- the domains by number, how many vCPUs a unit has, how many units may still be added, and the greatest moment that was given
pub record Seen : Type 0 where
  pub domains : List (Option Domain)
  pub granularity : ℕ
  pub spare : ℕ
  pub latest : ℕ

-- with so many places for domains, all empty, and room for so many units
abbrev pub vacant_guests : ℕ → ℕ → ℕ → Seen
vacant_guests granularity places units = record { domains = replicate places None; granularity = granularity; spare = units; latest = 0 }

-- the moment is not before the greatest one that was given, and at most 10^13
abbrev pub IsNow : Seen → ℕ → Type 0
IsNow seen t = IsFrom seen.latest t

-- whether the vCPU is there and awake
abbrev pub is_awake_among : List (Option Domain) → VcpuId → Bool
is_awake_among domains v = elim (vcpu_among domains v) [ None ↦ false | Some x ↦ is_awake x ]

-- the moment at which the vCPU's work is done, where it is there and started and its work has an end
abbrev pub done_among : List (Option Domain) → VcpuId → Option Moment
done_among domains v = elim (vcpu_among domains v) [ None ↦ None | Some x ↦ done_moment x ]

-- the moment at which the vCPU wakes, where it is there and sleeps
abbrev pub wake_among : List (Option Domain) → VcpuId → Option Moment
wake_among domains v = elim (vcpu_among domains v) [ None ↦ None | Some x ↦ x.asleep_until ]

-- whether the vCPU sleeps and its wake moment has come at t
abbrev pub is_due_among : ℕ → List (Option Domain) → VcpuId → Bool
is_due_among t domains v = has_moment_come t (wake_among domains v)

-- a vCPU that is another's, or comes after it by domain, then by index
pub record IsNotAfter (v w : VcpuId) : Type 0 where
  pub by_domain : v.dom.0 ≤ w.dom.0
  pub then_by_index : v.dom.0 ≡ w.dom.0 → v.n ≤ w.n

-- how many units of g vCPUs stand at a place
abbrev pub units_at : ℕ → Option Domain → ℕ
units_at g None = 0
units_at g (Some d) = domain_unit_count g d

-- whether the domain is there and paused
abbrev pub is_paused_among : List (Option Domain) → ℕ → Bool
is_paused_among domains d = test_at domains d (λ x. x.paused)

-- the pool to which the domain is moving, where it is there and moving
abbrev pub target_among : List (Option Domain) → ℕ → Option PoolId
target_among domains d = elim (at_place domains d) [ None ↦ None | Some x ↦ x.moving ]

-- the set of these domains, of which the first has the number d
abbrev pub domains_from : ℕ → List (Option Domain) → ℕ
domains_from d [] = 0
domains_from d (x ∷ domains) = (if is_some x then 2 ^ d else 0) + domains_from (suc d) domains
