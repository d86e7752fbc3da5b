-- What a pool's guests keep.
use Rattle.std.specs.Prelude.{ℕ, ◌≡◌, ◌≤◌, ◌<◌, ◌+◌, ◌*◌, List, [], ◌∷◌, Option, length}
use Rattle.sched_base.specs.Numbers.{domain}
use Rattle.sched_base.specs.declared.Moment.{Moment}
use Rattle.sched_base.specs.declared.VcpuId.{VcpuId}
use Rattle.sched_model.specs.declared.state.Domain.{Domain}
use Rattle.sched_model.specs.CheckedMachine.{IsGranularity, most_span}
use Rattle.sched_laws.specs.EachPlace.{EachPlace}
use Rattle.due_heap.specs.Dues.{armed_moment}
use Rattle.unit_state.specs.Seen.{Seen, units_at, wake_among}
use Rattle.unit_state.specs.Parts.{HasGuests}

-- the vCPU n of the domain d
abbrev pub vcpu_id : ℕ → ℕ → VcpuId
vcpu_id d n = record { dom = domain d; n = n }

-- the most units that a machine has
abbrev pub most_units : ℕ
most_units = 256

-- how many units of g vCPUs the domains have
abbrev pub units_in : ℕ → List (Option Domain) → ℕ
units_in g [] = 0
units_in g (d ∷ domains) = units_at g d + units_in g domains

-- a multiple of 1, 2 or 4 processors, at most 64 places, and at most 256 units, those that may still be added among them
pub record KeepsGuests (seen : Seen) : Type 0 where
  pub granularity : IsGranularity seen.granularity
  pub places : length seen.domains ≤ 64
  pub units : units_in seen.granularity seen.domains + seen.spare ≤ 256
  pub latest : seen.latest ≤ most_span
  pub guests : EachPlace (HasGuests seen.latest) seen.domains

-- each vCPU that sleeps is armed with its wake moment, and no other is
pub record AreSleepers (domains : List (Option Domain)) (dues : List (Option Moment)) : Type 0 where
  pub ids : length dues ≡ 2048
  pub each : (d n : ℕ) → d < 64 → n < 32 → armed_moment dues (d * 32 + n) ≡ wake_among domains (vcpu_id d n)
