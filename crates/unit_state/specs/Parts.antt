-- What a domain keeps, in a pool and on its way from one pool to another. Moments and spans are in nanoseconds.
use Rattle.std.specs.Prelude.{ℕ, ◌≡◌, ◌≤◌, ◌<◌, ◌*◌, ◌%◌, ◌⊎◌, List, Some, None, slice_get, length}
use Rattle.sched_base.specs.declared.Moment.{Moment}
use Rattle.sched_base.specs.declared.Span.{Span}
use Rattle.sched_model.specs.declared.state.Vcpu.{Vcpu}
use Rattle.sched_model.specs.declared.state.Domain.{Domain}
use Rattle.sched_model.specs.CheckedMachine.{IsCheckedScript, IsGranularity, most_span}
use Rattle.unit_state.specs.declared.part.DomPart.{DomPart}

-- the place is one of a run of the script, or 0 where the script is empty
abbrev pub IsRunPlace : List Span → ℕ → Type 0
IsRunPlace script place = ((length script ≡ 0) × (place ≡ 0)) ⊎ ((place % 2 ≡ 0) × (place < length script))

-- the place is one of a sleep of the script
abbrev pub IsSleepPlace : List Span → ℕ → Type 0
IsSleepPlace script place = (place % 2 ≡ 1) × (place < length script)

-- a vCPU at t. One that sleeps is not started, and one without a script never sleeps and has work without end
pub record IsGuest (t : ℕ) (x : Vcpu) : Type 0 where
  pub script : IsCheckedScript x.script
  pub runs : x.asleep_until ≡ None → IsRunPlace x.script x.place
  pub sleeps : (until : Moment) → x.asleep_until ≡ Some until → IsSleepPlace x.script x.place
  pub until : (until : Moment) → x.asleep_until ≡ Some until → until.0 ≤ 2 * most_span
  pub still : (until : Moment) → x.asleep_until ≡ Some until → x.started ≡ None
  pub work : (work : Span) → x.work_left ≡ Some work → work.0 ≤ most_span
  pub ends : (work : Span) → x.work_left ≡ Some work → 0 < length x.script
  pub started : (from : Moment) → x.started ≡ Some from → from.0 ≤ t

-- a domain at t: 1 to 32 vCPUs
pub record HasGuests (t : ℕ) (d : Domain) : Type 0 where
  pub some : 1 ≤ length d.vcpus
  pub few : length d.vcpus ≤ 32
  pub vcpus : (n : ℕ) (x : Vcpu) → slice_get d.vcpus n ≡ Some x → IsGuest t x

-- none of the domain's vCPUs is started
abbrev pub IsStill : Domain → Type 0
IsStill d = (n : ℕ) (x : Vcpu) → slice_get d.vcpus n ≡ Some x → x.started ≡ None

-- what a domain keeps on its way between two pools
pub record IsPart (part : DomPart) : Type 0 where
  pub number : part.d.0 < 64
  pub granularity : IsGranularity part.granularity
  pub guests : HasGuests 0 part.domain
  pub still : IsStill part.domain
