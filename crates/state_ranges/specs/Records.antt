-- What the scheduler of a pool keeps of the domains that the pool has.
use Rattle.std.specs.Prelude.{◌≡◌, ◌≤◌, ℕ, List, Option, Some, None, length, ⊤}
use Rattle.sched_model.specs.declared.state.Domain.{Domain}
use Rattle.sched_model.specs.declared.state.Credit2Records.{Credit2Records}
use Rattle.sched_model.specs.declared.state.Credit2Domain.{Credit2Domain}
use Rattle.sched_model.specs.declared.state.RtdsUnit.{RtdsUnit}
use Rattle.sched_model.specs.declared.state.Records.{Records}
use Rattle.sched_model.specs.declared.state.Records.TheVariants.{Credit2Pool, RtdsPool, ArincPool, NullPool}
use Rattle.sched_model.specs.declared.state.Pool.{Pool}
use Rattle.sched_model.specs.Places.{at_place}
use Rattle.sched_model.specs.Pool.{domain_unit_count}
use Rattle.sched_laws.specs.EachPlace.{EachAt, EachPlace}

-- Credit2 has a record of the domain d, with so many units
pub record HasCredit2Record (records : Credit2Records) (d count : ℕ) : Type 0 where
  pub domain : Credit2Domain
  pub at : at_place records.domains d ≡ Some domain
  pub units : length domain.units ≡ count

-- RTDS has records of so many units of the domain d
pub record HasRtdsRecords (domains : List (Option (List RtdsUnit))) (d count : ℕ) : Type 0 where
  pub records : List RtdsUnit
  pub at : at_place domains d ≡ Some records
  pub units : length records ≡ count

-- the scheduler keeps what it needs of the domain d, which has so many units; ARINC 653 and null need nothing
abbrev pub IsRecorded : Records → ℕ → ℕ → Type 0
IsRecorded (Credit2Pool records) d count = HasCredit2Record records d count
IsRecorded (RtdsPool domains) d count = HasRtdsRecords domains d count
IsRecorded (ArincPool records) d count = ⊤
IsRecorded (NullPool kept) d count = ⊤

-- the scheduler keeps nothing of the domain d
abbrev pub IsUnrecorded : Records → ℕ → Type 0
IsUnrecorded (Credit2Pool records) d = at_place records.domains d ≡ None
IsUnrecorded (RtdsPool domains) d = at_place domains d ≡ None
IsUnrecorded (ArincPool records) d = ⊤
IsUnrecorded (NullPool kept) d = ⊤

-- each domain of the pool has a unit, and the pool's scheduler keeps records of all its units, and of no other domain; g is the number of a
-- core's processors
pub record HasRecords (g : ℕ) (pool : Pool) : Type 0 where
  pub some_unit : EachPlace (λ (domain : Domain). 1 ≤ domain_unit_count g domain) pool.domains
  pub recorded : EachAt (λ d (domain : Domain). IsRecorded pool.scheduler.records d (domain_unit_count g domain)) pool.domains
  pub others : (d : ℕ) → at_place pool.domains d ≡ None → IsUnrecorded pool.scheduler.records d
