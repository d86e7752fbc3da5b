-- What a Credit2 pool keeps of its units.
use Rattle.std.specs.Prelude.{ℕ, ◌≡◌, ◌<◌, true, List, Option, Some, None, slice_get}
use Rattle.sched_base.specs.declared.UnitId.{UnitId}
use Rattle.sched_model.specs.declared.state.Credit2Domain.{Credit2Domain}
use Rattle.sched_model.specs.declared.state.Credit2Records.{Credit2Records}
use Rattle.sched_model.specs.declared.state.Credit2Unit.{Credit2Unit}
use Rattle.sched_model.specs.declared.state.Pool.{Pool}
use Rattle.sched_model.specs.declared.state.Records.{Records}
use Rattle.sched_model.specs.declared.state.Records.TheVariants.{Credit2Pool, RtdsPool, ArincPool, NullPool}
use Rattle.sched_model.specs.declared.state.Resource.{Resource}
use Rattle.sched_model.specs.Places.{at_place, has_listed_unit}

-- the unit has a record
pub record HasRecord (records : Credit2Records) (u : UnitId) : Type 0 where
  pub domain : Credit2Domain
  pub unit : Credit2Unit
  pub at : at_place records.domains u.dom.0 ≡ Some domain
  pub there : slice_get domain.units u.n ≡ Some unit

-- the unit has a record, and is not on
pub record IsOff (records : Credit2Records) (u : UnitId) : Type 0 where
  pub known : HasRecord records u
  pub off : known.unit.burned ≡ None

-- the units that wait have records and are not on, those that cores have as their own have records, and what is left of each unit's
-- charge is below its domain's weight
pub record AreReady (queue : List UnitId) (cores : List (Option Resource)) (records : Credit2Records) : Type 0 where
  pub waits : (u : UnitId) → has_listed_unit queue u ≡ true → IsOff records u
  pub runs : (r : ℕ) (c : Resource) (u : UnitId) → at_place cores r ≡ Some c → c.cur ≡ Some u → HasRecord records u
  pub cut : (i n : ℕ) (d : Credit2Domain) (x : Credit2Unit) → at_place records.domains i ≡ Some d → slice_get d.units n ≡ Some x → x.residual < d.weight

-- the same of a pool; nothing where it is not a Credit2 pool
abbrev pub AreReadyBy : Records → Pool → Type 0
AreReadyBy (Credit2Pool records) pool = AreReady pool.scheduler.queue pool.resources records
AreReadyBy (RtdsPool domains) pool = Unit {0}
AreReadyBy (ArincPool records) pool = Unit {0}
AreReadyBy (NullPool kept) pool = Unit {0}

-- what is left of each charge is below the weight of the unit's domain; nothing where it is not Credit2
abbrev pub AreCut : Records → Type 0
AreCut (Credit2Pool records) = (i n : ℕ) (d : Credit2Domain) (x : Credit2Unit) → at_place records.domains i ≡ Some d → slice_get d.units n ≡ Some x → x.residual < d.weight
AreCut (RtdsPool domains) = Unit {0}
AreCut (ArincPool records) = Unit {0}
AreCut (NullPool kept) = Unit {0}
