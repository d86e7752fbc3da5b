-- The numbers of a scheduler's records are in range.
use Rattle.std.specs.Prelude.{◌≤◌, ℕ, List, Option, length}
use Rattle.std.specs.List.{All}
use Rattle.std.specs.Option.{ForSome}
use Rattle.sched_model.specs.declared.state.Credit2Records.{Credit2Records}
use Rattle.sched_model.specs.declared.state.RtdsUnit.{RtdsUnit}
use Rattle.sched_model.specs.declared.state.Records.{Records}
use Rattle.sched_model.specs.declared.state.Records.TheVariants.{Credit2Pool, RtdsPool, ArincPool, NullPool}
use Rattle.sched_laws.specs.EachPlace.{EachPlace}
pub use Rattle.sched_laws.specs.RecordRanges.{IsFrame}
use Rattle.sched_laws.specs.RecordRanges.{Credit2InRange, RtdsInRange}

-- the records of a Credit2 pool at t
pub record Credit2Fits (t : ℕ) (records : Credit2Records) : Type 0 where
  pub few_domains : length records.domains ≤ 64
  pub limit : records.limit ≤ 500000
  pub domains : EachPlace (Credit2InRange t) records.domains

-- the records of an RTDS pool at t
pub record RtdsFits (t : ℕ) (units : List (Option (List RtdsUnit))) : Type 0 where
  pub few_domains : length units ≤ 64
  pub domains : EachPlace (All (RtdsInRange t)) units

-- the records of a scheduler at t
abbrev pub RecordsFit : ℕ → Records → Type 0
RecordsFit t (Credit2Pool records) = Credit2Fits t records
RecordsFit t (RtdsPool domains) = RtdsFits t domains
RecordsFit t (ArincPool records) = ForSome records.frame IsFrame
RecordsFit t (NullPool kept) = length kept ≤ 64
