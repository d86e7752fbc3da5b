-- Which units the records of a scheduler have on a core after a decision.
use Rattle.std.specs.Prelude.{◌&&◌, ◌||◌, Bool, true, false, not, None, Some, is_some, slice_get}
use Rattle.sched_base.specs.declared.UnitId.{UnitId}
use Rattle.sched_model.specs.declared.ask.Ask.{Ask}
use Rattle.sched_model.specs.declared.state.Records.{Records}
use Rattle.sched_model.specs.declared.state.Records.TheVariants.{Credit2Pool, RtdsPool, ArincPool, NullPool}
use Rattle.sched_model.specs.Places.{at_place, is_unit}
use Rattle.sched_model.specs.EligibleUnits.{Decision, rtds_unit_at}
use Rattle.sched_ops.specs.Conditions.{is_on}

-- whether the scheduler keeps a record of each unit: Credit2 and RTDS do
abbrev pub keeps_records : Records → Bool
keeps_records (Credit2Pool records) = true
keeps_records (RtdsPool domains) = true
keeps_records (ArincPool records) = false
keeps_records (NullPool kept) = false

-- whether it has a record of the unit
abbrev pub has_record : Records → UnitId → Bool
has_record (Credit2Pool records) u = elim (at_place records.domains u.dom.0) [ None ↦ false | Some d ↦ is_some (slice_get d.units u.n) ]
has_record (RtdsPool domains) u = is_some (rtds_unit_at domains u)
has_record (ArincPool records) u = false
has_record (NullPool kept) u = false

-- whether the unit is on after the decision: it was chosen and has a record, or was on and is not the core's own
abbrev pub is_on_after : Ask → Decision → Records → UnitId → Bool
is_on_after ask decision records w = (is_unit decision.unit w && has_record records w) || (is_on records w && not (is_unit ask.cur w))
