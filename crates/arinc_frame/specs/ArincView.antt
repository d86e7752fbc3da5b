-- What callers see of ARINC 653, with or without its memory.
use Rattle.std.specs.Prelude.{ℕ, Option, Some, None}
use Rattle.sched_model.specs.declared.state.ArincRecords.{ArincRecords}
use Rattle.sched_model.specs.declared.state.Records.TheVariants.{ArincPool}
use Rattle.scheduler_records.specs.Parts.{scheduler_of}
use Rattle.sched_ops.specs.Seen.{Seen}
use Rattle.pool_units.specs.Units.{Units, vacant_units}

-- the units that are kept, or none and no place for one at first
abbrev pub units_by : Option Units → Units
units_by None = vacant_units 0 0
units_by (Some units) = units

-- what callers see of these parts
abbrev pub seen_by : Option Units → ArincRecords → ℕ → Seen
seen_by units records latest =
    record {
      scheduler = scheduler_of (units_by units).queue (units_by units).affinity (ArincPool records);
      spare = (units_by units).spare;
      latest = latest;
    }
