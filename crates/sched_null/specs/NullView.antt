-- What callers see of a null scheduler, with or without its memory.
use Rattle.std.specs.Prelude.{ℕ, List, [], Option, Some, None}
use Rattle.sched_base.specs.declared.UnitId.{UnitId}
use Rattle.sched_model.specs.declared.state.Records.TheVariants.{NullPool}
use Rattle.scheduler_records.specs.Parts.{scheduler_of}
use Rattle.sched_ops.specs.Seen.{Seen}
use Rattle.pool_units.specs.Units.{Units, vacant_units}
use Rattle.sched_null.specs.declared.state.NullParts.{NullParts}

-- the units that are there, or none and no place for one at first
abbrev pub units_in : Option NullParts → Units
units_in None = vacant_units 0 0
units_in (Some parts) = parts.units

-- the units for which the cores are kept, or no core at first
abbrev pub kept_in : Option NullParts → List (Option UnitId)
kept_in None = []
kept_in (Some parts) = parts.kept

-- what callers see of the parts
abbrev pub seen_by : Option NullParts → ℕ → Seen
seen_by parts latest =
    record {
      scheduler = scheduler_of (units_in parts).queue (units_in parts).affinity (NullPool (kept_in parts));
      spare = (units_in parts).spare;
      latest = latest;
    }
