-- The spare pools as they come in at the opening.
use Rattle.std.specs.Prelude.{ℕ, zero, suc, ◌≡◌, ◌≤◌, ◌-◌, [], length}
use Rattle.sched_model.specs.declared.config.Config.{Config}
use Rattle.sched_model.specs.declared.config.SchedKind.{SchedKind}
use Rattle.sched_model.specs.declared.config.SchedKind.TheVariants as kinds
use Rattle.sched_model.specs.Opening.{machine_core_count}
use Rattle.sched_model.specs.Policy.{standard_pool_params}
use Rattle.pool_core.specs.Seen.{Seen, vacant_pool}
use Rattle.machine_parts.specs.declared.counts.KindCounts.{KindCounts}
use Rattle.machine_parts.specs.Counts.{configured_of}
use Rattle.machine_parts.specs.Kinds.{count_of}
use Rattle.unit_state.specs.Guests.{most_units}
use Rattle.machine_parts.specs.Spares.{Shelf, Shelves, shelves_with}

-- a pool of the scheduler that is not in use: it has the machine's places for domains and cores, and room for all units of a machine
abbrev pub spare_seen : Config → SchedKind → Seen
spare_seen config kind = vacant_pool (standard_pool_params kind) config.granularity (length config.domains) (machine_core_count config) most_units

-- with so many of them more
abbrev pub filled_shelves : Config → SchedKind → ℕ → Shelves → Shelves
filled_shelves config kind zero shelves = shelves
filled_shelves config kind (suc n) shelves = shelves_with kind (spare_seen config kind) (filled_shelves config kind n shelves)

-- with as many more as the most pools of the scheduler at once, less those of the file
abbrev pub filled_for : Config → KindCounts → SchedKind → Shelves → Shelves
filled_for config most kind shelves = filled_shelves config kind (count_of kind most - configured_of kind config.pools) shelves

-- the same of each scheduler
abbrev pub filled_up : Config → KindCounts → Shelves → Shelves
filled_up config most shelves = filled_for config most kinds.Null (filled_for config most kinds.Arinc653 (filled_for config most kinds.Rtds (filled_for config most kinds.Credit2 shelves)))

-- the shelf is empty and has room for the most pools of the scheduler at once, which are no fewer than those of the file
pub record CanFill (config : Config) (most : KindCounts) (kind : SchedKind) (shelf : Shelf) : Type 0 where
  pub none : shelf.pools ≡ []
  pub room : count_of kind most ≤ shelf.capacity
  pub enough : configured_of kind config.pools ≤ count_of kind most
