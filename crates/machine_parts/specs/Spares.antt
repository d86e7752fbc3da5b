-- Spare pools: those that wait for a command that makes a pool.
use Rattle.std.specs.Prelude.{ℕ, ◌≡◌, ◌≤◌, ◌++◌, ◌∷◌, [], true, false, List, length}
use Rattle.std.specs.List.{All}
use Rattle.sched_model.specs.declared.config.Config.{Config}
use Rattle.sched_model.specs.declared.config.PoolParams.{PoolParams}
use Rattle.sched_model.specs.declared.config.SchedKind.{SchedKind}
use Rattle.sched_model.specs.declared.config.SchedKind.TheVariants as kinds
use Rattle.sched_model.specs.declared.machine.Machine.{Machine}
use Rattle.sched_model.specs.declared.state.Records.{Records}
use Rattle.sched_model.specs.declared.state.Records.TheVariants.{NullPool}
use Rattle.sched_model.specs.Opening.{machine_core_count, fresh_pool}
use Rattle.sched_model.specs.Policy.{records_kind}
use Rattle.pool_core.specs.Seen.{Seen, IsEmpty}
use Rattle.unit_state.specs.Guests.{most_units}

-- a pool of this scheduler that is not in use: it has neither a domain nor a core, and has room for all units of a machine
pub record IsIdle (kind : SchedKind) (seen : Seen) : Type 0 where
  pub unused : seen.in_use ≡ false
  pub empty : IsEmpty seen.pool
  pub kind_is : records_kind seen.pool.scheduler.records ≡ kind
  pub room : seen.spare ≡ most_units

-- the records of null have a place for each core
abbrev pub HasCorePlaces : ℕ → Records → Type 0
HasCorePlaces cores (NullPool kept) = length kept ≡ cores
HasCorePlaces cores _ = Unit {0}

-- the pool has the machine's places for domains and cores, its cores have as many processors as the machine's, and no later moment was
-- given to it
pub record SpareSuits (m : Machine) (now : ℕ) (seen : Seen) : Type 0 where
  pub domains : length seen.pool.domains ≡ length m.config.domains
  pub affinity : length seen.pool.scheduler.affinity ≡ length m.config.domains
  pub cores : length seen.pool.resources ≡ machine_core_count m.config
  pub records : HasCorePlaces (machine_core_count m.config) seen.pool.scheduler.records
  pub granularity : seen.granularity ≡ m.config.granularity
  pub latest : seen.latest ≤ now

-- a pool of this scheduler that a command of the machine may make
pub record IsSpare (m : Machine) (now : ℕ) (kind : SchedKind) (seen : Seen) : Type 0 where
  pub idle : IsIdle kind seen
  pub suits : SpareSuits m now seen

-- a pool of the machine with these parameters, in use, without a domain or a core; the greatest moment that was given to it is the latest
abbrev pub made_seen : Config → PoolParams → ℕ → Seen
made_seen config params latest = record { pool = fresh_pool config params; granularity = config.granularity; spare = most_units; latest = latest; in_use = true }

-- pools of one scheduler, of which the last is taken first, and how many there may be without taking memory
pub record Shelf : Type 0 where
  pub pools : List Seen
  pub capacity : ℕ

-- with one pool more
abbrev pub shelf_with : Seen → Shelf → Shelf
shelf_with seen shelf = record shelf { pools = shelf.pools ++ seen ∷ [] }

-- the spare pools of each scheduler
pub record Shelves : Type 0 where
  pub credit2 : Shelf
  pub rtds : Shelf
  pub arinc : Shelf
  pub null : Shelf

-- those of this scheduler
abbrev pub shelf_of : SchedKind → Shelves → Shelf
shelf_of kinds.Credit2 shelves = shelves.credit2
shelf_of kinds.Rtds shelves = shelves.rtds
shelf_of kinds.Arinc653 shelves = shelves.arinc
shelf_of kinds.Null shelves = shelves.null

-- with one pool of this scheduler more
abbrev pub shelves_with : SchedKind → Seen → Shelves → Shelves
shelves_with kinds.Credit2 seen shelves = record shelves { credit2 = shelf_with seen shelves.credit2 }
shelves_with kinds.Rtds seen shelves = record shelves { rtds = shelf_with seen shelves.rtds }
shelves_with kinds.Arinc653 seen shelves = record shelves { arinc = shelf_with seen shelves.arinc }
shelves_with kinds.Null seen shelves = record shelves { null = shelf_with seen shelves.null }

-- none of the spare pools is in use
pub record AreIdle (shelves : Shelves) : Type 0 where
  pub credit2 : All (IsIdle kinds.Credit2) shelves.credit2.pools
  pub rtds : All (IsIdle kinds.Rtds) shelves.rtds.pools
  pub arinc : All (IsIdle kinds.Arinc653) shelves.arinc.pools
  pub null : All (IsIdle kinds.Null) shelves.null.pools
