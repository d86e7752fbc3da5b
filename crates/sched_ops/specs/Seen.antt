-- What callers see of a scheduler, and what its calls make of that.
use Rattle.std.specs.Prelude.{ℕ, ◌≡◌, [], None, length, replicate}
use Rattle.sched_base.specs.declared.UnitId.{UnitId}
use Rattle.sched_model.specs.declared.config.PoolParams.{PoolParams}
use Rattle.sched_model.specs.declared.config.SchedKind.{SchedKind}
use Rattle.sched_model.specs.declared.state.Records.{Records}
use Rattle.sched_model.specs.declared.state.Records.TheVariants.{Credit2Pool, RtdsPool, ArincPool, NullPool}
use Rattle.sched_model.specs.declared.state.Scheduler.{Scheduler}
use Rattle.sched_model.specs.Places.{without_unit}
use Rattle.sched_model.specs.EligibleUnits.{Decision}
use Rattle.sched_model.specs.Policy.{empty_records, standard_pool_params}
use Rattle.sched_ops.specs.Affinity.{joined_unit_count}
use Rattle.sched_ops.specs.declared.choice.Choice.{Choice}

-- the waiting units in order of arrival, the sets of cores and the records; how many units may still join; and the greatest moment that was given
pub record Seen : Type 0 where
  pub scheduler : Scheduler
  pub spare : ℕ
  pub latest : ℕ

-- a scheduler with these parameters and no domain, on a machine of so many domains and cores
abbrev pub vacant_scheduler : PoolParams → ℕ → ℕ → Scheduler
vacant_scheduler params domains cores = record { queue = []; affinity = replicate domains None; records = empty_records params domains cores }

-- what is seen of a scheduler without memory: it has its default parameters, no domain and no place for one
abbrev pub bare_seen : SchedKind → Seen
bare_seen kind = record { scheduler = vacant_scheduler (standard_pool_params kind) 0 0; spare = 0; latest = 0 }

-- the places for cores of a scheduler that has some
abbrev pub core_places : Records → ℕ
core_places (Credit2Pool records) = 0
core_places (RtdsPool domains) = 0
core_places (ArincPool records) = 0
core_places (NullPool kept) = length kept

-- the scheduler with new parameters and no domain; its places stay
abbrev pub restarted_scheduler : PoolParams → Scheduler → Scheduler
restarted_scheduler params scheduler = vacant_scheduler params (length scheduler.affinity) (core_places scheduler.records)

-- the scheduler without the unit in its queue
abbrev pub scheduler_without_unit : UnitId → Scheduler → Scheduler
scheduler_without_unit u scheduler = record scheduler { queue = without_unit u scheduler.queue }

-- how many units the domain joined with
abbrev pub units_of : Scheduler → ℕ → ℕ
units_of scheduler d = joined_unit_count scheduler.affinity d

-- the same with another scheduler
abbrev pub with_scheduler : Scheduler → Seen → Seen
with_scheduler scheduler seen = record seen { scheduler = scheduler }

-- the same at t with another scheduler
abbrev pub seen_at : ℕ → Scheduler → Seen → Seen
seen_at t scheduler seen = record seen { scheduler = scheduler; latest = t }

-- the answer is the decision's unit, due and number of resets
pub record Tells (answer : Choice) (decision : Decision) : Type 0 where
  pub unit : answer.unit ≡ decision.unit
  pub due : answer.due ≡ decision.due
  pub reset : answer.reset ≡ decision.reset
