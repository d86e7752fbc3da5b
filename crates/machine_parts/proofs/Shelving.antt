-- A spare pool that is opened, and a pool that becomes a spare one.
use Rattle.std.proofs.Common.{◌≡◌, ◌∙◌, ℕ, suc, true, false, List, [], ◌∷◌, length, replicate, refl, ap, ap₂, arith}
use Rattle.std.specs.Prelude.{Option, Some, None}
use Rattle.sched_model.specs.declared.config.PoolParams.{PoolParams}
use Rattle.sched_model.specs.declared.config.PoolParams.TheVariants as pool_params
use Rattle.sched_model.specs.declared.machine.Machine.{Machine}
use Rattle.sched_model.specs.declared.state.Domain.{Domain}
use Rattle.sched_model.specs.declared.state.Pool.{Pool}
use Rattle.sched_model.specs.declared.state.Records.{Records}
use Rattle.sched_model.specs.declared.state.Records.TheVariants.{NullPool}
use Rattle.sched_model.specs.declared.state.Scheduler.{Scheduler}
use Rattle.sched_model.specs.Opening.{machine_core_count, fresh_pool}
use Rattle.sched_model.specs.Places.{at_place}
use Rattle.sched_model.specs.Policy.{empty_records, records_kind}
use Rattle.sched_ops.specs.Conditions.{ArePoolParams}
use Rattle.sched_ops.specs.Seen.{core_places, restarted_scheduler}
use Rattle.state_ranges.specs.Ranges.{PoolInRange, RecordsInRange}
use Rattle.pool_core.specs.Seen.{Seen, IsEmpty, reopened_pool}
use Rattle.pool_core.proofs.Coming.{all_empty}
use Rattle.machine_parts.specs.Told.{Told}
use Rattle.machine_parts.specs.Places.{GoesOn, StandsAt, state_of}
use Rattle.unit_state.specs.Guests.{units_in}
use Rattle.machine_parts.specs.Rooms.{IsPlaced}
use Rattle.machine_parts.specs.Spares.{HasCorePlaces, IsSpare, made_seen}
use Rattle.machine_parts.proofs.Going.{range-of}
use Rattle.machine_parts.proofs.Standing.{stands-there}

pub no-units : (g : ℕ) (places : List (Option Domain)) → ((n : ℕ) → at_place places n ≡ None) → units_in g places ≡ 0
no-units g [] none = refl
no-units g (None ∷ places) none = (let rest = no-units g places (λ n. none (suc n)) in omega (arith, rest))
no-units g (Some d ∷ places) none = absurd (let here = none 0 in cc)

-- the records of a pool with new parameters are those of the machine's empty pool
fresh-places : (cores domains : ℕ) (params : PoolParams) (records : Records) → HasCorePlaces cores records → ArePoolParams (records_kind records) params → empty_records params domains (core_places records) ≡ empty_records params domains cores
fresh-places cores domains pool_params.Null (NullPool kept) places params = ap (empty_records pool_params.Null domains) places
fresh-places cores domains pool_params.Null records places params = absurd params
fresh-places cores domains other records places params = refl

module _ (m : Machine) (now : ℕ) (params : PoolParams) (seen : Seen) (spare : IsSpare m now (records_kind seen.pool.scheduler.records) seen) (given : ArePoolParams (records_kind seen.pool.scheduler.records) params) where
  abbrev made : Pool
  made = record seen.pool { scheduler = restarted_scheduler params seen.pool.scheduler }

  made-scheduler : restarted_scheduler params seen.pool.scheduler ≡ (fresh_pool m.config params).scheduler
  made-scheduler =
      ap (λ (n : ℕ). let x : Scheduler = record { queue = []; affinity = replicate n None; records = empty_records params n (core_places seen.pool.scheduler.records) } in x) spare.suits.affinity
      ∙ ap (λ (records : Records). let x : Scheduler = record { queue = []; affinity = replicate (length m.config.domains) None; records = records } in x)
      (fresh-places (machine_core_count m.config) (length m.config.domains) params seen.pool.scheduler.records spare.suits.records given)

  made-domains : seen.pool.domains ≡ (fresh_pool m.config params).domains
  made-domains = all_empty seen.pool.domains spare.idle.empty.domains ∙ ap (λ n. replicate n None) spare.suits.domains

  made-cores : seen.pool.resources ≡ (fresh_pool m.config params).resources
  made-cores = all_empty seen.pool.resources spare.idle.empty.cores ∙ ap (λ n. replicate n None) spare.suits.cores

  made-pool : made ≡ fresh_pool m.config params
  made-pool =
      ap (λ (s : Scheduler). let x : Pool = record { scheduler = s; domains = seen.pool.domains; resources = seen.pool.resources } in x) made-scheduler
      ∙ ap₂ (λ ds cs. let x : Pool = record { scheduler = (fresh_pool m.config params).scheduler; domains = ds; resources = cs } in x) made-domains made-cores

  pub opened-is : reopened_pool params seen ≡ made_seen m.config params seen.latest
  opened-is =
      ap (λ (p : Pool). let x : Seen = record { pool = p; granularity = seen.granularity; spare = seen.spare; latest = seen.latest; in_use = true } in x) made-pool
      ∙ ap₂ (λ g n. let x : Seen = record { pool = fresh_pool m.config params; granularity = g; spare = n; latest = seen.latest; in_use = true } in x) spare.suits.granularity spare.idle.room

  pub opened-placed : IsPlaced (reopened_pool params seen)
  opened-placed = record { used = refl; roomy = record { room = (let none = no-units seen.granularity seen.pool.domains spare.idle.empty.domains in let room = spare.idle.room in omega (arith, none, room)) } }

-- a pool of the machine that is in use no longer
core-places : (m : Machine) (t : ℕ) (records : Records) → RecordsInRange m t records → HasCorePlaces (machine_core_count m.config) records
core-places m t (NullPool kept) range = range
core-places m t records range = tt

pub shut-spare : (w : Told) → GoesOn w → (i : ℕ) (seen : Seen) → StandsAt w i (Some seen) → IsEmpty seen.pool → IsPlaced seen
    → IsSpare w.input (state_of w).now (records_kind seen.pool.scheduler.records) (record seen { in_use = false })
shut-spare w goes i seen stands empty placed =
    let range : PoolInRange w.input (state_of w).now seen.pool = (range-of w goes).pools i seen.pool (stands-there w i (Some seen) stands) in
    let suits = stands.suits seen refl in
    record {
      idle = record { unused = refl; empty = empty; kind_is = refl; room = (let none = no-units seen.granularity seen.pool.domains empty.domains in let room = placed.roomy.room in omega (arith, none, room)) };
      suits = record {
        domains = range.domain_places;
        affinity = range.affinity_places;
        cores = range.core_places;
        records = core-places w.input (state_of w).now seen.pool.scheduler.records range.records;
        granularity = suits.granularity;
        latest = suits.latest;
      };
    }
