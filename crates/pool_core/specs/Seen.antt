-- What callers see of a pool's state, and what its calls ask.
use Rattle.std.specs.Prelude.{ℕ, ◌≡◌, Bool, true, false, List, Option, Some, None, replicate}
use Rattle.sched_base.specs.declared.Moment.{Moment}
use Rattle.sched_base.specs.declared.VcpuId.{VcpuId}
use Rattle.sched_model.specs.declared.config.PoolParams.{PoolParams}
use Rattle.sched_model.specs.declared.action.Action.{Action}
use Rattle.sched_model.specs.declared.event.Event.{Event}
use Rattle.sched_model.specs.declared.state.Doing.TheVariants.{Guest, Idle, Held}
use Rattle.sched_model.specs.declared.state.Pool.{Pool}
use Rattle.sched_model.specs.declared.state.Resource.{Resource}
use Rattle.sched_model.specs.Opening.{joined_core}
use Rattle.sched_model.specs.Places.{at_place, clear_at, put_at}
use Rattle.sched_model.specs.Pool.{after_in, change_processor, enabled_in, event_in, settled_pool}
use Rattle.sched_laws.specs.RecordRanges.{IsFrom}
use Rattle.unit_state.specs.Seen as guests
use Rattle.core_state.specs.Seen as cores
use Rattle.core_state.specs.Seen.{processor_among, stalled_to}
pub use Rattle.core_state.specs.Seen.{extended_stall_end}
use Rattle.sched_ops.specs.Seen as schedulers
use Rattle.sched_ops.specs.Seen.{vacant_scheduler as vacant_scheduler}
use Rattle.sched_ops.specs.Seen.{restarted_scheduler}

-- the pool, how many processors a core has, how many units may still join, the greatest moment that was given, and whether the pool is in use
pub record Seen : Type 0 where
  pub pool : Pool
  pub granularity : ℕ
  pub spare : ℕ
  pub latest : ℕ
  pub in_use : Bool

-- the pool of these guests, these cores and this scheduler
abbrev pub pool_of : guests.Seen → cores.Seen → schedulers.Seen → Pool
pool_of guests cores scheduler = record { scheduler = scheduler.scheduler; domains = guests.domains; resources = cores.resources }

-- a moment that is not before the latest one given, nor past a longest span
abbrev pub IsNow : Seen → ℕ → Type 0
IsNow seen t = IsFrom seen.latest t

-- the same at t with another pool
abbrev pub seen_at : ℕ → Pool → Seen → Seen
seen_at t pool seen = record seen { pool = pool; latest = t }

-- the same with another number of units that may still join
abbrev pub with_spare : ℕ → Seen → Seen
with_spare spare seen = record seen { spare = spare }

-- after an event at t, and after the cores were looked at
abbrev pub seen_after : ℕ → Action → Seen → Seen
seen_after t action seen = seen_at t (settled_pool t (after_in seen.granularity t seen.pool action)) seen

-- the event may come at t, and t is not before the latest moment given
pub record MayHappen (t : ℕ) (action : Action) (seen : Seen) : Type 0 where
  pub now : IsNow seen t
  pub enabled : enabled_in seen.granularity t seen.pool action ≡ true

-- the event came at t: it is answered with its fields, and the pool is the one after it
pub record HasHappened (t : ℕ) (action : Action) (before after : Seen) (answer : Event) : Type 0 where
  pub event : answer ≡ event_in before.granularity t before.pool action
  pub after_is : after ≡ seen_after t action before

-- the vCPU that the processor runs, where these are the cores and each has g processors
abbrev pub guest_among : ℕ → List (Option Resource) → ℕ → Option VcpuId
guest_among g cores p = elim (processor_among g cores p) [ None ↦ None | Some q ↦ elim q.doing [ Guest v ↦ Some v | Idle ↦ None | Held ↦ None ] ]

-- a pool of the scheduler's own parameters that is not in use, with so many places for domains and for cores of g processors each, and room for so many units
abbrev pub vacant_pool : PoolParams → ℕ → ℕ → ℕ → ℕ → Seen
vacant_pool params g domains cores units =
    record {
      pool = record { scheduler = vacant_scheduler params domains cores; domains = replicate domains None; resources = replicate cores None };
      granularity = g;
      spare = units;
      latest = 0;
      in_use = false;
    }

-- the pool has neither a domain nor a core
pub record IsEmpty (pool : Pool) : Type 0 where
  pub domains : (d : ℕ) → at_place pool.domains d ≡ None
  pub cores : (r : ℕ) → at_place pool.resources r ≡ None

-- the pool with a core that has just come, whose processors are stalled up to these moments
abbrev pub with_core : ℕ → List Moment → Pool → Pool
with_core r ends pool = record pool { resources = put_at r (joined_core ends) pool.resources }

-- the pool without the core
abbrev pub without_core : ℕ → Pool → Pool
without_core r pool = record pool { resources = clear_at r pool.resources }

-- the pool with another end of the processor's stall
abbrev pub with_stall : ℕ → ℕ → Moment → Pool → Pool
with_stall g p end pool = change_processor g p (stalled_to end) pool

-- a pool that was not in use, opened with the parameters
abbrev pub reopened_pool : PoolParams → Seen → Seen
reopened_pool params seen = record seen { pool = record seen.pool { scheduler = restarted_scheduler params seen.pool.scheduler }; in_use = true }
