-- What an event asks of the parts of a pool, and what it makes of them.
use Rattle.std.specs.Prelude.{ℕ, ◌≡◌, Bool, true}
use Rattle.sched_model.specs.declared.action.Action.{Action}
use Rattle.sched_model.specs.declared.event.Event.{Event}
use Rattle.sched_model.specs.Pool.{after_in, enabled_in, event_in}
use Rattle.pool_laws.specs.CoreLooks.{IsSettled}
use Rattle.unit_state.specs.Seen as guests
use Rattle.core_state.specs.Seen as cores
use Rattle.sched_ops.specs.Seen as schedulers
use Rattle.pool_core.specs.declared.events.Outcome.{Outcome}
use Rattle.pool_core.specs.CoreLooks.{pool_but}
use Rattle.pool_core.specs.PoolState.{IsKept}
use Rattle.pool_core.specs.Seen.{pool_of}

-- at t, what is kept of a pool is kept of these parts, and the event may come
pub record MayAct (t : ℕ) (action : Action) (guests : guests.Seen) (cores : cores.Seen) (scheduler : schedulers.Seen) : Type 0 where
  pub kept : IsKept t guests cores scheduler
  pub enabled : enabled_in guests.granularity t (pool_of guests cores scheduler) action ≡ true

-- the same with some scheduler
abbrev pub MayCome : ℕ → Action → guests.Seen → cores.Seen → Type 0
MayCome t action guests cores = (s : schedulers.Seen) × MayAct t action guests cores s

-- the answer whether the event may come at t, which the cores alone tell: whatever the guests and the scheduler are
abbrev pub TellsMayCome : ℕ → ℕ → cores.Seen → Action → Bool → Type 0
TellsMayCome g t cores action answer = (guests : guests.Seen) (s : schedulers.Seen) → answer ≡ enabled_in g t (pool_of guests cores s) action

-- the event came at t: it is written, the pool is the one after it, and what is kept is so still. Where the outcome says that the event
-- spares the look, a settled pool is so still, but for the unit that came to wait
pub record HasActed (t : ℕ) (action : Action) (guests guests_after : guests.Seen) (cores cores_after : cores.Seen) (scheduler scheduler_after : schedulers.Seen) (written : Event) (outcome : Outcome) : Type 0 where
  pub event : written ≡ event_in guests.granularity t (pool_of guests cores scheduler) action
  pub pool : pool_of guests_after cores_after scheduler_after ≡ after_in guests.granularity t (pool_of guests cores scheduler) action
  pub kept : IsKept t guests_after cores_after scheduler_after
  pub granularity : guests_after.granularity ≡ guests.granularity
  pub spare : guests_after.spare ≡ guests.spare
  pub settled : outcome.spares ≡ true → IsSettled t (pool_of guests cores scheduler) → IsSettled t (pool_but outcome.came (pool_of guests_after cores_after scheduler_after))
