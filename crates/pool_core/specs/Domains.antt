-- What a domain asks of its pool that joins it, pauses, goes on or parts.
use Rattle.std.specs.Prelude.{◌≡◌, false, true}
use Rattle.sched_base.specs.declared.UnitId.{UnitId}
use Rattle.sched_model.specs.declared.state.Pool.{Pool}
use Rattle.sched_model.specs.Places.{has_listed_unit}
use Rattle.sched_ops.specs.Conditions.{is_member, is_on}
use Rattle.pool_core.specs.Wakes.{is_held_among}

-- a unit that does not wait; one of a domain that joined, and on only where a core has it
pub record MayQueue (pool : Pool) (u : UnitId) : Type 0 where
  pub member : is_member pool.scheduler u ≡ true
  pub waits_not : has_listed_unit pool.scheduler.queue u ≡ false
  pub off : is_held_among pool.resources u ≡ false → is_on pool.scheduler.records u ≡ false
