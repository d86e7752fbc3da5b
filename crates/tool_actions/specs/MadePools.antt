-- A pool that a command makes, and one that it destroys.
use Rattle.std.specs.Prelude.{◌≡◌, ◌<◌, ℕ, Option, Some, None, length}
use Rattle.sched_base.specs.declared.Name.{Name}
use Rattle.sched_base.specs.declared.PoolId.{PoolId}
use Rattle.sched_model.specs.declared.config.SchedKind.{SchedKind}
use Rattle.sched_model.specs.declared.event.Reply.{Reply}
use Rattle.sched_model.specs.declared.machine.Machine.{Machine}
use Rattle.sched_model.specs.declared.plan.Plan.{Plan}
use Rattle.sched_model.specs.declared.plan.Plan.TheVariants as plan
use Rattle.sched_model.specs.Policy.{standard_pool_params, records_kind}
use Rattle.pool_core.specs.Seen.{Seen, IsEmpty}
use Rattle.machine_parts.specs.Spares.{IsSpare, Shelves, made_seen, shelf_of, shelves_with}

-- a spare pool of the scheduler has come to the place, with that scheduler's default parameters
pub record HasMade (m : Machine) (now : ℕ) (kind : SchedKind) (shelves left : Shelves) (slot : Option Seen) : Type 0 where
  pub spare : Seen
  pub suits : IsSpare m now kind spare
  pub taken : shelves ≡ shelves_with kind spare left
  pub made : slot ≡ Some (made_seen m.config (standard_pool_params kind) spare.latest)

-- the place has a pool of this scheduler with neither a domain nor a core, for which there is room among the spare ones
pub record MayGo (kind : SchedKind) (shelves : Shelves) (seen : Seen) : Type 0 where
  pub empty : IsEmpty seen.pool
  pub kind_is : records_kind seen.pool.scheduler.records ≡ kind
  pub room : length (shelf_of kind shelves).pools < (shelf_of kind shelves).capacity

-- a pool of the scheduler has become a spare one, and its place is empty
pub record HasGone (m : Machine) (now : ℕ) (kind : SchedKind) (shelves left : Shelves) (slot : Option Seen) : Type 0 where
  pub spare : Seen
  pub suits : IsSpare m now kind spare
  pub given : left ≡ shelves_with kind spare shelves
  pub gone : slot ≡ None

-- the plan makes a pool of this scheduler at this place; it destroys the pool there
pub record MakesPool (p : Plan) (i : PoolId) (kind : SchedKind) : Type 0 where
  pub name : Name
  pub answer : Reply
  pub is : p ≡ plan.PoolCreate i name kind answer

pub record DestroysPool (p : Plan) (i : PoolId) : Type 0 where
  pub answer : Reply
  pub is : p ≡ plan.PoolDestroy i answer
