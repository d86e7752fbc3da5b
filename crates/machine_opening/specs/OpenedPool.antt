-- A pool of the file at the opening of its machine.
use Rattle.std.specs.Prelude.{ℕ, ◌≡◌, Some}
use Rattle.sched_model.specs.declared.config.Config.{Config}
use Rattle.sched_model.specs.declared.work.Work.{Work}
use Rattle.sched_model.specs.Opening.{opening}
use Rattle.sched_model.specs.Places.{at_place}
use Rattle.pool_core.specs.Seen.{Seen}
use Rattle.machine_parts.specs.Rooms.{IsPlaced}

-- the pool i of the machine at its opening, whatever the workload: in use, with room for all units of a machine, and given no moment yet
pub record IsOpened (config : Config) (i : ℕ) (seen : Seen) : Type 0 where
  pub pool : (work : Work) → at_place (opening (record { config = config; work = work })).pools i ≡ Some seen.pool
  pub granularity : seen.granularity ≡ config.granularity
  pub latest : seen.latest ≡ 0
  pub placed : IsPlaced seen
