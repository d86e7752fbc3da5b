-- A scheduler, from its parts.
use Rattle.std.specs.Prelude.{List, Option}
use Rattle.sched_base.specs.declared.UnitId.{UnitId}
use Rattle.sched_base.specs.declared.Cores.{Cores}
use Rattle.sched_model.specs.declared.state.Credit2Records.{Credit2Records}
use Rattle.sched_model.specs.declared.state.Records.{Records}
use Rattle.sched_model.specs.declared.state.Records.TheVariants.{Credit2Pool}
use Rattle.sched_model.specs.declared.state.Scheduler.{Scheduler}

-- the scheduler of these parts
abbrev pub scheduler_of : List UnitId → List (Option (List Cores)) → Records → Scheduler
scheduler_of queue affinity records = record { queue = queue; affinity = affinity; records = records }

-- the same, of Credit2
abbrev pub credit2_scheduler : List UnitId → List (Option (List Cores)) → Credit2Records → Scheduler
credit2_scheduler queue affinity records = record { queue = queue; affinity = affinity; records = Credit2Pool records }
