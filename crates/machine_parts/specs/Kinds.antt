-- A number for each scheduler.
use Rattle.std.specs.Prelude.{ℕ}
use Rattle.sched_model.specs.declared.config.SchedKind.{SchedKind}
use Rattle.sched_model.specs.declared.config.SchedKind.TheVariants as kinds
use Rattle.machine_parts.specs.declared.counts.KindCounts.{KindCounts}

-- the one of this scheduler
abbrev pub count_of : SchedKind → KindCounts → ℕ
count_of kinds.Credit2 counts = counts.credit2
count_of kinds.Rtds counts = counts.rtds
count_of kinds.Arinc653 counts = counts.arinc
count_of kinds.Null counts = counts.null
