-- How a run ends, and the status that tells it.
use Rattle.std.specs.Prelude.{ℕ, Bool, List}
use Rattle.sched_model.specs.declared.event.Entry.{Entry}
use Rattle.sched_model.specs.declared.machine.Machine.{Machine}
use Rattle.pcpu_threads.specs.declared.ends.RunEnd.{RunEnd}
use Rattle.pcpu_threads.specs.declared.ends.RunEnd.TheVariants as run_end
use Rattle.xensched_top.specs.declared.status.Status.{Status}
use Rattle.xensched_top.specs.declared.status.Status.TheVariants as status
use Rattle.xensched_top.specs.Schedules.{EndsWithin, FillsLimit}

-- the entries are a run of the machine that ended so: whole, or with as many entries as are allowed and a further one due
abbrev pub HasEnded : RunEnd → Bool → ℕ → Machine → List Entry → Type 0
HasEnded run_end.Finished ordered limit m entries = EndsWithin ordered limit m entries
HasEnded run_end.Full ordered limit m entries = FillsLimit ordered limit m entries

-- the status of a run that ended so
abbrev pub run_status : ℕ → RunEnd → Status
run_status limit run_end.Finished = status.Ok
run_status limit run_end.Full = status.Full limit
