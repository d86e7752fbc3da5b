use Rattle.std.proofs.Common.{◌≡◌, ◌*◌, ◌^◌, ◌≤◌, take}
use Rattle.std.specs.Prelude.{sum_by}
use Rattle.sched_model.specs.Places.{same_unit}
use Rattle.sched_report.specs.Tallies.{open_stay_time}
use Rattle.sched_report.proofs.tally.open_times_of.Given as goal

abbrev pub invariant-loop-core : goal.invariant-loop-core
invariant-loop-core l = record {
  time : l.time ≡ sum_by (open_stay_time (λ w. same_unit w l.u) l.last.0) (take l.core-index l.cores);
  small : l.time ≤ l.core-index * 2 ^ 64;
}
