use Rattle.std.proofs.Common.{◌≡◌, ◌+◌, ◌-◌, ◌<◌, ℕ, length}
use Rattle.std.specs.Prelude.{◌^◌}
use Rattle.sched_model.specs.Places.{at_place}
use Rattle.sched_model.specs.State.{has_core_bit}
use Rattle.sched_ops.specs.WantedCores.{is_core_wanted}
use Rattle.credit2_core.specs.Credit2State.{scheduler_in}
use Rattle.credit2_core.proofs.wanted.wanted_by_first.Given as goal

abbrev pub invariant-loop-r : goal.invariant-loop-r
invariant-loop-r l =
    record {
      fits : l.set < 2 ^ (length l.cores - l.r);
      bits : (home k : ℕ) → has_core_bit l.set k ≡ is_core_wanted l.t.0 home (scheduler_in l.state) (l.r + k) (at_place l.cores (l.r + k));
    }
