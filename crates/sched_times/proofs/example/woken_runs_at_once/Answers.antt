use Rattle.std.proofs.Common.{refl}
use Rattle.sched_times.specs.Example.{woken_at_once}
use Rattle.sched_times.proofs.example.woken_runs_at_once.Goals as goal

pub returns : goal.returns
unfolding woken_at_once
returns c = refl
