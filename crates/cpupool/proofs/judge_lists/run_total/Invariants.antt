use Rattle.std.proofs.Common.{◌≡◌, ◌≤◌, ◌*◌, ◌^◌, take}
use Rattle.std.specs.Prelude.{sum_by}
use Rattle.sched_model.specs.declared.command.ArincEntry.{ArincEntry}
use Rattle.cpupool.proofs.judge_lists.run_total.Given as goal

abbrev pub invariant-loop-e : goal.invariant-loop-e
invariant-loop-e l =
    record {
      so_far : l.total ≡ sum_by (λ (e : ArincEntry). e.run) (take l.e-index l.entries);
      few : l.total ≤ l.e-index * 10 ^ 15;
    }
