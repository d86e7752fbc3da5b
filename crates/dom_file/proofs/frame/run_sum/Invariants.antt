use Rattle.std.proofs.Common.{◌≡◌, ◌≤◌, ◌*◌, take}
use Rattle.std.specs.List.{sum_by}
use Rattle.sched_model.specs.CheckedMachine.{most_span}
use Rattle.dom_file.proofs.frame.run_sum.Given as goal

abbrev pub invariant-loop-entry : goal.invariant-loop-entry
invariant-loop-entry l = record {
  sum : l.sum ≡ sum_by (λ e. e.run.0) (take l.entry-index l.entries);
  bound : l.sum ≤ l.entry-index * most_span;
}
