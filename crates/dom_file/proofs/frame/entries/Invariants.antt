use Rattle.std.proofs.Common.{◌≡◌, ◌≤◌, length}
use Rattle.std.specs.List.{All}
use Rattle.sched_model.specs.CheckedMachine.{most_span}
use Rattle.toml.specs.View.{view}
use Rattle.dom_file.specs.Frames.{entry_of}
use Rattle.dom_file.proofs.Each.{Gathers}
use Rattle.dom_file.proofs.frame.entries.Given as goal

abbrev pub invariant-loop-value : goal.invariant-loop-value
invariant-loop-value l = record {
  value : Gathers entry_of view l.values l.value-index l.entries;
  count : length l.entries ≡ l.value-index;
  runs : All (λ e. e.run.0 ≤ most_span) l.entries;
}
