use Rattle.std.proofs.Common.{◌≤◌, length}
use Rattle.std.specs.List.{All}
use Rattle.sched_model.specs.CheckedMachine.{IsCheckedEntry}
use Rattle.xl_words.specs.Values.{entry_of}
use Rattle.xl_words.proofs.SoFarLemmas.{IsReadSoFar}
use Rattle.xl_words.proofs.lists.read_entries.Given as goal

abbrev pub invariant-loop-item : goal.invariant-loop-item
invariant-loop-item l = IsReadSoFar entry_of l.fn.word l.entries l.rest × (length l.entries ≤ 64) × All IsCheckedEntry l.entries

abbrev pub decreases-loop-item : goal.decreases-loop-item
decreases-loop-item l = length l.rest
