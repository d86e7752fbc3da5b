use Rattle.std.proofs.Common.{◌≤◌, length}
use Rattle.std.specs.List.{All}
use Rattle.sched_model.specs.CheckedMachine.{IsCheckedRange}
use Rattle.xl_words.specs.Values.{range_of}
use Rattle.xl_words.proofs.SoFarLemmas.{IsReadSoFar}
use Rattle.xl_words.proofs.lists.read_ranges.Given as goal

abbrev pub invariant-loop-item : goal.invariant-loop-item
invariant-loop-item l = IsReadSoFar range_of l.fn.word l.ranges l.rest × (length l.ranges ≤ 64) × All IsCheckedRange l.ranges

abbrev pub decreases-loop-item : goal.decreases-loop-item
decreases-loop-item l = length l.rest
