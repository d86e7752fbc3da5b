use Rattle.std.proofs.Common.{length}
use Rattle.scheduler_records.proofs.arinc.+window_from.Given as goal

abbrev pub decreases-window_from : goal.decreases-window_from
decreases-window_from l = length l.entries.now
