use Rattle.std.proofs.Common.{length}
use Rattle.cpupool.proofs.tool.ToolState.+frame_entries.Given as goal

abbrev pub decreases-frame_entries : goal.decreases-frame_entries
decreases-frame_entries l = length l.entries.now
