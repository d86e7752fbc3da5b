use Rattle.state_ranges.proofs.Done.{in_range}
use Rattle.state_ranges.proofs.ranges.law_in_range.Goals as goal

pub returns : goal.returns
returns c m checked entries run = in_range m checked entries run
