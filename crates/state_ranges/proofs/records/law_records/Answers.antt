use Rattle.state_ranges.proofs.RecordsLaw.{has_records}
use Rattle.state_ranges.proofs.records.law_records.Goals as goal

pub returns : goal.returns
returns c m checked entries run = has_records m checked entries run
