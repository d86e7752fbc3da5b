use Rattle.sched_print.proofs.Texts.{lines_tell}
use Rattle.sched_print.proofs.laws.lines_tell_entries.Goals as goal

pub returns : goal.returns
returns c = lines_tell
