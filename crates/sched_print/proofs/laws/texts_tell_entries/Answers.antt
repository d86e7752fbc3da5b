use Rattle.sched_print.proofs.Texts.{texts_tell}
use Rattle.sched_print.proofs.laws.texts_tell_entries.Goals as goal

pub returns : goal.returns
returns c = texts_tell
