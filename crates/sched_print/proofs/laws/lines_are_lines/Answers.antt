use Rattle.sched_print.proofs.Texts.{lines_are_lines}
use Rattle.sched_print.proofs.laws.lines_are_lines.Goals as goal

pub returns : goal.returns
returns c = lines_are_lines
