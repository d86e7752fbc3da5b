use Rattle.std.proofs.Common.{◌∙◌}
use Rattle.command_line.proofs.Reading.{flag_reads}
use Rattle.command_line.proofs.entries.flag_in.Goals as goal

pub returns : goal.returns
returns c = c.unwrap_or.ensures ∙ flag_reads _ c.args.found.now c.args.id.now c.get_one.result c.get_one.ensures.none c.get_one.ensures.value
