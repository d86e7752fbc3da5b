use Rattle.credit2_core.proofs.Keeping.{keeps_line}
use Rattle.credit2_core.proofs.queue.keeps.Goals as goal

pub returns : goal.returns
returns c = keeps_line c.args.state.now c.requires
