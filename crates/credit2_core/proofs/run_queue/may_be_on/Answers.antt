use Rattle.std.proofs.Common.{◌∙◌, sym}
use Rattle.credit2_core.proofs.Kept.{free_allows}
use Rattle.credit2_core.proofs.run_queue.may_be_on.Goals as goal

pub returns-then-state : goal.returns-then-state
returns-then-state c = c.if-state.true ∙ sym (free_allows c.args.state.now.unpinned c.args.state.now.affinity c.args.home.0 c.args.core.0 c.args.u c.requires.free c.if-state.true c.requires.joined c.requires.core)
