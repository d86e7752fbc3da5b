use Rattle.std.proofs.Common.{◌∙◌, Bool, ap, sym}
use Rattle.cpupool.specs.Tool.{Tool}
use Rattle.cpupool.specs.Steps.{joining_ready}
use Rattle.cpupool.proofs.ComingLemmas.{join-seen}
use Rattle.cpupool.proofs.tool.ToolState.free_ready.Goals as goal

-- the core that is on its way is the state's
pub returns-clause-state : goal.returns-clause-state
returns-clause-state c = λ m s same.
    let ready : Tool → Bool = λ tool. joining_ready tool.part c.args.t.0 tool.part.under_way in
    c.joins.ensures ∙ ap ready (sym same) ∙ join-seen m s c.args.t.0
