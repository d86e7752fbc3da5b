use Rattle.std.proofs.Common.{◌≡◌, IfOk, subst}
use Rattle.cpupool.specs.Tool.{Tool}
use Rattle.cpupool.proofs.OpenedLemmas.{tool_opened}
use Rattle.cpupool.proofs.tool.ToolState.open_with.Goals as goal

-- what is put together is the tool's part at the opening
pub returns : goal.returns
returns c =
    let is_opened : Tool → Type 0 = λ x. IfOk c.opened.result (λ t. t ≡ x) in
    subst is_opened (tool_opened c.args.config.now c.args.work) c.opened.ensures
