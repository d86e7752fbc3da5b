use Rattle.std.proofs.Common.{sym, ap, ◌∙◌}
use Rattle.cpupool.specs.Tool.{Tool}
use Rattle.cpupool.specs.Verdicts.{outlined_core_home}
use Rattle.cpupool.proofs.SubjectLemmas.{core_home-seen, pool_told}
use Rattle.cpupool.proofs.tool.ToolState.home_of_core.Goals as goal

-- what the tool keeps is of the state
pub returns : goal.returns
returns c = λ m s same.
    pool_told c.core_pool.result _ (c.core_pool.ensures ∙ ap (λ (tool : Tool). outlined_core_home tool.part.pools c.args.r.0) (sym same) ∙ core_home-seen m s c.args.r.0)
