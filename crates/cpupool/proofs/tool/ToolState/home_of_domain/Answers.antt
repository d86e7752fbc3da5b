use Rattle.std.proofs.Common.{sym, ap, ◌∙◌}
use Rattle.cpupool.specs.Tool.{Tool}
use Rattle.cpupool.specs.Verdicts.{outlined_domain_home}
use Rattle.cpupool.proofs.SubjectLemmas.{domain_home-seen, pool_told}
use Rattle.cpupool.proofs.tool.ToolState.home_of_domain.Goals as goal

-- what the tool keeps is of the state
pub returns : goal.returns
returns c = λ m s same.
    pool_told c.domain_pool.result _ (c.domain_pool.ensures ∙ ap (λ (tool : Tool). outlined_domain_home tool.part.pools c.args.d.0) (sym same) ∙ domain_home-seen m s c.args.d.0)
