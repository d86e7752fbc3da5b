use Rattle.std.proofs.Common.{◌≡◌, ◌∙◌, ap, sym}
use Rattle.std.specs.Prelude.{None}
use Rattle.journal_core.specs.Parts.{state_under_way}
use Rattle.cpupool.specs.Tool.{Tool}
use Rattle.cpupool.specs.ToolAdvance.{after_advance}
use Rattle.cpupool.proofs.AdvanceLemmas.{advanced-seen}
use Rattle.cpupool.proofs.tool.ToolState.advance.Goals as goal

-- what is carried out is what happens to the state
pub returns : goal.returns
returns c = λ m s t line same accepted.
    let idle : state_under_way s ≡ None = ap (λ (tool : Tool). tool.part.under_way) same ∙ c.requires.idle in
    c.carry_out.ensures ∙ ap (λ (tool : Tool). after_advance tool c.args.p.now) (sym same) ∙ advanced-seen m s idle t line c.args.p.now accepted
