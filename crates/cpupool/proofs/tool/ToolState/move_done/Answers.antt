use Rattle.std.proofs.Common.{◌≡◌, ◌∙◌, Some, ap, sym}
use Rattle.journal_core.specs.Parts.{state_under_way}
use Rattle.cpupool.specs.Tool.{Tool}
use Rattle.cpupool.specs.ToolArrival.{after_arrival}
use Rattle.cpupool.proofs.ArrivedLemmas.{arrived-seen}
use Rattle.cpupool.proofs.tool.ToolState.move_done.Goals as goal

-- the end of the move is what happens to the state
pub returns-clause-state : goal.returns-clause-state
returns-clause-state c = λ m s t way free same is ends.
    let on_its_way : state_under_way s ≡ Some way = ap (λ (tool : Tool). tool.part.under_way) same ∙ is in
    c.end_move.ensures ∙ ap after_arrival (sym same) ∙ arrived-seen m s t way free on_its_way ends
