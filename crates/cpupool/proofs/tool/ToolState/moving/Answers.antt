use Rattle.std.proofs.Common.{◌∙◌, Bool, ap, sym}
use Rattle.std.specs.Prelude.{is_some, option_map}
use Rattle.cpupool.specs.Tool.{Tool}
use Rattle.cpupool.specs.Steps.{move_of}
use Rattle.cpupool.proofs.WayLemmas.{way_seen}
use Rattle.cpupool.proofs.tool.ToolState.moving.Goals as goal

-- something is told where something is on its way
pub returns-clause-none : goal.returns-clause-none
returns-clause-none c = λ m s same.
    let told : Tool → Bool = λ tool. is_some (option_map (move_of tool.part) tool.part.under_way) in
    ap is_some c.way_under_way.ensures ∙ ap told (sym same) ∙ way_seen m s
