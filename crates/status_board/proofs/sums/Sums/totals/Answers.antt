use Rattle.std.proofs.Common.{◌∙◌, ap}
use Rattle.status_board.specs.Totals.{totals_of}
use Rattle.status_board.proofs.Kept.{shown}
use Rattle.status_board.proofs.sums.Sums.totals.Goals as goal

pub returns : goal.returns
returns c = shown _ _ _ _ _ c.core_totals.result c.self.invariant c.requires c.core_totals.ensures ∙ ap (totals_of c.args.cores) c.self.view_is
