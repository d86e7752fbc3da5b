use Rattle.rtds_replenish.proofs.Grid.{term_around}
use Rattle.term_laws.proofs.rtds.law_deadlines_keep_their_grid.Goals as goal

pub returns : goal.returns
returns c deadline period t some late = term_around deadline period t some late
