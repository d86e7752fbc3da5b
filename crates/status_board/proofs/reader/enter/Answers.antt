use Rattle.status_board.proofs.Begins.{begins_itself, turns}
use Rattle.status_board.proofs.reader.enter.Goals as goal

pub enter_as-requires : goal.enter_as-requires
enter_as-requires c x = turns _ _ x x (begins_itself x)
