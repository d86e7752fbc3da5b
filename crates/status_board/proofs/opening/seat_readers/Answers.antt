use Rattle.status_board.proofs.Begins.{admits}
use Rattle.status_board.proofs.opening.seat_readers.Goals as goal

pub reader-requires : goal.reader-requires
reader-requires c = admits
