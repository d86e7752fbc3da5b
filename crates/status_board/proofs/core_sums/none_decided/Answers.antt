use Rattle.std.proofs.lemmas.List.{get_or-replicate}
use Rattle.status_board.specs.Sums.{no_sums}
use Rattle.status_board.proofs.core_sums.none_decided.Goals as goal

pub returns-clause-none : goal.returns-clause-none
returns-clause-none c = λ r low. get_or-replicate 64 r no_sums no_sums low
