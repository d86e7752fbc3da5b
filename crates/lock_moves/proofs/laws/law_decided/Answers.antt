use Rattle.lock_moves.proofs.Deciding.{decided_added, decided_same}
use Rattle.lock_moves.proofs.laws.law_decided.Goals as goal

pub returns-clause-added : goal.returns-clause-added
returns-clause-added c v entry named = decided_added v entry named

pub returns-clause-same : goal.returns-clause-same
returns-clause-same c v named = decided_same v named
