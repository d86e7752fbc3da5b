use Rattle.queue_laws.proofs.Scan.{first_is_least, least_by_own}
use Rattle.queue_laws.proofs.laws.law_first_is_least.Goals as goal

pub returns : goal.returns
returns c = record { first = first_is_least; own = least_by_own }
