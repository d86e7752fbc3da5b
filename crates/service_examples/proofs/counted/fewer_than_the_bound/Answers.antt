use Rattle.service_examples.proofs.Computed.{bound, entries}
use Rattle.service_examples.proofs.counted.fewer_than_the_bound.Goals as goal

pub returns-clause-bound : goal.returns-clause-bound
returns-clause-bound c = bound

pub returns-clause-entries : goal.returns-clause-entries
returns-clause-entries c = entries
