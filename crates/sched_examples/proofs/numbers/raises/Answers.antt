use Rattle.sched_examples.proofs.NumbersRuns.{raises-below, raises-most}
use Rattle.sched_examples.proofs.numbers.raises.Goals as goal

pub returns-clause-below : goal.returns-clause-below
returns-clause-below c = raises-below

pub returns-clause-most : goal.returns-clause-most
returns-clause-most c = raises-most
