use Rattle.service_examples.proofs.Computed.{first_shared, second_shared, whole_weight, one_slice}
use Rattle.service_examples.proofs.counted.behind_by_less_than_a_slice.Goals as goal

pub returns-clause-first : goal.returns-clause-first
returns-clause-first c = first_shared

pub returns-clause-second : goal.returns-clause-second
returns-clause-second c = second_shared

pub returns-clause-weight : goal.returns-clause-weight
returns-clause-weight c = whole_weight

pub returns-clause-slice : goal.returns-clause-slice
returns-clause-slice c = one_slice
