use Rattle.service_examples.proofs.Computed.{first_given, second_given}
use Rattle.service_examples.proofs.counted.a_core_for_good.Goals as goal

pub returns-clause-first : goal.returns-clause-first
returns-clause-first c = first_given

pub returns-clause-second : goal.returns-clause-second
returns-clause-second c = second_given
