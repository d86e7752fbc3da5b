use Rattle.service_examples.proofs.Computed.{printed, hindered}
use Rattle.service_examples.proofs.counted.late_by_a_stall.Goals as goal

pub returns-clause-printed : goal.returns-clause-printed
returns-clause-printed c = printed

pub returns-clause-hindered : goal.returns-clause-hindered
returns-clause-hindered c = hindered
