use Rattle.moment_laws.proofs.ExamplesComputed.{caps_stretches, caps_line, caps_last}
use Rattle.moment_laws.proofs.examples.siblings_and_caps.Goals as goal

pub returns-clause-stretches : goal.returns-clause-stretches
returns-clause-stretches c = caps_stretches

pub returns-clause-line : goal.returns-clause-line
returns-clause-line c = caps_line

pub returns-clause-last : goal.returns-clause-last
returns-clause-last c = caps_last
