use Rattle.service_examples.proofs.Computed.{first_window, second_window}
use Rattle.service_examples.proofs.counted.windows_and_a_stall.Goals as goal

pub returns-clause-first : goal.returns-clause-first
returns-clause-first c = first_window

pub returns-clause-second : goal.returns-clause-second
returns-clause-second c = second_window
