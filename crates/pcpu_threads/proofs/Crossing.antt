-- What the threads of a run share may be shared.
use denote.Param.Send.{IsSync, sendable}
use Rattle.std.proofs.Crossing.{crosses}
use Rattle.pcpu_threads.specs.contracts.progress.Progress.{the_row as progress_row}
use Rattle.pcpu_threads.specs.contracts.pulse.Pulse.{the_row as pulse_row}

-- what the crew tells those who go along with it
pub progress_sync : IsSync progress_row
progress_sync = search (sendable, crosses) depth 200 fits 100000

pub pulse_sync : IsSync pulse_row
pulse_sync = search (sendable, crosses) depth 200 fits 100000
