use Rattle.sched_examples.proofs.ArincRuns.{guest_sleeps_in_its_window-run, guest_sleeps_in_its_window-sound}
use Rattle.sched_examples.proofs.arinc.guest_sleeps_in_its_window.Goals as goal

pub returns-clause-run : goal.returns-clause-run
returns-clause-run c = guest_sleeps_in_its_window-run

pub returns-clause-sound : goal.returns-clause-sound
returns-clause-sound c = guest_sleeps_in_its_window-sound
