-- Windows of ARINC 653, as the code keeps them.
use Rattle.sched_model.specs.Arinc as arinc
use Rattle.scheduler_records.specs.declared.arinc.Window.{Window}

-- the definition's window
abbrev pub window_of : Window → arinc.Window
window_of w = record { unit = w.unit; until = w.until }
