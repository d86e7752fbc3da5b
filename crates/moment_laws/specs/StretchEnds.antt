-- A stretch of a run.
use Rattle.std.specs.Prelude.{◌≡◌, true, List, ◌++◌}
use Rattle.sched_model.specs.declared.event.Entry.{Entry}
use Rattle.sched_model.specs.declared.machine.Machine.{Machine}
use Rattle.sched_model.specs.Runs.{IsRun}
use Rattle.moment_laws.specs.Stretches.{open_legs, is_stretch}

-- the entries after those before are a stretch of a run, however it goes on
pub record IsStretchOf (m : Machine) (before stretch : List Entry) : Type 0 where
  pub run : IsRun m (before ++ stretch)
  pub goes_on : is_stretch (open_legs m before) stretch ≡ true
