-- What ARINC 653 keeps of its frame, and of the window that it found last.
use Rattle.std.specs.Prelude.{ℕ, ◌≡◌, ◌≤◌, Option, Some}
use Rattle.std.specs.Option.{ForSome}
use Rattle.sched_model.specs.declared.state.ArincRecords.{ArincRecords}
use Rattle.sched_model.specs.Arinc.{current_window}
use Rattle.sched_laws.specs.RecordRanges.{IsFrame}
use Rattle.scheduler_records.specs.Frames.{window_of}
use Rattle.arinc_frame.specs.declared.window.Present.{Present}

-- the window was found at a moment when the frame was installed
pub record IsPresent (records : ArincRecords) (present : Present) : Type 0 where
  pub installed : records.installed ≤ present.from
  pub found : current_window records present.from ≡ Some (window_of present.window)

-- the frame is in range and was installed not after the latest moment, and the window that is kept is one of it
pub record IsReady (records : ArincRecords) (present : Option Present) (latest : ℕ) : Type 0 where
  pub frame : ForSome records.frame IsFrame
  pub installed : records.installed ≤ latest
  pub window : ForSome present (IsPresent records)
