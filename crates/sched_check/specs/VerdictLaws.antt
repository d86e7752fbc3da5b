-- What holds of verdicts.
use Rattle.std.specs.Prelude.{◌≡◌, ℕ, Bool, List}
use Rattle.sched_model.specs.declared.event.Entry.{Entry}
use Rattle.sched_model.specs.declared.machine.Machine.{Machine}
use Rattle.sched_model.specs.CheckedMachine.{IsChecked}
use Rattle.sched_check.specs.declared.verdict.Cause.{Cause}
use Rattle.sched_check.specs.declared.verdict.Verdict.{Verdict}
use Rattle.sched_check.specs.ScheduleVerdict.{IsNo, IsTextOfRun, IsVerdict}

-- where the verdict on a schedule of a checked machine is no, the bytes are the text of no whole run, or of none that is ordered where
-- that was asked
abbrev pub NoIsNoRun : Type 0
NoIsNoRun = (m : Machine) → IsChecked m → (ordered : Bool) (bytes : List ℕ) (k : ℕ) (cause : Cause) → IsNo m ordered bytes k cause → (entries : List Entry) → IsTextOfRun m ordered bytes entries → ⊥

-- one verdict alone holds of the bytes: the line and the cause are determined
abbrev pub OneVerdict : Type 0
OneVerdict = (m : Machine) (ordered : Bool) (bytes : List ℕ) (first second : Verdict) → IsVerdict m ordered bytes first → IsVerdict m ordered bytes second → first ≡ second
