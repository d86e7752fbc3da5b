-- What a verdict says of the bytes of a schedule.
use Rattle.std.specs.Prelude.{◌≡◌, ◌≢◌, ◌+◌, ℕ, Bool, true, false, List, [], ◌++◌, length, Err}
use Rattle.std.specs.List.{All}
use Rattle.sched_model.specs.declared.event.Entry.{Entry}
use Rattle.sched_model.specs.declared.machine.Machine.{Machine}
use Rattle.sched_model.specs.Runs.{Reached, IsRun, IsWholeRun, run_start, after_entry, after_entries}
use Rattle.run_laws.specs.RunLaws.{IsOrderedFrom, IsOrderedRun}
use Rattle.sched_print.specs.Line.{line, text}
use Rattle.sched_print.specs.Places.{IsText, IsPlace}
use Rattle.sched_print.specs.Ranges.{IsPrintable}
use Rattle.sched_check.specs.declared.refusal.NotStep.{NotStep}
use Rattle.sched_check.specs.Checking.{Checking, IsTaken}
use Rattle.sched_check.specs.EntryVerdicts.{verdict_of}
use Rattle.sched_check.specs.declared.verdict.Cause.{Cause}
use Rattle.sched_check.specs.declared.verdict.Cause.TheVariants as cause
use Rattle.sched_check.specs.declared.verdict.Verdict.{Verdict}
use Rattle.sched_check.specs.declared.verdict.Verdict.TheVariants as verdict
use Rattle.sched_check.specs.Lines.{HasNone, IsParted}

-- the bytes are the text of these entries, and these are a whole run, where it is asked the ordered one
pub record IsTextOfRun (m : Machine) (ordered : Bool) (bytes : List ℕ) (entries : List Entry) : Type 0 where
  pub text : bytes ≡ text entries
  pub whole : IsWholeRun m entries
  pub first : ordered ≡ true → IsOrderedRun m entries

-- the same of entries whose numbers are in their ranges
pub record IsSchedule (m : Machine) (ordered : Bool) (bytes : List ℕ) (entries : List Entry) : Type 0 where
  pub printable : All IsPrintable entries
  pub run : IsTextOfRun m ordered bytes entries

-- the bytes are the text of a whole run with n entries
pub record IsYes (m : Machine) (ordered : Bool) (bytes : List ℕ) (n : ℕ) : Type 0 where
  pub entries : List Entry
  pub schedule : IsSchedule m ordered bytes entries
  pub count : length entries ≡ n

-- the bytes begin with the text of these entries, whose numbers are in their ranges, and these are a run, where it is asked one that takes
-- the first action each time; the rest follows
pub record IsBegun (m : Machine) (ordered : Bool) (bytes : List ℕ) (front : List Entry) (rest : List ℕ) : Type 0 where
  pub printable : All IsPrintable front
  pub text : bytes ≡ text front ++ rest
  pub run : IsRun m front
  pub first : ordered ≡ true → IsOrderedFrom m (run_start m) front

-- there are bytes left, and no newline ends their line
pub record IsCut (rest : List ℕ) : Type 0 where
  pub some : rest ≢ []
  pub inner : HasNone rest

-- the first line that is left is no entry's text, and stops to begin one at the place
pub record IsNoEntry (rest : List ℕ) (place : ℕ) : Type 0 where
  pub line : List ℕ
  pub more : List ℕ
  pub parted : IsParted rest line more
  pub no_text : (entry : Entry) → IsText line entry → ⊥
  pub stops : IsPlace line place

-- the first line that is left is the text of an entry that may not come next, and why it may not
pub record IsNoStep (m : Machine) (ordered : Bool) (reached : Reached) (rest : List ℕ) (why : NotStep) : Type 0 where
  pub line : List ℕ
  pub more : List ℕ
  pub parted : IsParted rest line more
  pub entry : Entry
  pub text : IsText line entry
  pub not_taken : IsTaken m ordered reached entry → ⊥
  pub verdict : verdict_of m ordered reached entry ≡ Err why

-- nothing is left, and the run is not over
pub record IsUnfinished (reached : Reached) (rest : List ℕ) : Type 0 where
  pub none : rest ≡ []
  pub goes_on : reached.over ≡ false

-- the cause holds of the bytes that are left, where the run has come to
abbrev pub HoldsAt : Machine → Bool → Reached → List ℕ → Cause → Type 0
HoldsAt m ordered reached rest cause.Cut = IsCut rest
HoldsAt m ordered reached rest (cause.NotEntry place) = IsNoEntry rest place
HoldsAt m ordered reached rest (cause.NotStep why) = IsNoStep m ordered reached rest why
HoldsAt m ordered reached rest cause.Unfinished = IsUnfinished reached rest

-- the lines before line k are the text of a run, and the cause holds of line k
pub record IsNo (m : Machine) (ordered : Bool) (bytes : List ℕ) (k : ℕ) (cause : Cause) : Type 0 where
  pub front : List Entry
  pub rest : List ℕ
  pub number : length front + 1 ≡ k
  pub begins : IsBegun m ordered bytes front rest
  pub holds : HoldsAt m ordered (after_entries m (run_start m) front) rest cause

-- the verdict holds of the bytes
abbrev pub IsVerdict : Machine → Bool → List ℕ → Verdict → Type 0
IsVerdict m ordered bytes (verdict.Yes n) = IsYes m ordered bytes n
IsVerdict m ordered bytes (verdict.No k why) = IsNo m ordered bytes k why

-- the first line that was left is the text of an entry that may come next, more is behind it, and the entry was taken
pub record IsTakenLine (before after : Checking) (rest more : List ℕ) : Type 0 where
  pub entry : Entry
  pub printable : IsPrintable entry
  pub line : rest ≡ line entry ++ more
  pub taken : IsTaken before.machine before.ordered before.reached entry
  pub came_to : after ≡ record before { reached = after_entry before.machine before.reached entry }
