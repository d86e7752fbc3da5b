-- The text of a verdict.
use Rattle.std.specs.Prelude.{ℕ, List, [], ◌∷◌, ◌++◌, codes, decimal, Option, Some, None}
use Rattle.sched_model.specs.declared.event.Entry.{Entry}
use Rattle.sched_print.specs.Line.{newline, line}
use Rattle.sched_check.specs.declared.refusal.NotStep.{NotStep}
use Rattle.sched_check.specs.declared.refusal.NotStep.TheVariants as no
use Rattle.sched_check.specs.declared.verdict.Cause.{Cause}
use Rattle.sched_check.specs.declared.verdict.Cause.TheVariants as cause
use Rattle.sched_check.specs.declared.verdict.Verdict.{Verdict}
use Rattle.sched_check.specs.declared.verdict.Verdict.TheVariants as verdict

-- why an entry is not taken
abbrev pub step_words : NotStep → List ℕ
step_words no.AfterFinish = codes " AfterFinish"
step_words (no.Moment now) = codes " Moment " ++ decimal now.0
step_words no.NotEnabled = codes " NotEnabled"
step_words (no.NotFirst first) = codes " NotFirst"
step_words (no.Differs due) = codes " Differs"
step_words (no.NotQuiet first) = codes " NotQuiet"
step_words (no.EndAt next) = codes " End " ++ decimal next.0
step_words no.FinishDue = codes " Finish"

-- why a line is not the next one of a run
abbrev pub cause_words : Cause → List ℕ
cause_words cause.Cut = codes " Cut"
cause_words (cause.NotEntry place) = codes " NotEntry " ++ decimal place
cause_words (cause.NotStep why) = step_words why
cause_words cause.Unfinished = codes " Unfinished"

-- the first line: yes and the count of the entries, or no, the number of the line and the cause
abbrev pub first_line : Verdict → List ℕ
first_line (verdict.Yes entries) = codes "yes " ++ decimal entries ++ newline ∷ []
first_line (verdict.No number why) = codes "no " ++ decimal number ++ cause_words why ++ newline ∷ []

-- the entry that is to come instead, where the refusal of an entry names it
abbrev pub entry_instead : NotStep → Option Entry
entry_instead (no.NotFirst first) = Some first
entry_instead (no.Differs due) = Some due
entry_instead (no.NotQuiet first) = Some first
entry_instead _ = None

-- the entry whose line is printed behind the first one
abbrev pub entry_behind_first : Verdict → Option Entry
entry_behind_first (verdict.No number (cause.NotStep why)) = entry_instead why
entry_behind_first _ = None

-- its line, or nothing
abbrev pub further_line : Option Entry → List ℕ
further_line None = []
further_line (Some entry) = line entry

-- the whole text of a verdict
abbrev pub text_of_verdict : Verdict → List ℕ
text_of_verdict v = first_line v ++ further_line (entry_behind_first v)
