-- Where the verdict is no, the bytes are no whole run's text.
use Rattle.std.proofs.Common.{◌≡◌, ℕ, Bool, true, List, [], ◌∷◌, ◌++◌, refl, sym, ◌∙◌, subst, append_assoc}
use Rattle.std.specs.List.{All}
use Rattle.std.proofs.lemmas.Bool.{false≢true}
use Rattle.std.proofs.lemmas.List.Elements.{All-head, All-tail}
use Rattle.sched_model.specs.declared.event.Entry.{Entry}
use Rattle.sched_model.specs.declared.machine.Machine.{Machine}
use Rattle.sched_model.specs.Runs.{Reached, IsRunFrom, run_start, after_entry, after_entries}
use Rattle.run_laws.specs.RunLaws.{IsOrderedFrom}
use Rattle.sched_print.specs.Line.{words, line, text}
use Rattle.sched_print.specs.Ranges.{IsPrintable}
use Rattle.sched_print.proofs.Texts.{words_same, lines_are_lines}
use Rattle.sched_check.specs.Checking.{IsTaken}
use Rattle.text_laws.proofs.Printable.{printable_entries}
use Rattle.sched_check.specs.declared.verdict.Cause.{Cause}
use Rattle.sched_check.specs.declared.verdict.Cause.TheVariants as cause
use Rattle.sched_check.specs.Lines.{HasNone, IsParted}
use Rattle.sched_check.specs.ScheduleVerdict.{HoldsAt, IsNo, IsSchedule}
use Rattle.sched_check.specs.VerdictLaws.{NoIsNoRun}
use Rattle.sched_check.proofs.Newlines.{none_is_no_line, nothing_is_no_line, line_then, parted_line}

-- the entries are the rest of a whole run, where it is asked one that takes the first action each time
pub record IsRest (m : Machine) (ordered : Bool) (from : Reached) (entries : List Entry) : Type 0 where
  pub printable : All IsPrintable entries
  pub run : IsRunFrom m from entries
  pub first : ordered ≡ true → IsOrderedFrom m from entries
  pub over : (after_entries m from entries).over ≡ true

rest_after : (m : Machine) (ordered : Bool) (from : Reached) (e : Entry) (es : List Entry) → IsRest m ordered from (e ∷ es) → IsRest m ordered (after_entry m from e) es
rest_after m ordered from e es h = record {
  printable = All-tail IsPrintable e es h.printable;
  run = h.run.1;
  first = λ asked. (h.first asked).1;
  over = h.over;
}

next_taken : (m : Machine) (ordered : Bool) (from : Reached) (e : Entry) (es : List Entry) → IsRest m ordered from (e ∷ es) → IsTaken m ordered from e
next_taken m ordered from e es h = record { next = h.run.0; first = λ asked. (h.first asked).0 }

pub parted_not_cut : (rest front more : List ℕ) → IsParted rest front more → HasNone rest → ⊥
parted_not_cut rest front more h none = none_is_no_line front more (subst (λ (z : List ℕ). HasNone z) h.parts none)

pub parted_not_empty : (rest front more : List ℕ) → IsParted rest front more → rest ≡ [] → ⊥
parted_not_empty rest front more h empty = nothing_is_no_line front more (sym h.parts ∙ empty)

-- no cause holds of bytes that begin with the line of an entry that is taken
pub not_before_taken : (m : Machine) (ordered : Bool) (from : Reached) (rest : List ℕ) (why : Cause) (e : Entry) (others : List ℕ) → HoldsAt m ordered from rest why → IsPrintable e → IsTaken m ordered from e → rest ≡ line e ++ others → ⊥
not_before_taken m ordered from rest cause.Cut e others h printable taken same = none_is_no_line (words e) others (subst (λ (z : List ℕ). HasNone z) (same ∙ line_then e others) h.inner)
not_before_taken m ordered from rest (cause.NotEntry p) e others h printable taken same =
    h.no_text e (record { printable = printable; text = (parted_line rest h.line h.more e others h.parted same).0 })
not_before_taken m ordered from rest (cause.NotStep why) e others h printable taken same =
    let same_words : words e ≡ words h.entry = sym (parted_line rest h.line h.more e others h.parted same).0 ∙ h.text.text in
    h.not_taken (subst (λ (z : Entry). IsTaken m ordered from z) (words_same e h.entry printable h.text.printable same_words) taken)
not_before_taken m ordered from rest cause.Unfinished e others h printable taken same = nothing_is_no_line (words e) others (sym (line_then e others) ∙ sym same ∙ h.none)

-- nor of nothing where the run is over
not_at_end : (m : Machine) (ordered : Bool) (from : Reached) (rest : List ℕ) (why : Cause) → HoldsAt m ordered from rest why → from.over ≡ true → rest ≡ [] → ⊥
not_at_end m ordered from rest cause.Cut h over none = h.some none
not_at_end m ordered from rest (cause.NotEntry place) h over none = parted_not_empty rest h.line h.more h.parted none
not_at_end m ordered from rest (cause.NotStep why) h over none = parted_not_empty rest h.line h.more h.parted none
not_at_end m ordered from rest cause.Unfinished h over none = false≢true (sym h.goes_on ∙ over)

-- nor of the text of the rest of a whole run
not_held : (m : Machine) (ordered : Bool) (from : Reached) (rest : List ℕ) (why : Cause) (entries : List Entry) → HoldsAt m ordered from rest why → IsRest m ordered from entries → rest ≡ text entries → ⊥
not_held m ordered from rest why [] h is same = not_at_end m ordered from rest why h is.over same
not_held m ordered from rest why (e ∷ es) h is same =
    not_before_taken m ordered from rest why e (text es) h (All-head IsPrintable e es is.printable) (next_taken m ordered from e es is) same

-- nor behind the text of the front
not_behind : (m : Machine) (ordered : Bool) (from : Reached) (front : List Entry) (rest : List ℕ) (why : Cause) (entries : List Entry) → All IsPrintable front →
    HoldsAt m ordered (after_entries m from front) rest why → IsRest m ordered from entries → text front ++ rest ≡ text entries → ⊥
not_behind m ordered from [] rest why entries printable h is same = not_held m ordered from rest why entries h is same
not_behind m ordered from (d ∷ ds) rest why [] printable h is same =
    nothing_is_no_line (words d) (text ds ++ rest) (sym (line_then d (text ds ++ rest)) ∙ sym (append_assoc (line d) (text ds) rest) ∙ same)
not_behind m ordered from (d ∷ ds) rest why (e ∷ es) printable h is same =
    let joined : words d ++ 10 ∷ (text ds ++ rest) ≡ line e ++ text es = sym (line_then d (text ds ++ rest)) ∙ sym (append_assoc (line d) (text ds) rest) ∙ same in
    let parts = parted_line (words d ++ 10 ∷ (text ds ++ rest)) (words d) (text ds ++ rest) e (text es) (record { parts = refl; inner = lines_are_lines d }) joined in
    let same_entry : d ≡ e = words_same d e (All-head IsPrintable d ds printable) (All-head IsPrintable e es is.printable) parts.0 in
    not_behind m ordered (after_entry m from d) ds rest why es (All-tail IsPrintable d ds printable) h
    (subst (λ (z : Entry). IsRest m ordered (after_entry m from z) es) (sym same_entry) (rest_after m ordered from e es is)) parts.1

-- where the verdict is no, the bytes are no schedule
pub no_is_no_schedule : (m : Machine) (ordered : Bool) (bytes : List ℕ) (k : ℕ) (why : Cause) → IsNo m ordered bytes k why → (entries : List Entry) → IsSchedule m ordered bytes entries → ⊥
no_is_no_schedule m ordered bytes k why h entries is =
    not_behind m ordered (run_start m) h.front h.rest why entries h.begins.printable h.holds
    (record { printable = is.printable; run = is.run.whole.0; first = λ asked. (is.run.first asked).ordered; over = is.run.whole.1 })
    (sym h.begins.text ∙ is.run.text)

-- the numbers of every run of a checked machine are in their ranges
pub no_is_no_run : NoIsNoRun
no_is_no_run m checked ordered bytes k why h entries is =
    no_is_no_schedule m ordered bytes k why h entries (record { printable = printable_entries m checked entries is.whole.0; run = is })
