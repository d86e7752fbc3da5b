-- One verdict alone holds of the bytes of a schedule.
use Rattle.std.proofs.Common.{◌≡◌, ℕ, suc, ◌+◌, ◌<◌, Bool, true, List, [], ◌∷◌, ◌++◌, length, refl, sym, ap, ◌∙◌, subst, arith, append_assoc}
use Rattle.std.specs.Prelude.{Result, Err}
use Rattle.std.specs.List.{All}
use Rattle.std.proofs.lemmas.List.Elements.{All-head, All-tail}
use Rattle.sched_model.specs.declared.event.Entry.{Entry}
use Rattle.sched_model.specs.declared.machine.Machine.{Machine}
use Rattle.sched_model.specs.Runs.{Reached, IsRunFrom, run_start, after_entry, after_entries}
use Rattle.run_laws.specs.RunLaws.{IsOrderedFrom}
use Rattle.sched_print.specs.Line.{words, line, text}
use Rattle.sched_print.specs.Places.{IsText, IsPlace}
use Rattle.sched_print.specs.Ranges.{IsPrintable}
use Rattle.sched_print.proofs.Texts.{words_same, lines_are_lines, texts_tell}
use Rattle.sched_check.specs.declared.refusal.NotStep.{NotStep}
use Rattle.sched_check.specs.Checking.{IsTaken}
use Rattle.sched_check.specs.EntryVerdicts.{verdict_of}
use Rattle.sched_check.specs.declared.verdict.Cause.{Cause}
use Rattle.sched_check.specs.declared.verdict.Cause.TheVariants as cause
use Rattle.sched_check.specs.declared.verdict.Verdict.TheVariants as verdict
use Rattle.sched_check.specs.Lines.{IsParted}
use Rattle.sched_check.specs.ScheduleVerdict.{HoldsAt, IsNoEntry, IsNoStep, IsNo, IsYes}
use Rattle.sched_check.specs.VerdictLaws.{OneVerdict}
use Rattle.sched_check.proofs.Newlines.{same_parts, line_then, parted_line}
use Rattle.sched_check.proofs.NoRun.{no_is_no_schedule, not_before_taken, parted_not_cut, parted_not_empty}

parted_same : (rest a x b y : List ℕ) → IsParted rest a x → IsParted rest b y → a ≡ b
parted_same rest a x b y h k = (same_parts a b x y h.inner k.inner (sym h.parts ∙ k.parts)).0

same_place : (bytes : List ℕ) (p q : ℕ) → IsPlace bytes p → IsPlace bytes q → p ≡ q
same_place bytes p q h k =
    let first : p < q → ⊥ = λ less. h.longest q less k.inside k.begins in
    let second : q < p → ⊥ = λ less. k.longest p less h.inside h.begins in
    omega (arith, first, second)

same_no_entry : (rest : List ℕ) (p q : ℕ) → IsNoEntry rest p → IsNoEntry rest q → p ≡ q
same_no_entry rest p q h k =
    same_place h.line p q h.stops (subst (λ (z : List ℕ). IsPlace z q) (sym (parted_same rest h.line h.more k.line k.more h.parted k.parted)) k.stops)

not_both : (m : Machine) (ordered : Bool) (from : Reached) (rest : List ℕ) (p : ℕ) (why : NotStep) → IsNoEntry rest p → IsNoStep m ordered from rest why → ⊥
not_both m ordered from rest p why h k =
    h.no_text k.entry (subst (λ (z : List ℕ). IsText z k.entry) (sym (parted_same rest h.line h.more k.line k.more h.parted k.parted)) k.text)

err_same : (a b : NotStep) → (let r : Result (Unit {0}) NotStep = Err a in let s : Result (Unit {0}) NotStep = Err b in r ≡ s) → a ≡ b
err_same a b e = cc

same_no_step : (m : Machine) (ordered : Bool) (from : Reached) (rest : List ℕ) (a b : NotStep) → IsNoStep m ordered from rest a → IsNoStep m ordered from rest b → a ≡ b
same_no_step m ordered from rest a b h k =
    let same_line : h.line ≡ k.line = parted_same rest h.line h.more k.line k.more h.parted k.parted in
    let same_entry : h.entry ≡ k.entry = words_same h.entry k.entry h.text.printable k.text.printable (sym h.text.text ∙ same_line ∙ k.text.text) in
    err_same a b (sym h.verdict ∙ ap (verdict_of m ordered from) same_entry ∙ k.verdict)

-- one cause alone holds of what is left
same_cause : (m : Machine) (ordered : Bool) (from : Reached) (rest : List ℕ) (a b : Cause) → HoldsAt m ordered from rest a → HoldsAt m ordered from rest b → a ≡ b
same_cause m ordered from rest cause.Cut cause.Cut h k = refl
same_cause m ordered from rest cause.Cut (cause.NotEntry q) h k = absurd (parted_not_cut rest k.line k.more k.parted h.inner)
same_cause m ordered from rest cause.Cut (cause.NotStep b) h k = absurd (parted_not_cut rest k.line k.more k.parted h.inner)
same_cause m ordered from rest cause.Cut cause.Unfinished h k = absurd (h.some k.none)
same_cause m ordered from rest (cause.NotEntry p) cause.Cut h k = absurd (parted_not_cut rest h.line h.more h.parted k.inner)
same_cause m ordered from rest (cause.NotEntry p) (cause.NotEntry q) h k = ap (λ (n : ℕ). cause.NotEntry n) (same_no_entry rest p q h k)
same_cause m ordered from rest (cause.NotEntry p) (cause.NotStep b) h k = absurd (not_both m ordered from rest p b h k)
same_cause m ordered from rest (cause.NotEntry p) cause.Unfinished h k = absurd (parted_not_empty rest h.line h.more h.parted k.none)
same_cause m ordered from rest (cause.NotStep a) cause.Cut h k = absurd (parted_not_cut rest h.line h.more h.parted k.inner)
same_cause m ordered from rest (cause.NotStep a) (cause.NotEntry q) h k = absurd (not_both m ordered from rest q a k h)
same_cause m ordered from rest (cause.NotStep a) (cause.NotStep b) h k = ap (λ (z : NotStep). cause.NotStep z) (same_no_step m ordered from rest a b h k)
same_cause m ordered from rest (cause.NotStep a) cause.Unfinished h k = absurd (parted_not_empty rest h.line h.more h.parted k.none)
same_cause m ordered from rest cause.Unfinished cause.Cut h k = absurd (k.some h.none)
same_cause m ordered from rest cause.Unfinished (cause.NotEntry q) h k = absurd (parted_not_empty rest k.line k.more k.parted h.none)
same_cause m ordered from rest cause.Unfinished (cause.NotStep b) h k = absurd (parted_not_empty rest k.line k.more k.parted h.none)
same_cause m ordered from rest cause.Unfinished cause.Unfinished h k = refl

-- the entries go on with a run, where it is asked each takes the first action; a cause holds of what is left behind them
pub record Stops (m : Machine) (ordered : Bool) (from : Reached) (front : List Entry) (rest : List ℕ) (why : Cause) : Type 0 where
  pub printable : All IsPrintable front
  pub run : IsRunFrom m from front
  pub first : ordered ≡ true → IsOrderedFrom m from front
  pub holds : HoldsAt m ordered (after_entries m from front) rest why

stops_later : (m : Machine) (ordered : Bool) (from : Reached) (e : Entry) (es : List Entry) (rest : List ℕ) (why : Cause) → Stops m ordered from (e ∷ es) rest why → Stops m ordered (after_entry m from e) es rest why
stops_later m ordered from e es rest why h = record { printable = All-tail IsPrintable e es h.printable; run = h.run.1; first = λ asked. (h.first asked).1; holds = h.holds }

stops_taken : (m : Machine) (ordered : Bool) (from : Reached) (e : Entry) (es : List Entry) (rest : List ℕ) (why : Cause) → Stops m ordered from (e ∷ es) rest why → IsTaken m ordered from e
stops_taken m ordered from e es rest why h = record { next = h.run.0; first = λ asked. (h.first asked).0 }

stop_not_later : (m : Machine) (ordered : Bool) (from : Reached) (rest : List ℕ) (a : Cause) (e : Entry) (es : List Entry) (more : List ℕ) (b : Cause) → HoldsAt m ordered from rest a → Stops m ordered from (e ∷ es) more b →
    rest ≡ text (e ∷ es) ++ more → ⊥
stop_not_later m ordered from rest a e es more b h k same =
    not_before_taken m ordered from rest a e (text es ++ more) h (All-head IsPrintable e es k.printable) (stops_taken m ordered from e es more b k) (same ∙ append_assoc (line e) (text es) more)

same_stop : (m : Machine) (ordered : Bool) (from : Reached) (ds : List Entry) (x : List ℕ) (a : Cause) (es : List Entry) (y : List ℕ) (b : Cause) → Stops m ordered from ds x a → Stops m ordered from es y b →
    text ds ++ x ≡ text es ++ y → (length ds ≡ length es) × (a ≡ b)
same_stop m ordered from [] x a [] y b h k same = (refl, same_cause m ordered from x a b h.holds (subst (λ (z : List ℕ). HoldsAt m ordered from z b) (sym same) k.holds))
same_stop m ordered from [] x a (e ∷ es) y b h k same = absurd (stop_not_later m ordered from x a e es y b h.holds k same)
same_stop m ordered from (d ∷ ds) x a [] y b h k same = absurd (stop_not_later m ordered from y b d ds x a k.holds h (sym same))
same_stop m ordered from (d ∷ ds) x a (e ∷ es) y b h k same =
    let joined : words d ++ 10 ∷ (text ds ++ x) ≡ line e ++ (text es ++ y) = sym (line_then d (text ds ++ x)) ∙ sym (append_assoc (line d) (text ds) x) ∙ same ∙ append_assoc (line e) (text es) y in
    let parts = parted_line (words d ++ 10 ∷ (text ds ++ x)) (words d) (text ds ++ x) e (text es ++ y) (record { parts = refl; inner = lines_are_lines d }) joined in
    let same_entry : d ≡ e = words_same d e (All-head IsPrintable d ds h.printable) (All-head IsPrintable e es k.printable) parts.0 in
    let others = same_stop m ordered (after_entry m from d) ds x a es y b (stops_later m ordered from d ds x a h)
    (subst (λ (z : Entry). Stops m ordered (after_entry m from z) es y b) (sym same_entry) (stops_later m ordered from e es y b k)) parts.1 in
    (ap suc others.0, others.1)

stops_of : (m : Machine) (ordered : Bool) (bytes : List ℕ) (k : ℕ) (why : Cause) → (h : IsNo m ordered bytes k why) → Stops m ordered (run_start m) h.front h.rest why
stops_of m ordered bytes k why h = record { printable = h.begins.printable; run = h.begins.run; first = h.begins.first; holds = h.holds }

same_no : (m : Machine) (ordered : Bool) (bytes : List ℕ) (k l : ℕ) (a b : Cause) → IsNo m ordered bytes k a → IsNo m ordered bytes l b → (k ≡ l) × (a ≡ b)
same_no m ordered bytes k l a b h g =
    let both = same_stop m ordered (run_start m) h.front h.rest a g.front g.rest b (stops_of m ordered bytes k a h) (stops_of m ordered bytes l b g) (sym h.begins.text ∙ g.begins.text) in
    (sym h.number ∙ ap (λ (n : ℕ). n + 1) both.0 ∙ g.number, both.1)

same_yes : (m : Machine) (ordered : Bool) (bytes : List ℕ) (n k : ℕ) → IsYes m ordered bytes n → IsYes m ordered bytes k → n ≡ k
same_yes m ordered bytes n k h g =
    let same : h.entries ≡ g.entries = texts_tell h.entries g.entries h.schedule.printable g.schedule.printable (sym h.schedule.run.text ∙ g.schedule.run.text) in
    sym h.count ∙ ap length same ∙ g.count

pub one_verdict : OneVerdict
one_verdict m ordered bytes (verdict.Yes n) (verdict.Yes k) h g = ap (λ (z : ℕ). verdict.Yes z) (same_yes m ordered bytes n k h g)
one_verdict m ordered bytes (verdict.Yes n) (verdict.No k b) h g = absurd (no_is_no_schedule m ordered bytes k b g h.entries h.schedule)
one_verdict m ordered bytes (verdict.No k a) (verdict.Yes n) h g = absurd (no_is_no_schedule m ordered bytes k a h g.entries g.schedule)
one_verdict m ordered bytes (verdict.No k a) (verdict.No l b) h g =
    let both = same_no m ordered bytes k l a b h g in
    ap (λ (z : ℕ). verdict.No z a) both.0 ∙ ap (λ (z : Cause). verdict.No l z) both.1
