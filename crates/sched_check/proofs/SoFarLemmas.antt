-- What is known after some lines of a schedule.
use Rattle.std.proofs.Common.{◌≡◌, ℕ, ◌+◌, ◌≤◌, Bool, List, [], ◌∷◌, ◌++◌, length, sym, ap, ◌∙◌, subst, arith, append_assoc, length-append}
use Rattle.std.proofs.lemmas.List.{append-nil}
use Rattle.std.proofs.lemmas.Grind.{flat_map-append}
use Rattle.std.proofs.lemmas.List.Concat.{flat_map-cons}
use Rattle.std.proofs.lemmas.List.Elements.{All-push}
use Rattle.sched_model.specs.declared.event.Entry.{Entry}
use Rattle.sched_model.specs.declared.machine.Machine.{Machine}
use Rattle.sched_model.specs.Runs.{Reached, run_start, after_entry, after_entries}
use Rattle.sched_model.proofs.RunLemmas.{after_entries-append, IsRunFrom-append}
use Rattle.sched_print.specs.Line.{words, line, text}
use Rattle.sched_print.specs.Ranges.{IsPrintable}
use Rattle.sched_check.specs.Checking.{Checking, IsTaken}
use Rattle.sched_check.specs.ScheduleVerdict.{IsBegun, IsTakenLine}
use Rattle.run_laws.proofs.Ordered.{IsOrderedFrom-append}

-- these many lines passed, and the rest is left: they are the text of a run, and the checker has come to where it leads
pub record SoFar (start now : Checking) (bytes rest : List ℕ) (passed : ℕ) : Type 0 where
  pub front : List Entry
  pub begins : IsBegun start.machine start.ordered bytes front rest
  pub count : length front ≡ passed
  pub room : passed + length rest ≤ length bytes
  pub here : now ≡ record start { reached = after_entries start.machine (run_start start.machine) front }

pub text_next : (entries : List Entry) (e : Entry) → text (entries ++ e ∷ []) ≡ text entries ++ line e
text_next entries e = flat_map-append line entries (e ∷ []) ∙ ap (λ (z : List ℕ). text entries ++ z) (flat_map-cons line e [] ∙ append-nil (line e))

begins_more : (m : Machine) (ordered : Bool) (bytes : List ℕ) (front : List Entry) (rest more : List ℕ) (e : Entry) → IsBegun m ordered bytes front rest → IsPrintable e → rest ≡ line e ++ more →
    IsTaken m ordered (after_entries m (run_start m) front) e → IsBegun m ordered bytes (front ++ e ∷ []) more
begins_more m ordered bytes front rest more e h printable same taken = record {
  printable = All-push IsPrintable front e h.printable printable;
  text = h.text ∙ ap (λ (z : List ℕ). text front ++ z) same ∙ sym (append_assoc (text front) (line e) more) ∙ ap (λ (z : List ℕ). z ++ more) (sym (text_next front e));
  run = IsRunFrom-append m (run_start m) front e h.run taken.next;
  first = λ asked. IsOrderedFrom-append m (run_start m) front e (h.first asked) (taken.first asked);
}

shorter : (e : Entry) (rest more : List ℕ) → rest ≡ line e ++ more → length more + 1 ≤ length rest
shorter e rest more same =
    let whole : length rest ≡ length (line e) + length more = ap length same ∙ length-append (line e) more in
    let some : length (line e) ≡ length (words e) + 1 = length-append (words e) (10 ∷ []) in
    omega (arith, whole, some)

pub so_far_more : {start now later : Checking} {bytes rest more : List ℕ} {passed : ℕ} → SoFar start now bytes rest passed → IsTakenLine now later rest more → SoFar start later bytes more (passed + 1)
so_far_more {start} {now} {later} {bytes} {rest} {more} {passed} far h =
    let m : Machine = start.machine in
    let reached : Reached = after_entries m (run_start m) far.front in
    let taken : IsTaken m start.ordered reached h.entry = subst (λ (z : Checking). IsTaken z.machine z.ordered z.reached h.entry) far.here h.taken in
    let less : length more + 1 ≤ length rest = shorter h.entry rest more h.line in
    let longer : length (far.front ++ h.entry ∷ []) ≡ length far.front + 1 = length-append far.front (h.entry ∷ []) in
    record {
      front = far.front ++ h.entry ∷ [];
      begins = begins_more m start.ordered bytes far.front rest more h.entry far.begins h.printable h.line taken;
      count = longer ∙ ap (λ (n : ℕ). n + 1) far.count;
      room = omega (arith, less, far.room);
      here = h.came_to
          ∙ ap (λ (z : Checking). record z { reached = after_entry z.machine z.reached h.entry }) far.here
          ∙ ap (λ (r : Reached). record start { reached = r }) (sym (after_entries-append m (run_start m) far.front h.entry));
    }
