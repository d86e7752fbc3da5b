-- What is put of a schedule while its run goes on, line by line, and what is put behind it.
use Rattle.std.proofs.Common.{◌≡◌, ◌∙◌, ◌≤◌, ◌++◌, ◌∷◌, [], ℕ, true, false, List, Option, drop, take, sym, ap, subst, arith}
use native.Mathlib.Decide.{ℕ_discrete}
use mathlib.Core.Logic.{dite}
use Rattle.std.specs.Prelude.{◌^◌, ◌-◌, Result, Ok, Err, OnOk, OnErr, is_err, is_ok}
use Rattle.std.proofs.lemmas.List.{take-append-drop}
use Rattle.std.proofs.lemmas.Grind.{flat_map-append}
use Rattle.sched_base.specs.declared.Failed.{Failed}
use Rattle.sched_io.specs.Faults.{Rose}
use Rattle.sched_io.specs.Puts.{Adds, AddsPart}
use Rattle.sched_io.proofs.PutLemmas.{adds_nothing, adds_both, adds_then_part, part_of_more}
use Rattle.sched_model.specs.declared.event.Entry.{Entry}
use Rattle.sched_model.specs.declared.machine.Machine.{Machine}
use Rattle.sched_print.specs.Line.{line, text}
use Rattle.sched_check.proofs.SoFarLemmas.{text_next}
use Rattle.xensched_top.specs.declared.writing.Writing.{Writing}
use Rattle.xensched_top.specs.Entries.{Coming}
use Rattle.xensched_top.specs.Written.{HasPut, HasRun, HasWritten}

-- the count rose behind one that did not fall
rose_behind : (old mid new : ℕ) → old ≤ mid → Rose mid new → Rose old new
rose_behind old mid new less rose = record {
  kept = (let k = rose.kept in omega (arith, less, k));
  higher = λ low. dite (ℕ_discrete mid (2 ^ 64 - 1))
      (λ top. (let k = rose.kept in omega (arith, less, k, top, low)))
      (λ more. (let k = rose.higher more in omega (arith, less, k)));
}

text_halves : (n : ℕ) (entries : List Entry) → text entries ≡ text (take n entries) ++ text (drop n entries)
text_halves n entries = ap text (sym (take-append-drop n entries)) ∙ flat_map-append line (take n entries) (drop n entries)

module _ {K : Type 0} (told : K → Option (List ℕ)) (faults : K → ℕ) where
  pub put_nothing : (w : Writing) (sink : K) → HasPut told faults w sink [] w sink
  put_nothing w sink fine = record {
    counts = omega arith;
    whole = λ _. adds_nothing (told sink);
    part = λ bad. (let e : true ≡ false = sym bad ∙ fine in absurd (cc (e)));
    cause = λ bad. (let e : true ≡ false = sym bad ∙ fine in absurd (cc (e)));
  }

  module _ (first : Writing) (out : K) (entries : List Entry) (e : Entry) (w : Writing) (sink : K) (was : HasPut told faults first out entries w sink) where
    -- a put has failed before
    pub put_no_more : w.failed ≡ true → HasPut told faults first out (entries ++ e ∷ []) w sink
    put_no_more bad fine = (let p = was fine in record {
      counts = p.counts;
      whole = λ good. (let x : true ≡ false = sym bad ∙ good in absurd (cc (x)));
      part = λ _. subst (λ (z : List ℕ). AddsPart (told out) (told sink) z) (sym (text_next entries e)) (part_of_more (told out) (told sink) (text entries) (line e) (p.part bad));
      cause = λ _. p.cause bad;
    })

    -- the line of the entry is put, or a part of it
    pub put_line : (now : Writing) (after : K) (piece : List ℕ) (r : Result Unit Failed) → w.failed ≡ false → piece ≡ line e → now.failed ≡ is_err r → OnOk r (Adds (told sink) (told after) piece) → OnErr r (AddsPart (told sink) (told after) piece)
        → faults sink ≤ faults after → OnErr r (Rose (faults sink) (faults after)) → HasPut told faults first out (entries ++ e ∷ []) now after
    put_line now after piece (Ok u) good is failed whole part counts cause fine = (let p = was fine in record {
      counts = (let c = p.counts in omega (arith, c, counts));
      whole = λ _. subst (λ (z : List ℕ). Adds (told out) (told after) z) (sym (text_next entries e)) (adds_both (told out) (told sink) (told after) (text entries) (line e) (p.whole good) (subst (λ (z : List ℕ). Adds (told sink) (told after) z) is whole));
      part = λ bad. (let x : true ≡ false = sym bad ∙ failed in absurd (cc (x)));
      cause = λ bad. (let x : true ≡ false = sym bad ∙ failed in absurd (cc (x)));
    })
    put_line now after piece (Err f) good is failed whole part counts cause fine = (let p = was fine in record {
      counts = (let c = p.counts in omega (arith, c, counts));
      whole = λ fine_now. (let x : true ≡ false = sym failed ∙ fine_now in absurd (cc (x)));
      part = λ _. subst (λ (z : List ℕ). AddsPart (told out) (told after) z) (sym (text_next entries e)) (adds_then_part (told out) (told sink) (told after) (text entries) (line e) (p.whole good) (subst (λ (z : List ℕ). AddsPart (told sink) (told after) z) is part));
      cause = λ _. rose_behind (faults out) (faults sink) (faults after) p.counts cause;
    })

  module _ (limit : ℕ) (m : Machine) (rest : Coming) (out : K) (w : Writing) (sink : K) (run : HasRun told faults limit m rest out w sink) where
    -- a put has failed while the run went on
    pub written_failed : w.failed ≡ true → HasWritten told faults limit m false rest.end out sink
    written_failed bad = record {
      entries = run.history;
      ended = run.ended;
      counts = run.puts.counts;
      all = λ good. absurd (cc (good));
      part = λ _. subst (λ (z : List ℕ). AddsPart (told out) (told sink) z) (sym (text_halves run.count run.history)) (part_of_more (told out) (told sink) (text (take run.count run.history)) (text (drop run.count run.history)) (run.puts.part bad));
      cause = λ _. run.puts.cause bad;
    }

    -- what is left is put, or a part of it
    pub written_rest : (after : K) (r : Result Unit Failed) → w.failed ≡ false → OnOk r (Adds (told sink) (told after) (text rest.entries)) → OnErr r (AddsPart (told sink) (told after) (text rest.entries)) → faults sink ≤ faults after
        → OnErr r (Rose (faults sink) (faults after)) → HasWritten told faults limit m (is_ok r) rest.end out after
    written_rest after (Ok u) good whole part counts cause = record {
      entries = run.history;
      ended = run.ended;
      counts = (let c = run.puts.counts in omega (arith, c, counts));
      all = λ _. subst (λ (z : List ℕ). Adds (told out) (told after) z) (sym (text_halves run.count run.history)) (adds_both (told out) (told sink) (told after) (text (take run.count run.history)) (text (drop run.count run.history)) (run.puts.whole good) (subst (λ (es : List Entry). Adds (told sink) (told after) (text es)) run.rest_is whole));
      part = λ bad. absurd (cc (bad));
      cause = λ bad. absurd (cc (bad));
    }
    written_rest after (Err f) good whole part counts cause = record {
      entries = run.history;
      ended = run.ended;
      counts = (let c = run.puts.counts in omega (arith, c, counts));
      all = λ fine. absurd (cc (fine));
      part = λ _. subst (λ (z : List ℕ). AddsPart (told out) (told after) z) (sym (text_halves run.count run.history)) (adds_then_part (told out) (told sink) (told after) (text (take run.count run.history)) (text (drop run.count run.history)) (run.puts.whole good) (subst (λ (es : List Entry). AddsPart (told sink) (told after) (text es)) run.rest_is part));
      cause = λ _. rose_behind (faults out) (faults sink) (faults after) run.puts.counts cause;
    }
