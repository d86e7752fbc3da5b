-- The entries of a run, one by one, and what is written of those that have come.
use Rattle.std.proofs.Common.{◌≡◌, ℕ, zero, suc, ◌+◌, ◌<◌, ◌≤◌, Bool, true, false, List, [], ◌∷◌, ◌++◌, drop, length, slice_get, Option, Some, refl, ap, sym, subst, ◌∙◌, arith, add-one, append_assoc}
use Rattle.std.specs.Prelude.{◌&&◌, not, if◌then◌else◌, Result, Ok, Err, OnOk, OnErr}
use Rattle.std.proofs.Math.Seq.{drop-cons}
use Rattle.std.proofs.lemmas.Grind.{flat_map-append}
use Rattle.std.proofs.lemmas.List.{append-nil, length-append}
use Rattle.std.proofs.lemmas.List.Concat.{flat_map-cons}
use Rattle.std.proofs.lemmas.Option.{get_or_from_slice_get, slice_get_within}
use Rattle.sched_io.specs.Puts.{Adds, AddsPart}
use Rattle.sched_io.proofs.PutLemmas.{adds_nothing, adds_both, adds_then_part, part_of_more}
use Rattle.sched_model.specs.declared.event.Entry.{Entry}
use Rattle.sched_model.specs.declared.machine.Machine.{Machine}
use Rattle.sched_model.specs.declared.state.State.{State}
use Rattle.sched_model.specs.Machine.{ordered_run}
use Rattle.sched_model.specs.Standing.{Standing}
use Rattle.sched_print.specs.Line.{line, text}
use Rattle.engine.specs.OrderedRun.{next_entry, next_state, is_last, goes_on}
use Rattle.engine.proofs.OrderedLemmas.{last_cases, run_more, run_last}
use Rattle.pcpu_threads.specs.declared.ends.RunEnd.TheVariants as run_end
use Rattle.sched_check.proofs.SoFarLemmas.{text_next}
use Rattle.xensched_top.specs.Entries.{ordered_entries}

-- the next entry of the ordered run, and those behind it
ordered_next : (m : Machine) (s : State) (n : ℕ) → (ordered_entries m s (suc n) false).entries ≡ next_entry m s ∷ (ordered_entries m (next_state m s) n (is_last m s)).entries
ordered_next m s n = last_cases (is_last m s)
    (λ last. run_last n m s last ∙ ap (λ (over : Bool). next_entry m s ∷ (ordered_entries m (next_state m s) n over).entries) (sym last))
    (λ more. run_more n m s more ∙ ap (λ (over : Bool). next_entry m s ∷ (ordered_entries m (next_state m s) n over).entries) (sym more))

-- the run ends as it would have ended before
ordered_ending : (m : Machine) (s : State) (n : ℕ) → (ordered_entries m (next_state m s) n (is_last m s)).end ≡ (ordered_entries m s (suc n) false).end
ordered_ending m s n = last_cases (is_last m s)
    (λ last.
    ap (λ (over : Bool). (ordered_entries m (next_state m s) n over).end) last
    ∙ sym (ap (λ (over : Bool). if (not over && goes_on n m (next_state m s)) then run_end.Full else run_end.Finished) last))
    (λ more.
    ap (λ (over : Bool). (ordered_entries m (next_state m s) n over).end) more
    ∙ sym (ap (λ (over : Bool). if (not over && goes_on n m (next_state m s)) then run_end.Full else run_end.Finished) more))

module _ (p q : Standing) (left less : ℕ) (over last : Bool) (entry : Entry) (going : over ≡ false) (some : left ≡ suc less) (is : entry ≡ next_entry p.machine p.state) (ends : last ≡ is_last p.machine p.state)
    (goes : q ≡ record p { state = next_state p.machine p.state }) where
  -- the engine has made the next entry
  pub ordered_comes : (ordered_entries p.machine p.state left over).entries ≡ entry ∷ (ordered_entries q.machine q.state less last).entries
  ordered_comes =
      ap (λ (b : Bool). (ordered_entries p.machine p.state left b).entries) going
      ∙ ap (λ (k : ℕ). (ordered_entries p.machine p.state k false).entries) some
      ∙ ordered_next p.machine p.state less
      ∙ ap (λ (e : Entry). e ∷ (ordered_entries p.machine (next_state p.machine p.state) less (is_last p.machine p.state)).entries) (sym is)
      ∙ ap (λ (b : Bool). entry ∷ (ordered_entries p.machine (next_state p.machine p.state) less b).entries) (sym ends)
      ∙ ap (λ (r : Standing). entry ∷ (ordered_entries r.machine r.state less last).entries) (sym goes)

  pub ordered_ends_so : (ordered_entries q.machine q.state less last).end ≡ (ordered_entries p.machine p.state left over).end
  ordered_ends_so =
      ap (λ (r : Standing). (ordered_entries r.machine r.state less last).end) goes
      ∙ ap (λ (b : Bool). (ordered_entries p.machine (next_state p.machine p.state) less b).end) ends
      ∙ ordered_ending p.machine p.state less
      ∙ ap (λ (k : ℕ). (ordered_entries p.machine p.state k false).end) (sym some)
      ∙ ap (λ (b : Bool). (ordered_entries p.machine p.state left b).end) (sym going)

-- no entry is left, or the run is over
pub none_left : (m : Machine) (s : State) (left : ℕ) (over : Bool) → left ≡ 0 → (ordered_entries m s left over).entries ≡ []
none_left m s left true none = refl
none_left m s left false none = ap (λ (k : ℕ). ordered_run k m s) none

pub is_over : (m : Machine) (s : State) (left : ℕ) (over : Bool) → over ≡ true → ordered_entries m s left over ≡ record { entries = []; end = run_end.Finished }
is_over m s left over is = ap (ordered_entries m s left) is

-- all entries that were allowed have come, and none was the last
pub is_full : (m : Machine) (s : State) (left : ℕ) (over : Bool) → over ≡ false → (ordered_entries m s left over).entries ≡ [] → run_end.Full ≡ (ordered_entries m s left over).end
is_full m s left true is none = absurd (cc (is))
is_full m s zero false is none = refl
is_full m s (suc n) false is none = absurd (cc (ordered_next m s n, none))

-- the next entry of a book
pub recorded_next : (history : List Entry) (i : ℕ) (e : Entry) → slice_get history i ≡ Some e → drop i history ≡ e ∷ drop (i + 1) history
recorded_next history i e found =
    drop-cons history i e (slice_get_within history i e found)
    ∙ ap (λ (x : Entry). x ∷ drop (suc i) history) (get_or_from_slice_get history i e e found)
    ∙ ap (λ (k : ℕ). e ∷ drop k history) (sym (add-one i))

-- of all these entries so many are left; of the others the lines were put, and no count of faults fell
pub record PutUpTo (all left : List Entry) (before now : Option (List ℕ)) (old new : ℕ) : Type 0 where
  pub came : List Entry
  pub splits : all ≡ came ++ left
  pub adds : Adds before now (text came)
  pub counts : old ≤ new

pub put_starts : (all : List Entry) (before : Option (List ℕ)) (count : ℕ) → PutUpTo all all before before count count
put_starts all before count = record { came = []; splits = refl; adds = adds_nothing before; counts = omega arith }

one_more : (came : List Entry) (e : Entry) (rest : List Entry) → came ++ e ∷ rest ≡ (came ++ e ∷ []) ++ rest
one_more came e rest = sym (append_assoc came (e ∷ []) rest)

text_more : (came : List Entry) (e : Entry) (rest : List Entry) → text (came ++ e ∷ rest) ≡ (text came ++ line e) ++ text rest
text_more came e rest = flat_map-append line came (e ∷ rest) ∙ ap (λ z. text came ++ z) (flat_map-cons line e rest) ∙ sym (append_assoc (text came) (line e) (text rest))

pub put_one : {all left rest : List Entry} {before now after : Option (List ℕ)} {old new newer : ℕ} (e : Entry) (piece : List ℕ) →
    PutUpTo all left before now old new → left ≡ e ∷ rest → piece ≡ line e → Adds now after piece → new ≤ newer → PutUpTo all rest before after old newer
put_one {all} {left} {rest} {before} {now} {after} {old} {new} {newer} e piece far next is put risen = record {
  came = far.came ++ e ∷ [];
  splits = far.splits ∙ ap (λ (es : List Entry). far.came ++ es) next ∙ one_more far.came e rest;
  adds = subst (λ (z : List ℕ). Adds before after z) (sym (text_next far.came e)) (adds_both before now after _ _ far.adds (subst (λ (z : List ℕ). Adds now after z) is put));
  counts = omega (arith, far.counts, risen);
}

pub put_fails : {all left rest : List Entry} {before now after : Option (List ℕ)} {old new : ℕ} (e : Entry) (piece : List ℕ) →
    PutUpTo all left before now old new → left ≡ e ∷ rest → piece ≡ line e → AddsPart now after piece → AddsPart before after (text all)
put_fails {all} {left} {rest} {before} {now} {after} {old} {new} e piece far next is part =
    subst (λ (z : List ℕ). AddsPart before after z) (sym (ap text (far.splits ∙ ap (λ (es : List Entry). far.came ++ es) next) ∙ text_more far.came e rest))
    (part_of_more before after _ (text rest) (adds_then_part before now after _ _ far.adds (subst (λ (z : List ℕ). AddsPart now after z) is part)))

pub put_all : {all left : List Entry} {before now : Option (List ℕ)} {old new : ℕ} → PutUpTo all left before now old new → left ≡ [] → Adds before now (text all)
put_all {all} {left} {before} {now} {old} {new} far none =
    subst (λ (z : List ℕ). Adds before now z) (sym (ap text (far.splits ∙ ap (λ (es : List Entry). far.came ++ es) none ∙ append-nil far.came))) far.adds

-- entries that have come, behind which these are left, and one of them more
pub came_more : {all left more rest : List Entry} (came : List Entry) (e : Entry) → all ≡ came ++ left → left ≡ e ∷ rest → more ≡ came ++ e ∷ [] → all ≡ more ++ rest
came_more {all} {left} {more} {rest} came e splits next grown =
    splits ∙ ap (λ (es : List Entry). came ++ es) next ∙ one_more came e rest ∙ ap (λ (es : List Entry). es ++ rest) (sym grown)

pub came_few : {all left rest : List Entry} (came : List Entry) (most : ℕ) (e : Entry) → all ≡ came ++ left → left ≡ e ∷ rest → length all < most → length came + 1 < most
came_few {all} {left} {rest} came most e splits next few =
    let count : length all ≡ length came + suc (length rest) = ap length (splits ∙ ap (λ (es : List Entry). came ++ es) next) ∙ length-append came (e ∷ rest) in omega (arith, count, few)

pub came_all : {all left : List Entry} (came : List Entry) → all ≡ came ++ left → left ≡ [] → came ≡ all
came_all {all} {left} came splits none = sym (splits ∙ ap (λ (es : List Entry). came ++ es) none ∙ append-nil came)

-- what a call ensures where it succeeds, or where it does not, holds where this is its answer
pub ok_holds : {X E : Type 0} {P : Type 0} {r answer : Result X E} {x : X} → OnOk r P → answer ≡ r → answer ≡ Ok x → P
ok_holds {X} {E} {P} {r} {answer} {x} h is ok = subst (λ (q : Result X E). OnOk q P) (sym is ∙ ok) h

pub err_holds : {X E : Type 0} {P : Type 0} {r answer : Result X E} {x : E} → OnErr r P → answer ≡ r → answer ≡ Err x → P
err_holds {X} {E} {P} {r} {answer} {x} h is err = subst (λ (q : Result X E). OnErr q P) (sym is ∙ err) h
