-- The values of the example's locks in order, and what a seat has that holds the tool's lock and the book alone.
use Rattle.std.proofs.Common.{◌≡◌, ◌≢◌, ℕ, zero, suc, ◌+◌, eqb, List, [], ◌∷◌, ◌++◌, length, Some, None, sym, refl, ap, ◌∙◌, subst, arith}
use mathlib.Core.Logic.{dite}
use mathlib.Core.Option.{some, some-ne-none}
use lib.ListN.{get_elem?}
use native.Mathlib.Decide.{ℕ_discrete, dec_lt}
use Rattle.sched_model.specs.declared.event.Entry.{Entry}
use Rattle.journal_core.specs.Parts.{StatePart}
use Rattle.journal_core.specs.Histories.{part_at, home_at}
use Rattle.lock_moves.specs.SeatSight.{Known, Seen, Sitting, known_part, find_lock, locks_without, refreshed_locks, IsCurrent, after_take, took_book, book_known, committed_view, tried_again}
use Rattle.lock_moves.specs.Plays.{Kept, Placed}
use Rattle.lock_moves.specs.Sets.{Taken, sitting_with}
use Rattle.lock_moves.proofs.Finding.{never}
use Rattle.lock_example.specs.Example.{adding_machine}
use Rattle.lock_example.specs.declared.counter.Counter.{Counter}
use Rattle.lock_example.specs.Holders.{AreFrom}
use Rattle.lock_example.proofs.Checks.{at_back, at_front}

-- no value yet
pub from_none : (first : ℕ) (xs : List (Taken Counter)) → xs ≡ [] → AreFrom first xs
from_none first xs none i x at = absurd (some-ne-none x (sym at ∙ ap (λ (l : List (Taken Counter)). get_elem? l i) none))

-- a value more
pub from_snoc : (first : ℕ) (xs : List (Taken Counter)) (x : Taken Counter) → x.lock ≡ first + length xs → AreFrom first xs → AreFrom first (xs ++ x ∷ [])
from_snoc first xs x lock each i y at = dite (dec_lt i (length xs))
    (λ low. each i y (sym (at_front x xs i low) ∙ at))
    (λ high. let is = at_back x xs i y (omega (arith, high)) at in ap (λ (z : Taken Counter). z.lock) is.1 ∙ (lock ∙ ap (λ n. first + n) (sym is.0)))

-- the last of the values, and those before it
pub from_front : (first : ℕ) (xs : List (Taken Counter)) (x : Taken Counter) → AreFrom first (xs ++ x ∷ []) → AreFrom first xs × (x.lock ≡ first + length xs)
from_front first xs x each = (λ i y at. each i y (longer xs i y at), each (length xs) x (last xs))
  where
    longer : (zs : List (Taken Counter)) (j : ℕ) (z : Taken Counter) → get_elem? zs j ≡ some z → get_elem? (zs ++ x ∷ []) j ≡ some z
    longer [] j z e = absurd (some-ne-none z (sym e))
    longer (w ∷ zs) zero z e = e
    longer (w ∷ zs) (suc j) z e = longer zs j z e

    last : (zs : List (Taken Counter)) → get_elem? (zs ++ x ∷ []) (length zs) ≡ some x
    last [] = refl
    last (z ∷ zs) = last zs

-- the tool's lock and the book are held, and no other lock
abbrev pub holds_tool : Known → List (ℕ × Known)
holds_tool x = (17, book_known) ∷ (16, x) ∷ []

-- a seat that held nothing has taken the tool's lock, and then the book
pub tool_taken : (n t m u : ℕ) (part : StatePart) (names : List ℕ) (h : List Entry) (old mid new : Sitting) → old.view.held ≡ [] → mid ≡ sitting_with old (after_take 16 part names t (tried_again n 16 old.view))
    → new ≡ sitting_with mid (took_book h u (tried_again m 17 mid.view)) → new.view.held ≡ holds_tool (known_part part names)
tool_taken n t m u part names h old mid new none first second =
    ap (λ (s : Sitting). s.view.held) second ∙ ap (λ k. (17, book_known) ∷ k) (ap (λ (s : Sitting). s.view.held) first ∙ ap (λ k. (16, known_part part names) ∷ k) none)

-- the book is put back under the tool's lock alone, with the history f, to which the names of the view belong
pub tool_known : (f : List Entry) (v w : Seen) (x : Known) → v.input ≡ adding_machine → v.held ≡ holds_tool x → Placed v f → w ≡ committed_view f v → (y : Known) × (find_lock 16 w.held ≡ Some y) × IsCurrent adding_machine f 16 y
tool_known f v w x input held placed is = (
  known_part (part_at v.input f 16) x.names,
  ap (λ (u : Seen). find_lock 16 u.held) is ∙ ap (λ l. find_lock 16 (refreshed_locks v.input f (locks_without 17 l))) held,
  record {
    part = ap (λ m. part_at m f 16) input;
    names = λ n small. placed.0 16 x n (omega arith) (ap (find_lock 16) held) small ∙ ap (λ m. eqb (home_at m f n) 16) input;
  },
)

-- the parts whose locks are not held are as before, where all parts but the tool's are
pub kept_tool : (f h : List Entry) (v : Seen) (x : Known) → v.input ≡ adding_machine → v.front ≡ f → v.held ≡ holds_tool x → ((k : ℕ) → k ≢ 16 → part_at adding_machine h k ≡ part_at adding_machine f k) → Kept v h
kept_tool f h v x input front held same k low none = dite (ℕ_discrete k 16)
    (λ e. absurd (never x (sym (subst (λ (j : ℕ). find_lock j v.held ≡ None) e none) ∙ ap (find_lock 16) held)))
    (λ ne. ap (λ m. part_at m h k) input ∙ (same k ne ∙ (λ i. part_at (sym input i) (sym front i) k)))
