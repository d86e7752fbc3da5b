-- A seat that has taken the book, read it, and put it back.
use mathlib.Core.List.{IsPrefix}
use mathlib.Core.Logic.{dite}
use native.Mathlib.Decide.{ℕ_discrete}
use Rattle.std.proofs.Common.{◌≡◌, ◌≢◌, ◌∙◌, ⊎_elim, ℕ, zero, suc, ◌+◌, ◌<◌, ◌≤◌, ◌++◌, [], ◌∷◌, List, None, drop, take, refl, sym, ap, subst, arith}
use Rattle.std.specs.Prelude.{Option, Some, slice_get}
use Rattle.std.proofs.lemmas.Option.{slice_get_within}
use Rattle.std.proofs.lemmas.Bool.{cases_lt}
use Rattle.lock_moves.specs.SeatSight.{Known, Seen, Sitting, find_lock}
use Rattle.lock_moves.proofs.Finding.{none_held}
use Rattle.journal_core.specs.Books.{Chronicle}
use Rattle.hall.specs.declared.seat.Arrival.{Arrival}
use Rattle.hall.specs.Seats.{SitsFree}
use Rattle.hall.specs.Steps.{KeepsLocks, KeepsSight, SeesBook}
use Rattle.hall.proofs.Counting.{free-seen}

-- the book was taken and put back by a seat that held nothing, which then holds nothing
free_again : (old mid new : Seen) → old.held ≡ [] → ((k : ℕ) → k ≢ 17 → find_lock k mid.held ≡ find_lock k old.held) → KeepsLocks mid new → new.held ≡ []
free_again old mid new nothing took gave = none_held new.held none
  where
    before : (k : ℕ) → k ≢ 17 → find_lock k mid.held ≡ None
    before k ne = took k ne ∙ ap (λ (xs : List (ℕ × Known)). find_lock k xs) nothing

    none : (k : ℕ) → find_lock k new.held ≡ None
    none k = ⊎_elim
        (λ (low : k < 17). let ne : k ≢ 17 = λ e. absurd (omega (arith, e, low)) in gave.locks k low ∙ before k ne)
        (λ (high : 17 ≤ k). dite (ℕ_discrete k 17)
        (λ is. ap (λ (j : ℕ). find_lock j new.held) is ∙ gave.book)
        (λ ne. gave.others k (omega (arith, high, ne)) (before k ne)))
        (cases_lt k 17)

-- the front is then the book's history
pub front-read : (b : Chronicle) (old mid new : Sitting) → SeesBook b old mid → KeepsSight mid new → new.view.front ≡ b.history
front-read b old mid new sees keeps = keeps.front ∙ sees.front

-- and the seat is again one between two calls
pub free-read : (b : Chronicle) (old mid new : Sitting) (kept : Option Arrival) → SitsFree old kept → SeesBook b old mid → ((k : ℕ) → k ≢ 17 → find_lock k mid.view.held ≡ find_lock k old.view.held)
    → KeepsSight mid new → KeepsLocks mid.view new.view → SitsFree new kept
free-read b old mid new kept free sees took keeps gave =
    free-seen old new kept free (free_again old.view mid.view new.view free.nothing took gave) (keeps.input ∙ sees.input) (subst (IsPrefix old.view.front) (sym (front-read b old mid new sees keeps)) sees.begins)

module _ {A : Type 0} where
  abbrev the : A → Option A → A
  the d None = d
  the d (Some x) = x

  -- the first elements of a list, and the next one
  next-taken : (xs : List A) (n : ℕ) (x : A) → slice_get xs n ≡ Some x → take (suc n) xs ≡ take n xs ++ x ∷ []
  next-taken [] n x at = absurd (omega (arith, slice_get_within [] n x at))
  next-taken (y ∷ xs) zero x at = ap (λ (o : Option A). the y o ∷ []) at
  next-taken (y ∷ xs) (suc n) x at = ap (λ (l : List A). y ∷ l) (next-taken xs n x at)

  -- what stands in the rest of a list
  get-dropped : (xs : List A) (n i : ℕ) → slice_get (drop n xs) i ≡ slice_get xs (n + i)
  get-dropped [] zero i = refl
  get-dropped [] (suc n) i = refl
  get-dropped (x ∷ xs) zero i = let at : i ≡ 0 + i = omega arith in ap (λ (k : ℕ). slice_get (x ∷ xs) k) at
  get-dropped (x ∷ xs) (suc n) i = let at : suc (n + i) ≡ suc n + i = omega arith in get-dropped xs n i ∙ ap (λ (k : ℕ). slice_get (x ∷ xs) k) at

  -- one element more was copied
  pub copied-next : (xs : List A) (from n : ℕ) (x : A) → slice_get xs (from + n) ≡ Some x → take (suc n) (drop from xs) ≡ take n (drop from xs) ++ x ∷ []
  copied-next xs from n x at = next-taken (drop from xs) n x (get-dropped xs from n ∙ at)
