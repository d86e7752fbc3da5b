-- Lists of workers: each is of the hall, and together they have as many parts as before.
use Rattle.std.proofs.Common.{◌≡◌, ◌∙◌, ◌++◌, ◌+◌, ◌-◌, ◌<◌, ℕ, suc, List, [], ◌∷◌, length, get_or, refl, ap, subst, arith}
use Rattle.std.proofs.lemmas.List.Sums.{sum_by-cons, sum_by_push}
use Rattle.lock_moves.specs.Sets.{LockTable, sitting_with}
use Rattle.hall.specs.Seats.{IsOf, Seated, Stays}
use Rattle.pcpu_threads.specs.Workers.{AllWorked, HasWorked, OneEach, all_taken_in, lessened_by, shares_of, taken_in}
use Rattle.hall.specs.Seats.{shares_in}

-- a seat that stays is still of the hall
pub of-stays : (hall : LockTable) (old new : Seated) → IsOf hall old → Stays old new → IsOf hall new
of-stays hall old new of stays = record { table = stays.table ∙ of.table; input = stays.input ∙ of.input; limit = stays.limit ∙ of.limit }

pub shares-cons : (s : Seated) (seats : List Seated) → shares_of (s ∷ seats) ≡ s.sitting.view.shares + shares_of seats
shares-cons s seats = sum_by-cons shares_in s seats

pub shares-push : (seats : List Seated) (s : Seated) → shares_of (seats ++ s ∷ []) ≡ shares_of seats + s.sitting.view.shares
shares-push seats s = sum_by_push shares_in seats s

-- where each seat stays, they have as many parts together
shares-stay : (old new : List Seated) → length new ≡ length old → ((p : ℕ) (d : Seated) → p < length old → Stays (get_or old p d) (get_or new p d)) → shares_of new ≡ shares_of old
shares-stay [] [] len each = refl
shares-stay [] (y ∷ new) len each = absurd (omega (arith, len))
shares-stay (x ∷ old) [] len each = absurd (omega (arith, len))
shares-stay (x ∷ old) (y ∷ new) len each =
    let first : shares_in y ≡ shares_in x = (each 0 x (omega arith)).shares in
    let rest : shares_of new ≡ shares_of old = shares-stay old new (omega (arith, len)) (λ p d low. each (suc p) d (omega (arith, low))) in
    let a = shares-cons x old in
    let b = shares-cons y new in
    omega (arith, first, rest, a, b)

-- one part more was given away
pub less-more : (s : Seated) (k : ℕ) → lessened_by 1 (lessened_by k s) ≡ lessened_by (k + 1) s
less-more s k = let e : s.sitting.view.shares - k - 1 ≡ s.sitting.view.shares - (k + 1) = omega arith in ap (λ (n : ℕ). record s { sitting = sitting_with s.sitting (record s.sitting.view { shares = n }) }) e

-- what is said of two seats is said of the same two
pub worked-is : (hall : LockTable) (n domains p : ℕ) (old new first last : Seated) → old ≡ first → new ≡ last → HasWorked hall n domains p old new → HasWorked hall n domains p first last
worked-is hall n domains p old new first last is_first is_last w = subst (λ (s : Seated). HasWorked hall n domains p s last) is_first (subst (HasWorked hall n domains p old) is_last w)

-- the last of several is taken in first
pub taken-last : (workers : List Seated) (worker s : Seated) → all_taken_in (workers ++ worker ∷ []) s ≡ all_taken_in workers (taken_in worker s)
taken-last [] worker s = refl
taken-last (x ∷ workers) worker s = ap (taken_in x) (taken-last workers worker s)

module _ (hall : LockTable) (domains : ℕ) (old new : List Seated) (len : length new ≡ length old) (each : AllWorked hall domains old new) where
  pub shares-worked : shares_of new ≡ shares_of old
  shares-worked = shares-stay old new len (λ p d low. (each p d low).works.stays)

  pub one-each-worked : OneEach hall old → OneEach hall new
  one-each-worked o = record {
    of = λ p d low. (let there : p < length old = omega (arith, low, len) in of-stays hall (get_or old p d) (get_or new p d) (o.of p d there) (each p d there).works.stays);
    count = len ∙ o.count;
    some = (let some = o.some in omega (arith, some, len));
    few = (let few = o.few in omega (arith, few, len));
  }
