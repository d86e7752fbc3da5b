-- One more number, and one more item that a function makes of it.
use Rattle.std.proofs.Common.{◌≡◌, ◌∙◌, ◌+◌, ℕ, zero, suc, [], ◌∷◌, ◌++◌, ap, arith}
use Rattle.std.specs.Prelude.{map}
use Rattle.sched_model.specs.Places.{numbers_from}

-- the numbers from one on, and the next
numbers_from_more : {X : Type 0} (f : ℕ → X) (from n k : ℕ) → k ≡ from + n → map f (numbers_from from n) ++ f k ∷ [] ≡ map f (numbers_from from (suc n))
numbers_from_more f from zero k is = let same : k ≡ from = omega arith in ap (λ j. f j ∷ []) same
numbers_from_more f from (suc n) k is = ap (λ xs. f from ∷ xs) (numbers_from_more f (suc from) n k (omega arith))

-- the first n numbers, and the next
pub numbers_one_more : {X : Type 0} (f : ℕ → X) (n : ℕ) → map f (numbers_from 0 n) ++ f n ∷ [] ≡ map f (numbers_from 0 (n + 1))
numbers_one_more f n =
    let one_more : suc n ≡ n + 1 = omega arith in
    numbers_from_more f 0 n n (omega arith) ∙ ap (λ k. map f (numbers_from 0 k)) one_more
