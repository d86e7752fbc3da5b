-- One more item, and as many items as numbers.
use Rattle.std.proofs.Common.{◌≡◌, ◌∙◌, ◌+◌, ℕ, List, [], ◌∷◌, ◌++◌, length, ap}
use Rattle.std.specs.Prelude.{Option, None, map, replicate}
use Rattle.std.proofs.lemmas.List.{append_assoc}
use Rattle.sched_laws.proofs.Opened.{length_map_numbers}
use Rattle.sched_model.proofs.Replicate.{replicate_one_more}
use Rattle.sched_model.specs.Places.{numbers_from}

-- one more empty place behind others
pub padded_one_more : {X : Type 0} (xs : List (Option X)) (n : ℕ) → xs ++ replicate n None ++ None ∷ [] ≡ xs ++ replicate (n + 1) None
padded_one_more {X} xs n =
    let none : Option X = None in
    append_assoc xs (replicate n none) (none ∷ []) ∙ ap (λ ys. xs ++ ys) (replicate_one_more n none)

-- an item between two lists
pub pushed_before : {X : Type 0} (xs ys : List X) (x : X) → xs ++ x ∷ [] ++ ys ≡ xs ++ (x ∷ ys)
pushed_before xs ys x = append_assoc xs (x ∷ []) ys

-- as many items as numbers
pub length_of_numbers : {X : Type 0} (f : ℕ → X) (n : ℕ) → length (map f (numbers_from 0 n)) ≡ n
length_of_numbers f n = length_map_numbers f 0 n
