-- A list read item by item: what is read so far, and what is left.
use Rattle.std.proofs.Common.{◌≡◌, ℕ, ◌+◌, ◌<◌, ◌≤◌, List, [], ◌∷◌, ◌++◌, Option, option_map, length, ◌∙◌}
use Rattle.xl_words.specs.Parts.{parts}
use Rattle.xl_words.specs.Values.{each_of}

-- the items of the word are those that are done, and what is left
pub record IsReadSoFar {X : Type 0} (read : List ℕ → Option X) (word : List ℕ) (done : List X) (rest : List ℕ) : Type 0 where
  pub count : length (parts 44 word) ≡ length done + length (parts 44 rest)
  pub items : each_of read (parts 44 word) ≡ option_map (λ xs. done ++ xs) (each_of read (parts 44 rest))
