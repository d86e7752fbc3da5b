-- How a text falls into parts and words.
use Rattle.std.specs.Prelude.{ℕ, ◌==◌, Bool, List, length, filter, not}
use Rattle.std.specs.List.{slice_split}

-- the parts round each byte that separates them: one part more than there are separators
abbrev pub parts : ℕ → List ℕ → List (List ℕ)
parts separator bytes = slice_split (λ b. b == separator) bytes

-- there is a byte
abbrev pub has_bytes : List ℕ → Bool
has_bytes bytes = not (length bytes == 0)

-- the words: the longest runs without a space
abbrev pub words : List ℕ → List (List ℕ)
words bytes = filter has_bytes (parts 32 bytes)
