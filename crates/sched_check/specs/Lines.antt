-- The parts of a text at its newlines.
use Rattle.std.specs.Prelude.{◌≡◌, ◌≢◌, ℕ, List, ◌∷◌, ◌++◌}
use Rattle.std.specs.List.{All}
use Rattle.sched_print.specs.Line.{newline}

-- no newline stands in the bytes
abbrev pub HasNone : List ℕ → Type 0
HasNone bytes = All (λ b. b ≢ newline) bytes

-- the bytes are a line, its newline, and more bytes
pub record IsParted (bytes line more : List ℕ) : Type 0 where
  pub parts : bytes ≡ line ++ newline ∷ more
  pub inner : HasNone line
