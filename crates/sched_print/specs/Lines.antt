-- A line in whose place the next one is written.
use Rattle.std.specs.Prelude.{ℕ, ◌≡◌, ◌≤◌, List, length, take, decimal}

-- the line begins with the digits of a moment, so many of them
pub record BeginsWith (line : List ℕ) (at front : ℕ) : Type 0 where
  pub digits : take front line ≡ decimal at
  pub inside : front ≤ length line
  pub few : front ≤ 20
