-- Counts of faults, and what it is that one rose.
use Rattle.std.specs.Prelude.{ℕ, ◌≢◌, ◌+◌, ◌-◌, ◌^◌, ◌<◌, ◌≤◌, min}

-- the count after one more; a count that is kept in 64 bits stands still at its end
abbrev pub one_more : ℕ → ℕ
one_more count = min (count + 1) (2 ^ 64 - 1)

-- the count rose; one that stands at the end of 64 bits counts as risen
pub record Rose (old new : ℕ) : Type 0 where
  pub kept : old ≤ new
  pub higher : old ≢ 2 ^ 64 - 1 → old < new
