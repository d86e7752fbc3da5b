-- RTDS's formulas, on numbers. Spans and moments are in nanoseconds.
use Rattle.std.specs.Prelude.{ℕ, ◌+◌, ◌-◌, ◌*◌, ◌/◌, Bool, nat_lt, if◌then◌else◌}

-- the budget left after a span: one that is used up is full again with extra time, and else stays empty
abbrev pub burned_left : ℕ → ℕ → Bool → ℕ → ℕ
burned_left left budget extra elapsed = (if nat_lt elapsed left then left - elapsed else (if extra then budget else 0))

-- the level after a span: with extra time it rises by one where the budget was used up
abbrev pub burned_level : ℕ → ℕ → Bool → ℕ → ℕ
burned_level level left extra elapsed = (if nat_lt elapsed left then level else (if extra then level + 1 else level))

-- the first moment after t that is whole periods after the deadline
abbrev pub next_deadline : ℕ → ℕ → ℕ → ℕ
next_deadline deadline period t = deadline + period * ((t - deadline) / period + 1)
