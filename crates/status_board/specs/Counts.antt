-- Sums that 64 bits hold.
use Rattle.std.specs.Prelude.{ℕ, ◌-◌, ◌^◌, List, length, min}
use Rattle.sched_model.specs.declared.event.Entry.{Entry}

-- a sum stops at the greatest number of 64 bits
abbrev pub capped_sum : ℕ → ℕ
capped_sum n = min n (2 ^ 64 - 1)

-- how many entries a list has
abbrev pub entry_count : List Entry → ℕ
entry_count entries = capped_sum (length entries)
