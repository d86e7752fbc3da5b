-- What callers see of an RTDS scheduler, with or without its memory.
use Rattle.std.specs.Prelude.{ℕ, ◌≤◌, Option, Some, None}
use Rattle.sched_model.specs.CheckedMachine.{most_span}
use Rattle.sched_ops.specs.Seen.{Seen}
use Rattle.rtds_core.specs.RtdsParts.{bare_pool}

-- what is kept, or what there is at first
abbrev pub seen_by : Option Seen → ℕ → Seen
seen_by None early = bare_pool early
seen_by (Some seen) early = seen

-- the greatest moment that was given without memory is not past a longest span
pub record IsEarly (t : ℕ) : Type 0 where
  pub early : t ≤ most_span
