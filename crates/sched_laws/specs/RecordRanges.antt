-- The ranges of the numbers in a scheduler's records. Moments and spans are in nanoseconds.
use Rattle.std.specs.Prelude.{◌≤◌, ◌<◌, ◌+◌, ◌*◌, ℕ, length, sum_by, pos, neg_ℤ, ◌≤ℤ◌}
use Rattle.std.specs.List.{All}
use Rattle.std.specs.Option.{IfSome}
use Rattle.sched_model.specs.declared.config.Frame.{Frame}
use Rattle.sched_model.specs.declared.config.FrameEntry.{FrameEntry}
use Rattle.sched_model.specs.declared.state.Credit2Unit.{Credit2Unit}
use Rattle.sched_model.specs.declared.state.Credit2Domain.{Credit2Domain}
use Rattle.sched_model.specs.declared.state.RtdsUnit.{RtdsUnit}
use Rattle.sched_model.specs.CheckedMachine.{IsWithin, most_span}

-- an RTDS unit at t
pub record RtdsInRange (t : ℕ) (x : RtdsUnit) : Type 0 where
  pub period : IsWithin 10000 1000000000000 x.period
  pub budget : IsWithin 10000 1000000000000 x.budget
  pub next_period : IsWithin 10000 1000000000000 x.next_period
  pub next_budget : IsWithin 10000 1000000000000 x.next_budget
  pub left : x.left ≤ x.budget
  pub level : x.level * 10000 ≤ t
  pub deadline : x.deadline ≤ t + 1000000000000
  pub burned : IfSome x.burned (λ (b : ℕ). b ≤ t)

-- a Credit2 unit at t: its credit is at most what no reset lifts it above, and falls by 65,536 a nanosecond at most; what it holds of a
-- budget is at most the budget of the greatest cap, and falls by one a nanosecond at most
pub record Credit2UnitInRange (t : ℕ) (x : Credit2Unit) : Type 0 where
  pub residual : x.residual < 65536
  pub burned : IfSome x.burned (λ (b : ℕ). b ≤ t)
  pub most : x.credit ≤ℤ pos 10500000
  pub least : neg_ℤ (pos (65536 * t)) ≤ℤ x.credit
  pub held_most : x.held ≤ℤ pos 640000000
  pub held_least : neg_ℤ (pos t) ≤ℤ x.held

-- a domain of Credit2 at t, with its units: the budget that is left of its cap
pub record Credit2InRange (t : ℕ) (d : Credit2Domain) : Type 0 where
  pub weight : IsWithin 1 65535 d.weight
  pub cap : d.cap ≤ 6400
  pub refill : IfSome d.refill (λ (r : ℕ). r ≤ t + 10000000)
  pub count : length d.units ≤ 32
  pub units : All (Credit2UnitInRange t) d.units
  pub budget_most : d.budget ≤ℤ pos (32 * t + 640000000)
  pub budget_least : neg_ℤ (pos (32 * t + 20480000000)) ≤ℤ d.budget

-- a frame: its runs fit its major span, which is 1 nanosecond at least, and at most a longest span
pub record IsFrame (frame : Frame) : Type 0 where
  pub some_span : 0 < frame.major.0
  pub fits : sum_by (λ (e : FrameEntry). e.run.0) frame.entries ≤ frame.major.0
  pub bounded : frame.major.0 ≤ most_span

-- a moment that is not before the latest one given, nor past a longest span
pub record IsFrom (latest t : ℕ) : Type 0 where
  pub after : latest ≤ t
  pub early : t ≤ most_span

-- a weight and a cap, where they are given
abbrev pub IsWeight : ℕ → Type 0
IsWeight weight = IsWithin 1 65535 weight

abbrev pub IsCap : ℕ → Type 0
IsCap cap = cap ≤ 6400
