-- What is promised of the parameters that a command sets.
use Rattle.std.proofs.Common.{◌≤◌, ℕ}
use Rattle.std.specs.Prelude.{Option}
use Rattle.std.specs.Option.{IfSome}
use Rattle.sched_base.specs.declared.Span.{Span}
use Rattle.sched_model.specs.declared.config.ParamChange.{ParamChange}
use Rattle.sched_model.specs.declared.config.ParamChange.TheVariants as changes
use Rattle.sched_model.specs.CheckedMachine.{IsWithin, most_span}
use Rattle.sched_laws.proofs.Window.{FitsMajor}

-- the period and the budget of RTDS units, where they are given
abbrev pub RtdsFits : Option Span → Option Span → Type 0
RtdsFits period budget = IfSome period (λ (p : Span). IsWithin 10000 1000000000000 p.0) × IfSome budget (λ (b : Span). IsWithin 10000 1000000000000 b.0)

-- a change of the other parameters
abbrev pub ChangeFits : ParamChange → Type 0
ChangeFits (changes.Dom d weight percent) = IfSome weight (IsWithin 1 65535) × IfSome percent (λ (c : ℕ). c ≤ 6400)
ChangeFits (changes.Rate limit) = limit ≤ 500000
ChangeFits (changes.«Unit» u period budget extra) = ⊥
ChangeFits (changes.Frame frame) = FitsMajor frame × IsWithin 1 most_span frame.major.0
ChangeFits (changes.Pin d unit cores) = Unit {0}
