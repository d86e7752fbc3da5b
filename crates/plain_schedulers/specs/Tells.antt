-- What an answer tells of a decision.
use Rattle.std.specs.Prelude.{◌≡◌}
use Rattle.sched_model.specs.EligibleUnits.{Decision}
use Rattle.plain_schedulers.specs.declared.decided.Decided.{Decided}

-- the answer is the decision's unit, due and number of resets
pub record Tells (answer : Decided) (decision : Decision) : Type 0 where
  pub unit : answer.unit ≡ decision.unit
  pub due : answer.due ≡ decision.due
  pub reset : answer.reset ≡ decision.reset
