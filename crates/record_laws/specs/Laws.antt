-- What the law says of the records after a decision.
use Rattle.std.specs.Prelude.{◌≡◌, List, Option, option_map}
use Rattle.sched_base.specs.declared.UnitId.{UnitId}
use Rattle.sched_model.specs.declared.ask.Ask.{Ask}
use Rattle.sched_model.specs.declared.state.Credit2Records.{Credit2Records}
use Rattle.sched_model.specs.declared.state.Records.{Records}
use Rattle.sched_model.specs.declared.state.Records.TheVariants.{Credit2Pool, RtdsPool}
use Rattle.sched_model.specs.declared.state.RtdsUnit.{RtdsUnit}
use Rattle.sched_model.specs.Credit2.{most_weight}
use Rattle.sched_model.specs.EligibleUnits.{rtds_unit_at}
use Rattle.sched_model.specs.Places.{change_each, is_unit}
use Rattle.record_laws.specs.Decisions.{after_decision, decided_domain}

-- each domain was changed as the decision for the choice changes it; the rate limit and the greatest weight stay
pub record AreDecided (ask : Ask) (own : Credit2Records) (chosen : Option UnitId) (after : Records) : Type 0 where
  pub next : Credit2Records
  pub is : after ≡ Credit2Pool next
  pub domains : next.domains ≡ change_each 0 (decided_domain ask own chosen) own.domains
  pub limit : next.limit ≡ own.limit
  pub most : most_weight next ≡ most_weight own

-- so was each unit
pub record AreUnitsDecided (ask : Ask) (domains : List (Option (List RtdsUnit))) (chosen : Option UnitId) (after : Records) : Type 0 where
  pub next : List (Option (List RtdsUnit))
  pub is : after ≡ RtdsPool next
  pub units : (u : UnitId) → rtds_unit_at next u ≡ option_map (after_decision ask.at.0 (is_unit ask.cur u) (is_unit chosen u)) (rtds_unit_at domains u)
