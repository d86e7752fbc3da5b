-- Which of the waiting units a core looks at.
use Rattle.std.specs.Prelude.{◌≡◌, ◌&&◌, Bool, true, not, List, Option, Some, None, int_lt, ℤ, ⊤}
use Rattle.sched_base.specs.declared.UnitId.{UnitId}
use Rattle.sched_base.specs.declared.Cores.{Cores}
use Rattle.sched_model.specs.declared.state.Credit2Records.{Credit2Records}
use Rattle.sched_model.specs.declared.ask.Ask.{Ask}
use Rattle.sched_model.specs.Places.{is_unit}
use Rattle.sched_model.specs.EligibleUnits.{is_allowed_by}
use Rattle.sched_model.specs.Credit2.{has_domain_budget, unit_credit}

-- whether the asking core may take the waiting unit, which is not the one to be passed over
abbrev pub is_contender : List (Option (List Cores)) → Ask → Credit2Records → Option UnitId → UnitId → Bool
is_contender affinity ask records over u = not (is_unit over u) && (is_allowed_by affinity ask.home.0 ask.core.0 u && has_domain_budget records u)

-- whether a credit is more than that of the best so far, which is any where there is none
abbrev pub is_more_than : Option UnitId → ℤ → ℤ → Bool
is_more_than None most credit = true
is_more_than (Some b) most credit = int_lt most credit

-- the best so far, where there is one, has this credit
abbrev pub HasCredit : Credit2Records → Option UnitId → ℤ → Type 0
HasCredit records None most = ⊤
HasCredit records (Some b) most = most ≡ unit_credit records b
