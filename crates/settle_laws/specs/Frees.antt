-- Decisions after which a core may be wanted that was not wanted before.
use Rattle.std.specs.Prelude.{ℕ, ◌&&◌, Bool, true, false, not, List, Option, Some, None}
use Rattle.sched_base.specs.declared.UnitId.{UnitId}
use Rattle.sched_model.specs.declared.ask.Ask.{Ask}
use Rattle.sched_model.specs.declared.state.Records.{Records}
use Rattle.sched_model.specs.declared.state.Records.TheVariants.{Credit2Pool, RtdsPool, ArincPool, NullPool}
use Rattle.sched_model.specs.declared.state.Resource.{Resource}
use Rattle.sched_model.specs.declared.state.Scheduler.{Scheduler}
use Rattle.sched_model.specs.Credit2.{has_domain_budget}
use Rattle.sched_model.specs.EligibleUnits.{is_unit_allowed, is_core_given}
use Rattle.sched_model.specs.Places.{at_place}
use Rattle.sched_model.specs.Policy.{decision_of}

-- whether the cap lets the unit's domain run; no scheduler but Credit2 has caps
abbrev pub lets_run : Records → UnitId → Bool
lets_run (Credit2Pool records) u = has_domain_budget records u
lets_run (RtdsPool domains) u = false
lets_run (ArincPool records) u = false
lets_run (NullPool kept) u = false

-- Credit2: the domain of the core's own unit could not run and can now. RTDS has none. ARINC 653: a unit goes on in its window on a core
-- that it may not have, which no pool of one core has. The null scheduler: a core that is leaving was given to a unit, which may have
-- another core then
abbrev pub frees_by : Records → Ask → Scheduler → Bool
frees_by (Credit2Pool records) ask scheduler =
    elim ask.cur [ None ↦ false | Some u ↦ not (has_domain_budget records u) && lets_run (decision_of ask scheduler).records u ]
frees_by (RtdsPool domains) ask scheduler = false
frees_by (ArincPool records) ask scheduler = elim (decision_of ask scheduler).unit [ None ↦ false | Some u ↦ not (is_unit_allowed scheduler ask.home.0 ask.core.0 u) ]
frees_by (NullPool kept) ask scheduler = ask.leaving && is_core_given scheduler kept ask.home.0 ask.core.0

abbrev pub frees : Ask → Scheduler → Bool
frees ask scheduler = frees_by scheduler.records ask scheduler

-- whether a decision of a core may free something, as far as the records tell before it: of a core with this unit, that is leaving or not.
-- An ARINC 653 pool is looked at after each decision
abbrev pub may_free : Option UnitId → Bool → Records → Bool
may_free cur leaving (Credit2Pool records) = elim cur [ None ↦ false | Some u ↦ not (has_domain_budget records u) ]
may_free cur leaving (RtdsPool domains) = false
may_free cur leaving (ArincPool records) = true
may_free cur leaving (NullPool kept) = leaving

-- whether the decision of the core at the place r, if there is one, frees nothing
abbrev pub is_decision_spared : List (Option Resource) → ℕ → Records → Bool
is_decision_spared cores r records = elim (at_place cores r) [ None ↦ true | Some c ↦ not (may_free c.cur c.leaving records) ]
