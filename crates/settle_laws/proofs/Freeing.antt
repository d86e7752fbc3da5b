-- A decision frees nothing where the records before it tell so.
use Rattle.std.proofs.Common.{◌≡◌, Bool, true, false, not, refl}
use Rattle.std.specs.Prelude.{Option, Some, None, ◌&&◌}
use Rattle.sched_base.specs.declared.UnitId.{UnitId}
use Rattle.sched_model.specs.declared.ask.Ask.{Ask}
use Rattle.sched_model.specs.declared.state.Credit2Records.{Credit2Records}
use Rattle.sched_model.specs.declared.state.Records.{Records}
use Rattle.sched_model.specs.declared.state.Records.TheVariants.{Credit2Pool, RtdsPool, ArincPool, NullPool}
use Rattle.sched_model.specs.declared.state.Scheduler.{Scheduler}
use Rattle.sched_model.specs.Credit2.{has_domain_budget}
use Rattle.sched_model.specs.EligibleUnits.{is_core_given}
use Rattle.sched_model.specs.Policy.{decision_of}
use Rattle.settle_laws.specs.Frees.{frees, frees_by, lets_run, may_free}

pub frees_nothing : (ask : Ask) (s : Scheduler) → may_free ask.cur ask.leaving s.records ≡ false → frees ask s ≡ false
frees_nothing ask s none = by_records s.records none
  where
    by_first : (b x : Bool) → b ≡ false → (b && x) ≡ false
    by_first true x is = absurd (cc)
    by_first false x is = refl

    by_cur : (records : Credit2Records) (o : Option UnitId) → elim o as (λ _. Bool) [ None ↦ false | Some u ↦ not (has_domain_budget records u) ] ≡ false
        → elim o as (λ _. Bool) [ None ↦ false | Some u ↦ not (has_domain_budget records u) && lets_run (decision_of ask s).records u ] ≡ false
    by_cur records None is = refl
    by_cur records (Some u) is = by_first (not (has_domain_budget records u)) (lets_run (decision_of ask s).records u) is

    by_records : (records : Records) → may_free ask.cur ask.leaving records ≡ false → frees_by records ask s ≡ false
    by_records (Credit2Pool records) is = by_cur records ask.cur is
    by_records (RtdsPool domains) is = refl
    by_records (ArincPool records) is = absurd (cc)
    by_records (NullPool kept) is = by_first ask.leaving (is_core_given s kept ask.home.0 ask.core.0) is
