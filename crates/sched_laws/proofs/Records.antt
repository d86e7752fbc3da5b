-- What changes of a scheduler's records and its decisions leave, as seen by a function that looks at none of what Credit2 and RTDS keep.
use Rattle.std.proofs.Common.{◌≡◌, ℕ, List, refl, cond, ◌∙◌, ap}
use Rattle.std.specs.Prelude.{Option, Some, None}
use Rattle.sched_base.specs.declared.UnitId.{UnitId}
use Rattle.sched_model.specs.declared.config.ParamChange.{ParamChange}
use Rattle.sched_model.specs.declared.config.ParamChange.TheVariants as changes
use Rattle.sched_model.specs.declared.config.DomParams.{DomParams}
use Rattle.sched_model.specs.declared.config.DomParams.TheVariants as dom_params
use Rattle.sched_model.specs.declared.state.RtdsUnit.{RtdsUnit}
use Rattle.sched_model.specs.declared.state.Credit2Records.{Credit2Records}
use Rattle.sched_model.specs.declared.state.Records.{Records}
use Rattle.sched_model.specs.declared.state.Records.TheVariants.{Credit2Pool, RtdsPool, ArincPool, NullPool}
use Rattle.sched_model.specs.declared.ask.Ask.{Ask}
use Rattle.sched_model.specs.declared.state.Scheduler.{Scheduler}
use Rattle.sched_model.specs.Arinc.{Window, current_window}
use Rattle.sched_model.specs.Credit2 as credit2
use Rattle.sched_model.specs.EligibleUnits.{Decision}
use Rattle.sched_model.specs.NullScheduler as null
use Rattle.sched_model.specs.Policy as policy
use Rattle.sched_model.specs.Policy.{changed_records, arinc_decision, decision_by, joined_records, standard_pool_params, empty_records, records_kind}
use Rattle.sched_model.specs.Rtds as rtds
use Rattle.sched_laws.proofs.EachPlace.{by_cond}
use Rattle.sched_model.specs.declared.config.SchedKind.{SchedKind}
use Rattle.sched_model.specs.declared.config.SchedKind.TheVariants as kinds

-- what a scheduler's decision makes of its records: they are its own kind's, and those of ARINC 653 are the same
abbrev pub Decided : Records → Records → Type 0
Decided (Credit2Pool records) next = (x : Credit2Records) × (next ≡ Credit2Pool x)
Decided (RtdsPool domains) next = (x : List (Option (List RtdsUnit))) × (next ≡ RtdsPool x)
Decided (ArincPool records) next = next ≡ ArincPool records
Decided (NullPool kept) next = (x : List (Option UnitId)) × (next ≡ NullPool x)

pub decided_is : (records : Records) (ask : Ask) (scheduler : Scheduler) → scheduler.records ≡ records → Decided records (decision_by records ask scheduler).records
decided_is (Credit2Pool records) ask scheduler is = by_chosen (credit2.credit2_choice ask scheduler (credit2.own_burned_records ask.cur ask.at.0 records))
  where
    by_chosen : (chosen : Option UnitId) → Decided (Credit2Pool records) (credit2.credit2_decision_for ask scheduler (credit2.own_burned_records ask.cur ask.at.0 records) chosen).records
    by_chosen None = (_, refl)
    by_chosen (Some u) = (_, refl)
decided_is (RtdsPool domains) ask scheduler is = by_chosen (rtds.rtds_choice ask scheduler (rtds.own_burned_domains ask.cur ask.at.0 domains))
  where
    by_chosen : (chosen : Option UnitId) → Decided (RtdsPool domains) (rtds.rtds_decision_for ask (rtds.own_burned_domains ask.cur ask.at.0 domains) chosen).records
    by_chosen None = (_, refl)
    by_chosen (Some u) = (_, refl)
decided_is (ArincPool records) ask scheduler is = by_window (cond ask.leaving None (current_window records ask.at.0))
  where
    by_window : (window : Option Window) → (arinc_decision ask scheduler window).records ≡ ArincPool records
    by_window None = is
    by_window (Some window) = is
decided_is (NullPool kept) ask scheduler is =
    by_cond (λ (d : Decision). Decided (NullPool kept) d.records) ask.leaving _ _ (λ leaves. (_, refl)) (λ stays. by_chosen (null.null_choice ask scheduler kept))
  where
    by_chosen : (chosen : Option UnitId) → Decided (NullPool kept) (null.null_decision_for ask.core.0 kept chosen).records
    by_chosen None = (_, refl)
    by_chosen (Some u) = (_, refl)

-- the change sets no frame
abbrev pub IsNoFrame : ParamChange → Type 0
IsNoFrame (changes.Frame frame) = ⊥
IsNoFrame _ = Unit {0}

module _ {X : Type 0} (f : Records → X) (of_credit2 : (a b : Credit2Records) → f (Credit2Pool a) ≡ f (Credit2Pool b)) (of_rtds : (a b : List (Option (List RtdsUnit))) → f (RtdsPool a) ≡ f (RtdsPool b)) where
  pub same_replenish : (records : Records) (t : ℕ) (u : UnitId) → f (policy.records_after_replenish records t u) ≡ f records
  same_replenish (RtdsPool domains) t u = of_rtds _ domains
  same_replenish any t u = refl

  pub same_decision : ((a b : List (Option UnitId)) → f (NullPool a) ≡ f (NullPool b)) → (records : Records) (ask : Ask) (scheduler : Scheduler) → scheduler.records ≡ records → f (decision_by records ask scheduler).records ≡ f records
  same_decision of_null records ask scheduler is = by_kind records (decision_by records ask scheduler).records (decided_is records ask scheduler is)
    where
      by_kind : (records next : Records) → Decided records next → f next ≡ f records
      by_kind (Credit2Pool records) next decided = ap f decided.1 ∙ of_credit2 decided.0 records
      by_kind (RtdsPool domains) next decided = ap f decided.1 ∙ of_rtds decided.0 domains
      by_kind (ArincPool records) next decided = ap f decided
      by_kind (NullPool kept) next decided = ap f decided.1 ∙ of_null decided.0 kept

  pub same_refill : (records : Records) (t d : ℕ) → f (policy.records_after_refill records t d) ≡ f records
  same_refill (Credit2Pool records) t d = of_credit2 _ records
  same_refill records t d = refl

  pub same_joined : (records : Records) (params : DomParams) (d count t : ℕ) → f (joined_records records params d count t) ≡ f records
  same_joined (Credit2Pool records) (dom_params.Credit2 weight percent) d count t = of_credit2 _ records
  same_joined (RtdsPool domains) (dom_params.Rtds period budget extra) d count t = of_rtds _ domains
  same_joined records params d count t = refl

  pub same_changed : (records : Records) (change : ParamChange) (t : ℕ) → IsNoFrame change → f (changed_records records change t) ≡ f records
  same_changed (Credit2Pool records) (changes.Dom d weight percent) t none = of_credit2 _ records
  same_changed (Credit2Pool records) (changes.Rate limit) t none = of_credit2 _ records
  same_changed (RtdsPool domains) (changes.«Unit» u period budget extra) t none = of_rtds _ domains
  same_changed records (changes.Frame frame) t none = absurd none
  same_changed records change t none = refl

-- fresh records are of the scheduler whose parameters they get
pub kind_default : (kind : SchedKind) (domains cores : ℕ) → records_kind (empty_records (standard_pool_params kind) domains cores) ≡ kind
kind_default kinds.Credit2 domains cores = refl
kind_default a domains cores = refl
