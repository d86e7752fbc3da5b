-- How many units the records of a scheduler have of each domain, and what leaves these numbers.
use Rattle.sched_laws.proofs.Records.{decided_is}
use Rattle.std.proofs.Common.{◌≡◌, ℕ, List, refl, ap, ◌∙◌, length}
use Rattle.std.specs.Prelude.{Option, Some, None}
use Rattle.std.proofs.lemmas.List.{length-map}
use Rattle.sched_base.specs.declared.UnitId.{UnitId}
use Rattle.sched_model.specs.declared.ask.Ask.{Ask}
use Rattle.sched_model.specs.declared.config.ParamChange.{ParamChange}
use Rattle.sched_model.specs.declared.config.ParamChange.TheVariants as changes
use Rattle.sched_model.specs.declared.state.RtdsUnit.{RtdsUnit}
use Rattle.sched_model.specs.declared.state.Credit2Unit.{Credit2Unit}
use Rattle.sched_model.specs.declared.state.Credit2Domain.{Credit2Domain}
use Rattle.sched_model.specs.declared.state.Credit2Records.{Credit2Records}
use Rattle.sched_model.specs.declared.state.Records.{Records}
use Rattle.sched_model.specs.declared.state.Records.TheVariants.{Credit2Pool, RtdsPool, ArincPool, NullPool}
use Rattle.sched_model.specs.declared.state.Scheduler.{Scheduler}
use Rattle.sched_model.specs.Places.{change_item}
use Rattle.sched_model.specs.Policy as policy
use Rattle.sched_model.specs.Policy.{decision_by, changed_records}
use Rattle.sched_model.specs.Credit2 as credit2
use Rattle.sched_model.specs.Rtds as rtds
use Rattle.sched_laws.proofs.Lists.{length_change_item}
use Rattle.record_laws.specs.Decisions.{decided_domain}
use Rattle.record_laws.proofs.Credit2Seen.{records_decided, decided_domains}
use Rattle.record_laws.proofs.Charges.{leaves}
use Rattle.state_ranges.proofs.Measured.{measured_change_at, measured_change_each}
use Rattle.state_ranges.specs.Counts.{units_in, credit2_counts, rtds_counts, shape}

abbrev some_counts : List (Option ℕ) → Option (List (Option ℕ))
some_counts counts = Some counts

-- Credit2
c_domain : (d : ℕ) (f : Credit2Domain → Credit2Domain) (records : Credit2Records) → ((x : Credit2Domain) → units_in (f x) ≡ units_in x) → credit2_counts (credit2.change_domain d f records) ≡ credit2_counts records
c_domain d f records same = measured_change_at units_in d f records.domains same

c_unit : (u : UnitId) (f : Credit2Domain → Credit2Unit → Credit2Unit) (records : Credit2Records) → credit2_counts (credit2.change_unit u f records) ≡ credit2_counts records
c_unit u f records = c_domain u.dom.0 (λ d. record d { units = change_item u.n (f d) d.units }) records (λ d. length_change_item u.n (f d) d.units)

c_decide : (ask : Ask) (scheduler : Scheduler) (records : Credit2Records) (chosen : Option UnitId) → shape (credit2.credit2_decision_for ask scheduler (credit2.own_burned_records ask.cur ask.at.0 records) chosen).records ≡ Some (credit2_counts records)
c_decide ask scheduler records chosen =
    ap shape (records_decided ask records scheduler chosen)
    ∙ ap (λ (places : List (Option Credit2Domain)). Some (credit2_counts (record records { domains = places }))) (decided_domains ask records chosen)
    ∙ ap some_counts (measured_change_each units_in 0 (decided_domain ask records chosen) records.domains (λ d x. (leaves ask records chosen d x).count))

c_refilled : (t d : ℕ) (records : Credit2Records) → credit2_counts (credit2.refilled_pool t d records) ≡ credit2_counts records
c_refilled t d records = c_domain d (credit2.domain_after_refill (credit2.most_weight records) t) records (λ x. length-map x.units (credit2.burned_unit (credit2.most_weight records) t x))

weight_set : (weight : Option ℕ) (x : Credit2Domain) → units_in (credit2.domain_with_weight weight x) ≡ units_in x
weight_set None x = refl
weight_set (Some weight) x = length-map x.units _

cap_set : (most t : ℕ) (percent : Option ℕ) (x : Credit2Domain) → units_in (credit2.domain_with_cap most t percent x) ≡ units_in x
cap_set most t None x = refl
cap_set most t (Some percent) x = length-map (credit2.burned_domain most t x).units _ ∙ length-map x.units (credit2.burned_unit most t x)

c_set_domain : (t d : ℕ) (weight percent : Option ℕ) (records : Credit2Records) → credit2_counts (credit2.records_with_terms t d weight percent records) ≡ credit2_counts records
c_set_domain t d weight percent records =
    let weighted : Credit2Records = credit2.change_domain d (credit2.domain_with_weight weight) records in
    c_domain d (credit2.domain_with_cap (credit2.most_weight weighted) t percent) weighted (cap_set (credit2.most_weight weighted) t percent) ∙ c_domain d (credit2.domain_with_weight weight) records (weight_set weight)

-- RTDS
r_unit : (u : UnitId) (f : RtdsUnit → RtdsUnit) (domains : List (Option (List RtdsUnit))) → rtds_counts (rtds.change_unit u f domains) ≡ rtds_counts domains
r_unit u f domains = measured_change_at length u.dom.0 (change_item u.n f) domains (λ units. length_change_item u.n f units)

r_burn_cur : (cur : Option UnitId) (t : ℕ) (domains : List (Option (List RtdsUnit))) → rtds_counts (rtds.own_burned_domains cur t domains) ≡ rtds_counts domains
r_burn_cur None t domains = refl
r_burn_cur (Some u) t domains = r_unit u (rtds.unit_burned_to t) domains

r_switch_off : (cur : Option UnitId) (domains : List (Option (List RtdsUnit))) → rtds_counts (rtds.off_domains cur domains) ≡ rtds_counts domains
r_switch_off None domains = refl
r_switch_off (Some u) domains = r_unit u (λ x. record x { burned = None }) domains

r_decide : (ask : Ask) (domains : List (Option (List RtdsUnit))) (chosen : Option UnitId) → shape (rtds.rtds_decision_for ask domains chosen).records ≡ Some (rtds_counts domains)
r_decide ask domains None = ap some_counts (r_switch_off ask.cur domains)
r_decide ask domains (Some u) = ap some_counts (r_unit u (λ x. record x { burned = Some ask.at.0 }) (rtds.off_domains ask.cur domains) ∙ r_switch_off ask.cur domains)

-- a decision
pub shape_decision : (records : Records) (ask : Ask) (scheduler : Scheduler) → scheduler.records ≡ records → shape (decision_by records ask scheduler).records ≡ shape records
shape_decision (Credit2Pool records) ask scheduler is =
    let burned : Credit2Records = credit2.own_burned_records ask.cur ask.at.0 records in
    c_decide ask scheduler records (credit2.credit2_choice ask scheduler burned)
shape_decision (RtdsPool domains) ask scheduler is =
    let burned : List (Option (List RtdsUnit)) = rtds.own_burned_domains ask.cur ask.at.0 domains in
    r_decide ask burned (rtds.rtds_choice ask scheduler burned) ∙ ap some_counts (r_burn_cur ask.cur ask.at.0 domains)
shape_decision (ArincPool records) ask scheduler is = ap shape (decided_is (ArincPool records) ask scheduler is)
shape_decision (NullPool kept) ask scheduler is = ap shape (decided_is (NullPool kept) ask scheduler is).1

pub shape_replenished : (records : Records) (t : ℕ) (u : UnitId) → shape (policy.records_after_replenish records t u) ≡ shape records
shape_replenished (RtdsPool domains) t u = ap some_counts (r_unit u (rtds.unit_after_replenish t) domains)
shape_replenished any t u = refl

pub shape_refilled : (records : Records) (t d : ℕ) → shape (policy.records_after_refill records t d) ≡ shape records
shape_refilled (Credit2Pool records) t d = ap some_counts (c_refilled t d records)
shape_refilled records t d = refl

-- a change of parameters
pub shape_changed : (records : Records) (change : ParamChange) (t : ℕ) → shape (changed_records records change t) ≡ shape records
shape_changed (Credit2Pool records) (changes.Dom d weight percent) t = ap some_counts (c_set_domain t d.0 weight percent records)
shape_changed (RtdsPool domains) (changes.«Unit» u period budget extra) t = ap some_counts (r_unit u (λ x. record x { next_period = period.0; next_budget = budget.0; next_extra = extra }) domains)
shape_changed (ArincPool records) (changes.Frame frame) t = refl
shape_changed (NullPool kept) (changes.Frame frame) t = refl
shape_changed records change t = refl
