-- What the records of a scheduler keep, and the dues of its decisions.
use Rattle.std.proofs.Common.{◌≡◌, ◌≤◌, ◌+◌, ◌-◌, ◌*◌, ◌%◌, ℕ, Bool, true, List, [], ◌∷◌, refl, arith, subst, sym, ◌∙◌, cond, ◌⊎◌, inl, inr, length}
use Rattle.std.specs.Prelude.{Option, Some, None, unwrap_or, slice_get, min, max, nat_le, ℤ, ◌==◌, option_map}
use Rattle.std.specs.List.{AllByRecursion}
use Rattle.std.specs.Option.{IfSome}
use Rattle.std.proofs.lemmas.List.{length-replicate}
use Rattle.sched_base.specs.Numbers.{moment, span, has_moment_come}
use Rattle.sched_base.specs.Credit2Numbers.{positive_part, slice_length}
use Rattle.sched_base.specs.declared.Moment.{Moment}
use Rattle.sched_base.specs.declared.Span.{Span}
use Rattle.sched_base.specs.declared.UnitId.{UnitId}
use Rattle.sched_model.specs.declared.ask.Ask.{Ask}
use Rattle.sched_model.specs.declared.config.Frame.{Frame}
use Rattle.sched_model.specs.declared.config.Config.{Config}
use Rattle.sched_model.specs.declared.config.SchedKind.{SchedKind}
use Rattle.sched_model.specs.declared.config.SchedKind.TheVariants as kinds
use Rattle.sched_model.specs.declared.config.DomParams.{DomParams}
use Rattle.sched_model.specs.declared.config.DomParams.TheVariants as dom_params
use Rattle.sched_model.specs.declared.config.PoolParams.{PoolParams}
use Rattle.sched_model.specs.declared.config.PoolParams.TheVariants as pool_params
use Rattle.sched_model.specs.declared.config.ParamChange.{ParamChange}
use Rattle.sched_model.specs.declared.config.ParamChange.TheVariants as changes
use Rattle.sched_model.specs.declared.state.RtdsUnit.{RtdsUnit}
use Rattle.sched_model.specs.declared.state.Credit2Domain.{Credit2Domain}
use Rattle.sched_model.specs.declared.state.Credit2Records.{Credit2Records}
use Rattle.sched_model.specs.declared.state.ArincRecords.{ArincRecords}
use Rattle.sched_model.specs.declared.state.Records.{Records}
use Rattle.sched_model.specs.declared.state.Records.TheVariants.{Credit2Pool, RtdsPool, ArincPool, NullPool}
use Rattle.sched_model.specs.declared.state.Scheduler.{Scheduler}
use Rattle.sched_model.specs.Places.{at_place, clear_at, same_unit}
use Rattle.sched_model.specs.Arinc.{Window, frame_window, current_window}
use Rattle.sched_model.specs.EligibleUnits.{Decision, rtds_unit_at}
use Rattle.sched_model.specs.CheckedMachine.{IsWithin, most_span, PoolParamsPass}
use Rattle.sched_model.specs.Policy as policy
use Rattle.sched_model.specs.Policy.{decision_by, arinc_decision, joined_records, parted_records, changed_records, empty_records, standard_dom_params, standard_pool_params, unit_rtds_record}
use Rattle.sched_model.specs.Credit2 as credit2
use Rattle.sched_model.specs.Rtds as rtds
use Rattle.sched_model.specs.NullScheduler as null
use Rattle.sched_laws.proofs.EachPlace.{EachPlace-put_at, EachPlace-clear_at, EachPlace-empty, by_option, by_cond, length_set}
use Rattle.sched_laws.proofs.Window.{FitsMajor, until_last}
use Rattle.sched_laws.proofs.Fits.{ChangeFits}
use Rattle.sched_laws.proofs.NullKept.{length_released}
use Rattle.record_laws.proofs.Credit2Seen.{taken_records, taken_limit}
use Rattle.state_ranges.proofs.Credit2.{c_idle, c_ran, c_refilled, c_fresh, c_set_domain, c_later}
use Rattle.state_ranges.specs.Fits.{Credit2DomainFits, Credit2Fits}
use Rattle.state_ranges.proofs.Rtds as rtds_lemmas
use Rattle.state_ranges.proofs.Rtds.{rtds_chooses, rtds_replenished, rtds_set, rtds_fresh, rtds_later, fit_unit, fit_change_unit}
use Rattle.state_ranges.specs.Fits.{RtdsFits, RtdsFit}

pub record ArincFits (t : ℕ) (records : ArincRecords) : Type 0 where
  pub installed : records.installed ≤ t
  pub fits : (frame : Frame) → records.frame ≡ Some frame → FitsMajor frame
  pub major : (frame : Frame) → records.frame ≡ Some frame → IsWithin 1 most_span frame.major.0

pub record RtdsPoolFits (t count : ℕ) (domains : List (Option (List RtdsUnit))) : Type 0 where
  pub places : length domains ≡ count
  pub units : RtdsFit t domains

abbrev pub RecordsFit : ℕ → ℕ → ℕ → Records → Type 0
RecordsFit domains cores t (Credit2Pool records) = Credit2Fits domains t records
RecordsFit domains cores t (RtdsPool units) = RtdsPoolFits t domains units
RecordsFit domains cores t (ArincPool records) = ArincFits t records
RecordsFit domains cores t (NullPool kept) = length kept ≡ cores

pub record DecisionFits (domains cores t : ℕ) (d : Decision) : Type 0 where
  pub records : RecordsFit domains cores t d.records
  pub due : (a : Moment) → d.due ≡ Some a → a.0 ≤ t + most_span

min_low : (a b c : ℕ) → b ≤ c → min a b ≤ c
min_low a b c low = grind (arith, low)

min_left : (a b c : ℕ) → a ≤ c → min a b ≤ c
min_left a b c low = grind (arith, low)

max_low : (l : ℕ) → l ≤ 500000000 → max 10000000 l ≤ 500000000
max_low l low = grind (arith, low)

slice_low : (credit w : ℤ) (weight most limit : ℕ) → limit ≤ 500000000 → slice_length credit w weight most limit ≤ 500000000
slice_low credit w weight most limit low = min_low _ (max 10000000 limit) 500000000 (max_low limit low)

slice_of_low : (ask : Ask) (scheduler : Scheduler) (records : Credit2Records) (u : UnitId) → records.limit ≤ 500000 → credit2.chosen_slice ask scheduler records u ≤ 500000000
slice_of_low ask scheduler records u low =
    by_option (λ (k : ℕ). k ≤ 500000000) (at_place records.domains u.dom.0) _ _ (λ none. omega arith)
    (λ d is. by_option (λ (k : ℕ). k ≤ 500000000) (slice_get d.units u.n) _ _ (λ none. omega arith)
    (λ x is2.
    let long : ℕ = slice_length x.credit (credit2.best_other_credit ask scheduler records u) d.weight (credit2.most_weight records) (records.limit * 1000) in
    let few : long ≤ 500000000 = slice_low x.credit (credit2.best_other_credit ask scheduler records u) d.weight (credit2.most_weight records) (records.limit * 1000) (omega (arith, low)) in
    by_cond (λ (k : ℕ). k ≤ 500000000) (nat_is_zero d.cap) long (min long (positive_part x.held)) (λ none. few) (λ some. min_left long (positive_part x.held) 500000000 few)))
  where
    nat_is_zero : ℕ → Bool
    nat_is_zero k = k == 0

c2_decides : (n cores : ℕ) (ask : Ask) (scheduler : Scheduler) (records : Credit2Records) (chosen : Option UnitId) → Credit2Fits n ask.at.0 records → DecisionFits n cores ask.at.0 (credit2.credit2_decision_for ask scheduler (credit2.own_burned_records ask.cur ask.at.0 records) chosen)
c2_decides n cores ask scheduler records None fits = record { records = c_idle n ask.at.0 ask.cur records fits; due = λ a is. absurd (cc) }
c2_decides n cores ask scheduler records (Some u) fits =
    let taken : Credit2Records = taken_records ask records u in
    record {
      records = c_ran n ask.at.0 ask.cur records fits (credit2.reset_count ask.at.0 u (credit2.own_burned_records ask.cur ask.at.0 records)) u;
      due = λ a is. (
          let e : ◌≡◌ {A = Moment} (moment (ask.at.0 + credit2.chosen_slice ask scheduler taken u)) a = cc in
          let l = slice_of_low ask scheduler taken u (subst (λ (k : ℕ). k ≤ 500000) (sym (taken_limit ask records u)) fits.limit) in
          subst (λ (b : Moment). b.0 ≤ ask.at.0 + most_span) e (omega (arith, l)));
    }

rtds_decision : (n cores t : ℕ) (d : Decision) (domains : List (Option (List RtdsUnit))) → d.records ≡ RtdsPool domains → rtds_lemmas.GoodDecision t n d → DecisionFits n cores t d
rtds_decision n cores t d domains is good = record {
  records = (let g = good.0 domains is in subst (RecordsFit n cores t) (sym is) (record { places = g.1; units = g.0 }));
  due = good.1;
}

rt_pool : (ask : Ask) (domains : List (Option (List RtdsUnit))) (chosen : Option UnitId) → (ds : List (Option (List RtdsUnit))) × ((rtds.rtds_decision_for ask domains chosen).records ≡ RtdsPool ds)
rt_pool ask domains None = (rtds.off_domains ask.cur domains, refl)
rt_pool ask domains (Some u) = (rtds.running_domains (Some ask.at.0) u (rtds.off_domains ask.cur domains), refl)

window_near : (t : ℕ) (records : ArincRecords) (window : Window) → current_window records t ≡ Some window → ArincFits t records → window.until ≤ t + most_span
window_near t records window is fits =
    by_option (λ (o : Option Window). o ≡ Some window → window.until ≤ t + most_span) records.frame _ _ (λ none e. absurd (cc))
    (λ frame has e.
    let ahead : ℕ = (t - records.installed) % frame.major.0 in
    let major = (fits.major frame has).most in
    let sum = fits.fits frame has in
    let low = until_last (t - ahead) ahead (t - ahead + frame.major.0) frame.entries (omega (arith, sum)) in
    let same : frame_window records.installed frame t ≡ window = cc in
    subst (λ (w : Window). w.until ≤ t + most_span) same (omega (arith, low, major))) is

window_decides : (n cores : ℕ) (ask : Ask) (scheduler : Scheduler) (records : ArincRecords) → scheduler.records ≡ ArincPool records → ArincFits ask.at.0 records → (window : Option Window) → ((w : Window) → window ≡ Some w → w.until ≤ ask.at.0 + most_span)
    → DecisionFits n cores ask.at.0 (arinc_decision ask scheduler window)
window_decides n cores ask scheduler records is fits None near = record { records = subst (RecordsFit n cores ask.at.0) (sym is) fits; due = λ a e. absurd (cc) }
window_decides n cores ask scheduler records is fits (Some w) near = record {
  records = subst (RecordsFit n cores ask.at.0) (sym is) fits;
  due = λ a e. (let f : ◌≡◌ {A = Moment} (moment w.until) a = cc in subst (λ (b : Moment). b.0 ≤ ask.at.0 + most_span) f (near w refl));
}

null_decides : (n cores core t : ℕ) (kept : List (Option UnitId)) (chosen : Option UnitId) → length kept ≡ cores → DecisionFits n cores t (null.null_decision_for core kept chosen)
null_decides n cores core t kept None whole = record { records = whole; due = λ a is. absurd (cc) }
null_decides n cores core t kept (Some u) whole = record { records = length_set core (Some u) (null.kept_without (same_unit u) kept) ∙ length_released (same_unit u) kept ∙ whole; due = λ a is. absurd (cc) }

-- a decision keeps the records in range, and its due is near
pub decision_fits : (n cores : ℕ) (records : Records) (ask : Ask) (scheduler : Scheduler) → scheduler.records ≡ records → RecordsFit n cores ask.at.0 records → DecisionFits n cores ask.at.0 (decision_by records ask scheduler)
decision_fits n cores (Credit2Pool records) ask scheduler is fits = c2_decides n cores ask scheduler records (credit2.credit2_choice ask scheduler (credit2.own_burned_records ask.cur ask.at.0 records)) fits
decision_fits n cores (RtdsPool domains) ask scheduler is fits =
    let burned : List (Option (List RtdsUnit)) = rtds.own_burned_domains ask.cur ask.at.0 domains in
    let pool = rt_pool ask burned (rtds.rtds_choice ask scheduler burned) in
    rtds_decision n cores ask.at.0 (rtds.rtds_decision ask scheduler domains) pool.0 pool.1 (rtds_chooses n ask scheduler domains fits.places fits.units)
decision_fits n cores (ArincPool records) ask scheduler is fits =
    window_decides n cores ask scheduler records is fits (cond ask.leaving None (current_window records ask.at.0))
    (λ w e. by_cond (λ (o : Option Window). o ≡ Some w → w.until ≤ ask.at.0 + most_span) ask.leaving None (current_window records ask.at.0) (λ leaves f. absurd (cc)) (λ stays f. window_near ask.at.0 records w f fits) e)
decision_fits n cores (NullPool kept) ask scheduler is fits =
    by_cond (DecisionFits n cores ask.at.0) ask.leaving (null.null_decision_for ask.core.0 (clear_at ask.core.0 kept) None) (null.null_decision_for ask.core.0 kept (null.null_choice ask scheduler kept))
    (λ leaves. null_decides n cores ask.core.0 ask.at.0 (clear_at ask.core.0 kept) None (length_set ask.core.0 None kept ∙ fits))
    (λ stays. null_decides n cores ask.core.0 ask.at.0 kept (null.null_choice ask scheduler kept) fits)

pub replenish_fits : (n cores t : ℕ) (records : Records) (u : UnitId) → policy.is_replenish_due records t u ≡ true → RecordsFit n cores t records → RecordsFit n cores t (policy.records_after_replenish records t u)
replenish_fits n cores t (RtdsPool domains) u due fits = record {
  places = length_set u.dom.0 _ domains ∙ fits.places;
  units = fit_change_unit t u (rtds.unit_after_replenish t) domains (λ x is here. rtds_replenished t x (is_due x is) here) fits.units;
}
  where
    is_due : (x : RtdsUnit) → rtds_unit_at domains u ≡ Some x → x.deadline ≤ t
    is_due x is = (let e : nat_le x.deadline t ≡ true = rw (policy.is_replenish_due, is) at due in grind (arith, e))
replenish_fits n cores t any u due fits = absurd (cc)

pub refill_fits : (n cores t : ℕ) (records : Records) (d : ℕ) → has_moment_come t (policy.next_refill_moment records d) ≡ true → RecordsFit n cores t records → RecordsFit n cores t (policy.records_after_refill records t d)
refill_fits n cores t (Credit2Pool records) d come fits = c_refilled n t d records (λ x r at is. is_past x r at is) fits
  where
    is_past : (x : Credit2Domain) (r : ℕ) → at_place records.domains d ≡ Some x → x.refill ≡ Some r → r ≤ t
    is_past x r at is =
        let e : has_moment_come t (option_map moment x.refill) ≡ true = subst (λ (o : Option Credit2Domain). has_moment_come t (elim o as (λ _. Option Moment) [ None ↦ None | Some y ↦ option_map moment y.refill ]) ≡ true) at come in
        let f : nat_le r t ≡ true = subst (λ (o : Option ℕ). has_moment_come t (option_map moment o) ≡ true) is e in
        grind (arith, f)
refill_fits n cores t records d come fits = fits

pub parted_fits : (n cores t : ℕ) (records : Records) (d : ℕ) → RecordsFit n cores t records → RecordsFit n cores t (parted_records records d)
parted_fits n cores t (Credit2Pool records) d fits = record { places = length_set d None records.domains ∙ fits.places; limit = fits.limit; domains = EachPlace-clear_at (Credit2DomainFits t) d records.domains fits.domains }
parted_fits n cores t (RtdsPool domains) d fits = record { places = length_set d None domains ∙ fits.places; units = EachPlace-clear_at (AllByRecursion (RtdsFits t)) d domains fits.units }
parted_fits n cores t (ArincPool records) d fits = fits
parted_fits n cores t (NullPool kept) d fits = length_released (λ u. u.dom.0 == d) kept ∙ fits

-- the parameters of a domain that joins
abbrev pub ParamsInRange : DomParams → Type 0
ParamsInRange (dom_params.Credit2 weight percent) = IsWithin 1 65535 weight × (percent ≤ 6400)
ParamsInRange (dom_params.Rtds period budget extra) = IsWithin 10000 1000000000000 period.0 × IsWithin 10000 1000000000000 budget.0
ParamsInRange dom_params.Arinc653 = Unit {0}
ParamsInRange dom_params.Null = Unit {0}

pub default_fits : (records : Records) → ParamsInRange (standard_dom_params records)
default_fits (Credit2Pool records) = (record { least = omega arith; most = omega arith }, omega arith)
default_fits (RtdsPool domains) = (record { least = omega arith; most = omega arith }, record { least = omega arith; most = omega arith })
default_fits (ArincPool records) = tt
default_fits (NullPool kept) = tt

pub joined_fits : (n cores t : ℕ) (records : Records) (params : DomParams) (d count : ℕ) → ParamsInRange params → RecordsFit n cores t records → RecordsFit n cores t (joined_records records params d count t)
joined_fits n cores t (Credit2Pool records) (dom_params.Credit2 weight percent) d count good fits = record { places = length_set d _ records.domains ∙ fits.places; limit = fits.limit; domains = EachPlace-put_at (Credit2DomainFits t) d (credit2.fresh_credit2_domain weight percent count t) records.domains fits.domains (c_fresh n t weight percent count good.0 good.1) }
joined_fits n cores t (RtdsPool domains) (dom_params.Rtds period budget extra) d count good fits = record {
  places = length_set d _ domains ∙ fits.places;
  units = EachPlace-put_at (AllByRecursion (RtdsFits t)) d (rtds.fresh_rtds_units period.0 budget.0 extra count t) domains fits.units (rtds_fresh t period.0 budget.0 count extra good.0 good.1);
}
joined_fits n cores t records params d count good fits = fits

pub changed_fits : (n cores t : ℕ) (records : Records) (change : ParamChange) → ChangeFits change → RecordsFit n cores t records → RecordsFit n cores t (changed_records records change t)
changed_fits n cores t (Credit2Pool records) (changes.Dom d weight percent) good fits = c_set_domain n t d.0 weight percent records good.0 good.1 fits
changed_fits n cores t (Credit2Pool records) (changes.Rate limit) good fits = record { places = fits.places; limit = good; domains = fits.domains }
changed_fits n cores t (RtdsPool domains) (changes.«Unit» u period budget extra) good fits = absurd good
changed_fits n cores t (ArincPool records) (changes.Frame frame) good fits = record {
  installed = omega arith;
  fits = λ f is. (let e : frame ≡ f = cc in subst FitsMajor e good.0);
  major = λ f is. (let e : frame ≡ f = cc in subst (λ (x : Frame). IsWithin 1 most_span x.major.0) e good.1);
}
changed_fits n cores t (NullPool kept) (changes.Frame frame) good fits = fits
changed_fits n cores t records change good fits = fits

-- new parameters of one RTDS unit; what is not given stays
pub unit_fits : (n cores t : ℕ) (records : Records) (u : UnitId) (x : RtdsUnit) (period budget : Option Span) (extra : Bool) → unit_rtds_record records u ≡ Some x
    → IfSome period (λ (p : Span). IsWithin 10000 1000000000000 p.0) → IfSome budget (λ (b : Span). IsWithin 10000 1000000000000 b.0) → RecordsFit n cores t records
    → RecordsFit n cores t (changed_records records (changes.«Unit» u (unwrap_or period (span x.next_period)) (unwrap_or budget (span x.next_budget)) extra) t)
unit_fits n cores t (RtdsPool domains) u x period budget extra is periods budgets fits =
    let here : RtdsFits t x = fit_unit t domains u x is fits.units in
    record {
      places = length_set u.dom.0 _ domains ∙ fits.places;
      units = fit_change_unit t u _ domains (λ y has fit. rtds_set t y _ _ extra (of_given period x.next_period periods here.next_period) (of_given budget x.next_budget budgets here.next_budget) fit) fits.units;
    }
  where
    of_given : (o : Option Span) (k : ℕ) → IfSome o (λ (p : Span). IsWithin 10000 1000000000000 p.0) → IsWithin 10000 1000000000000 k → IsWithin 10000 1000000000000 (unwrap_or o (span k)).0
    of_given None k given old = old
    of_given (Some p) k given old = given
unit_fits n cores t any u x period budget extra is periods budgets fits = fits

pub later_fits : (n cores t next : ℕ) (records : Records) → t ≤ next → RecordsFit n cores t records → RecordsFit n cores next records
later_fits n cores t next (Credit2Pool records) past fits = c_later n t next records past fits
later_fits n cores t next (RtdsPool domains) past fits = record { places = fits.places; units = λ d units at. each_later units (fits.units d units at) }
  where
    each_later : (units : List RtdsUnit) → AllByRecursion (RtdsFits t) units → AllByRecursion (RtdsFits next) units
    each_later [] each = tt
    each_later (x ∷ units) each = (rtds_later t next x past each.0, each_later units each.1)
later_fits n cores t next (ArincPool records) past fits = record { installed = (let l = fits.installed in omega (arith, l, past)); fits = fits.fits; major = fits.major }
later_fits n cores t next (NullPool kept) past fits = fits

no_frame : (t : ℕ) → ArincFits t (record { frame = None; installed = 0 })
no_frame t = record { installed = omega arith; fits = λ frame is. absurd (cc); major = λ frame is. absurd (cc) }

pub fresh_fits : (n cores t : ℕ) (kind : SchedKind) → RecordsFit n cores t (empty_records (standard_pool_params kind) n cores)
fresh_fits n cores t kinds.Credit2 = record { places = length-replicate n None; limit = omega arith; domains = EachPlace-empty (Credit2DomainFits t) n }
fresh_fits n cores t kinds.Rtds = record { places = length-replicate n None; units = EachPlace-empty (AllByRecursion (RtdsFits t)) n }
fresh_fits n cores t kinds.Arinc653 = no_frame t
fresh_fits n cores t kinds.Null = length-replicate cores None

pub opened_fits : (config : Config) (n cores : ℕ) (kind : SchedKind) (params : PoolParams) → PoolParamsPass config kind params → RecordsFit n cores 0 (empty_records params n cores)
opened_fits config n cores kinds.Credit2 (pool_params.Credit2 limit) passed = record { places = length-replicate n None; limit = of_rate passed; domains = EachPlace-empty (Credit2DomainFits 0) n }
  where
    of_rate : ((limit ≡ 0) ⊎ IsWithin 100 500000 limit) → limit ≤ 500000
    of_rate (inl none) = omega (arith, none)
    of_rate (inr within) = within.most
opened_fits config n cores kind pool_params.Rtds passed = record { places = length-replicate n None; units = EachPlace-empty (AllByRecursion (RtdsFits 0)) n }
opened_fits config n cores kind (pool_params.Arinc653 None) passed = no_frame 0
opened_fits config n cores kinds.Arinc653 (pool_params.Arinc653 (Some frame)) passed = record {
  installed = omega arith;
  fits = λ f is. (let e : frame ≡ f = cc in subst FitsMajor e passed.fits);
  major = λ f is. (let e : frame ≡ f = cc in subst (λ (x : Frame). IsWithin 1 most_span x.major.0) e passed.major);
}
opened_fits config n cores kind pool_params.Null passed = length-replicate cores None
opened_fits config n cores kind params passed = absurd passed
