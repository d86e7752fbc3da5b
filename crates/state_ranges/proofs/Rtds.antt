-- What the records of RTDS units keep.
use Rattle.std.proofs.lemmas.Bool.{ltb-false}
use Rattle.std.proofs.Common.{◌≡◌, ◌≤◌, ◌+◌, ◌-◌, ◌*◌, ◌/◌, ◌%◌, ℕ, zero, suc, Bool, true, false, List, refl, arith, subst, ◌∙◌, cond, length}
use Rattle.std.specs.Prelude.{Option, Some, None, unwrap_or, nat_lt}
use Rattle.std.specs.List.{AllByRecursion}
use Rattle.std.proofs.lemmas.Nat.{div-add-mod'}
use Rattle.sched_base.specs.Numbers.{moment}
use Rattle.sched_base.specs.RtdsNumbers.{burned_left, burned_level, next_deadline}
use Rattle.sched_base.specs.declared.Moment.{Moment}
use Rattle.sched_base.specs.declared.UnitId.{UnitId}
use Rattle.sched_base.proofs.Lists.{each_get}
use Rattle.sched_model.specs.declared.ask.Ask.{Ask}
use Rattle.sched_model.specs.declared.state.RtdsUnit.{RtdsUnit}
use Rattle.sched_model.specs.declared.state.Records.TheVariants.{RtdsPool}
use Rattle.sched_model.specs.declared.state.Scheduler.{Scheduler}
use Rattle.sched_model.specs.Places.{at_place, change_item}
use Rattle.sched_model.specs.EligibleUnits.{Decision, rtds_unit_at}
use Rattle.sched_model.specs.CheckedMachine.{IsWithin, most_span}
use Rattle.sched_model.specs.Rtds.{unit_after_span, unit_burned_to, unit_after_replenish, change_unit, unit_left_budget, own_burned_domains, running_domains, off_domains, rtds_choice, rtds_decision_for, rtds_decision, fresh_rtds_units}
use Rattle.sched_laws.proofs.EachPlace.{EachPlace-change_at, by_option, by_cond, length_set}
use Rattle.state_ranges.specs.Fits.{used_budget, RtdsFits, RtdsFit}
use Rattle.sched_laws.proofs.Lists.{AllByRecursion-change_item}
use Rattle.sched_laws.proofs.RtdsUnits.{rtds_same}

-- when a unit was charged last, seen from a later moment
pub last_later : (t next : ℕ) → t ≤ next → (o : Option ℕ) → unwrap_or o t ≤ unwrap_or o next
last_later t next past None = past
last_later t next past (Some b) = omega arith

pub still_last : (t next : ℕ) → t ≤ next → (o : Option ℕ) → unwrap_or o t ≤ t → unwrap_or o next ≤ next
still_last t next past None l = omega arith
still_last t next past (Some b) l = omega (arith, l, past)

pub rtds_later : (t next : ℕ) (x : RtdsUnit) → t ≤ next → RtdsFits t x → RtdsFits next x
rtds_later t next x past fits = record {
  period = fits.period;
  budget = fits.budget;
  next_period = fits.next_period;
  next_budget = fits.next_budget;
  left = fits.left;
  spent = (let l = fits.spent in let k = last_later t next past x.burned in omega (arith, l, k));
  last = still_last t next past x.burned fits.last;
  deadline = (let l = fits.deadline in omega (arith, l, past));
}

-- a span charged: what is used grows by the span at most, and nothing is left above the budget
charge_left : (left budget elapsed : ℕ) (extra : Bool) → left ≤ budget → burned_left left budget extra elapsed ≤ budget
charge_left left budget elapsed extra low =
    by_cond (λ k. k ≤ budget) (nat_lt elapsed left) (left - elapsed) (cond extra budget 0) (λ is. omega (arith, low)) (λ is. by_cond (λ k. k ≤ budget) extra budget 0 (λ e. omega arith) (λ e. omega arith))

charge_used : (level left budget elapsed : ℕ) (extra : Bool) → left ≤ budget
    → burned_level level left extra elapsed * budget + (budget - burned_left left budget extra elapsed) ≤ level * budget + (budget - left) + elapsed
charge_used level left budget elapsed extra low =
    by_size (nat_lt elapsed left) extra (λ is. ltb-false elapsed left is) refl
  where
    by_size : (b e : Bool) → (nat_lt elapsed left ≡ false → left ≤ elapsed) → nat_lt elapsed left ≡ b
        → cond b level (cond e (level + 1) level) * budget + (budget - cond b (left - elapsed) (cond e budget 0)) ≤ level * budget + (budget - left) + elapsed
    by_size true e past is = omega (arith, low)
    by_size false true past is = (let p = past is in let r : (level + 1) * budget ≡ level * budget + budget = grind arith in omega (arith, low, p, r))
    by_size false false past is = (let p = past is in omega (arith, low, p))

pub rtds_burned : (t : ℕ) (x : RtdsUnit) → RtdsFits t x → RtdsFits t (unit_burned_to t x)
rtds_burned t x fits = by_burned x.burned refl
  where
    by_burned : (o : Option ℕ) → x.burned ≡ o → RtdsFits t (elim o as (λ _. RtdsUnit) [ None ↦ x | Some from ↦ unit_after_span (t - from) (record x { burned = Some t }) ])
    by_burned None is = fits
    by_burned (Some from) is =
        let spent : used_budget x ≤ from = subst (λ (o : Option ℕ). used_budget x ≤ unwrap_or o t) is fits.spent in
        let last : from ≤ t = subst (λ (o : Option ℕ). unwrap_or o t ≤ t) is fits.last in
        record {
          period = fits.period;
          budget = fits.budget;
          next_period = fits.next_period;
          next_budget = fits.next_budget;
          left = charge_left x.left x.budget (t - from) x.extra fits.left;
          spent = (let c = charge_used x.level x.left x.budget (t - from) x.extra fits.left in omega (arith, spent, last, c));
          last = omega arith;
          deadline = fits.deadline;
        }

-- a unit that is due: its next deadline is within a period
next_near : (deadline period t : ℕ) → deadline ≤ t → next_deadline deadline period t ≤ t + period
next_near deadline period t come =
    let d : (t - deadline) / period * period + (t - deadline) % period ≡ t - deadline = div-add-mod' (t - deadline) period in
    let e : period * ((t - deadline) / period + 1) ≡ (t - deadline) / period * period + period = grind arith in
    omega (arith, come, d, e)

pub rtds_replenished : (t : ℕ) (x : RtdsUnit) → x.deadline ≤ t → RtdsFits t x → RtdsFits t (unit_after_replenish t x)
rtds_replenished t x come fits =
    let burned : RtdsFits t (unit_burned_to t x) = rtds_burned t x fits in
    let same : (unit_burned_to t x).deadline ≡ x.deadline = by_option (λ (y : RtdsUnit). y.deadline ≡ x.deadline) x.burned _ _ (λ is. refl) (λ from is. refl) in
    record {
      period = burned.next_period;
      budget = burned.next_budget;
      next_period = burned.next_period;
      next_budget = burned.next_budget;
      left = omega arith;
      spent = (let z : 0 * (unit_burned_to t x).next_budget ≡ 0 = grind arith in omega (arith, z));
      last = burned.last;
      deadline = (let n = next_near (unit_burned_to t x).deadline (unit_burned_to t x).next_period t (omega (arith, same, come)) in let h = burned.next_period.most in omega (arith, n, h));
    }

-- a unit runs from t, or runs no more
rtds_from : (t : ℕ) (x : RtdsUnit) (from : Option ℕ) → unwrap_or from t ≡ t → RtdsFits t x → RtdsFits t (record x { burned = from })
rtds_from t x from is fits = record {
  period = fits.period;
  budget = fits.budget;
  next_period = fits.next_period;
  next_budget = fits.next_budget;
  left = fits.left;
  spent = (let l = fits.spent in let k = fits.last in omega (arith, l, k, is));
  last = omega (arith, is);
  deadline = fits.deadline;
}

pub rtds_running : (t : ℕ) (x : RtdsUnit) → RtdsFits t x → RtdsFits t (record x { burned = Some t })
rtds_running t x = rtds_from t x (Some t) refl

pub rtds_off : (t : ℕ) (x : RtdsUnit) → RtdsFits t x → RtdsFits t (record x { burned = None })
rtds_off t x = rtds_from t x None refl

-- parameters that wait for the next replenishment
pub rtds_set : (t : ℕ) (x : RtdsUnit) (period budget : ℕ) (extra : Bool) → IsWithin 10000 1000000000000 period → IsWithin 10000 1000000000000 budget → RtdsFits t x → RtdsFits t (record x { next_period = period; next_budget = budget; next_extra = extra })
rtds_set t x period budget extra periods budgets fits = record {
  period = fits.period;
  budget = fits.budget;
  next_period = periods;
  next_budget = budgets;
  left = fits.left;
  spent = fits.spent;
  last = fits.last;
  deadline = fits.deadline;
}

-- the units of a domain that joins
pub rtds_fresh : (t period budget count : ℕ) (extra : Bool) → IsWithin 10000 1000000000000 period → IsWithin 10000 1000000000000 budget → AllByRecursion (RtdsFits t) (fresh_rtds_units period budget extra count t)
rtds_fresh t period budget zero extra periods budgets = tt
rtds_fresh t period budget (suc count) extra periods budgets = (
  record {
    period = periods;
    budget = budgets;
    next_period = periods;
    next_budget = budgets;
    left = omega arith;
    spent = (let z : 0 * budget ≡ 0 = grind arith in omega (arith, z));
    last = omega arith;
    deadline = (let h = periods.most in omega (arith, h));
  },
  rtds_fresh t period budget count extra periods budgets,
)

pub fit_unit : (t : ℕ) (domains : List (Option (List RtdsUnit))) (u : UnitId) (x : RtdsUnit) → rtds_unit_at domains u ≡ Some x → RtdsFit t domains → RtdsFits t x
fit_unit t domains u x is fit =
    by_option (λ (o : Option RtdsUnit). o ≡ Some x → RtdsFits t x) (at_place domains u.dom.0) _ _ (λ none e. absurd (cc)) (λ units at e. each_get (RtdsFits t) units u.n x (fit u.dom.0 units at) e) is

pub fit_change_unit : (t : ℕ) (u : UnitId) (f : RtdsUnit → RtdsUnit) (domains : List (Option (List RtdsUnit))) → ((x : RtdsUnit) → rtds_unit_at domains u ≡ Some x → RtdsFits t x → RtdsFits t (f x)) → RtdsFit t domains → RtdsFit t (change_unit u f domains)
fit_change_unit t u f domains keeps fit =
    EachPlace-change_at (AllByRecursion (RtdsFits t)) u.dom.0 (change_item u.n f) domains fit
    (λ units at each. AllByRecursion-change_item (RtdsFits t) u.n f units (λ x has here. keeps x (rw (rtds_unit_at, at) has) here) each)

fit_burn_cur : (t : ℕ) (cur : Option UnitId) (domains : List (Option (List RtdsUnit))) → RtdsFit t domains → RtdsFit t (own_burned_domains cur t domains)
fit_burn_cur t None domains fit = fit
fit_burn_cur t (Some u) domains fit = fit_change_unit t u (unit_burned_to t) domains (λ x is. rtds_burned t x) fit

fit_switch_off : (t : ℕ) (cur : Option UnitId) (domains : List (Option (List RtdsUnit))) → RtdsFit t domains → RtdsFit t (off_domains cur domains)
fit_switch_off t None domains fit = fit
fit_switch_off t (Some u) domains fit = fit_change_unit t u (λ x. record x { burned = None }) domains (λ x is. rtds_off t x) fit

-- the records that a decision leaves, and its due
abbrev pub GoodDecision : ℕ → ℕ → Decision → Type 0
GoodDecision t count d = ((domains : List (Option (List RtdsUnit))) → d.records ≡ RtdsPool domains → RtdsFit t domains × (length domains ≡ count)) × ((a : Moment) → d.due ≡ Some a → a.0 ≤ t + most_span)

length_switch_off : (cur : Option UnitId) (domains : List (Option (List RtdsUnit))) → length (off_domains cur domains) ≡ length domains
length_switch_off None domains = refl
length_switch_off (Some u) domains = length_set u.dom.0 _ domains

length_burn_cur : (cur : Option UnitId) (t : ℕ) (domains : List (Option (List RtdsUnit))) → length (own_burned_domains cur t domains) ≡ length domains
length_burn_cur None t domains = refl
length_burn_cur (Some u) t domains = length_set u.dom.0 _ domains

left_small : (t : ℕ) (domains : List (Option (List RtdsUnit))) (u : UnitId) → RtdsFit t domains → unit_left_budget domains u ≤ most_span
left_small t domains u fit =
    by_option (λ (k : ℕ). k ≤ most_span) (rtds_unit_at domains u) _ _ (λ none. omega arith)
    (λ x is. (let f = fit_unit t domains u x is fit in let a = f.left in let b = f.budget.most in omega (arith, a, b)))

pub rtds_decides : (count : ℕ) (ask : Ask) (domains : List (Option (List RtdsUnit))) (chosen : Option UnitId) → length domains ≡ count → RtdsFit ask.at.0 domains → GoodDecision ask.at.0 count (rtds_decision_for ask domains chosen)
rtds_decides count ask domains None whole fit = (
  λ other is. (let e = rtds_same (off_domains ask.cur domains) other is in subst (λ (x : List (Option (List RtdsUnit))). RtdsFit ask.at.0 x × (length x ≡ count)) e (fit_switch_off ask.at.0 ask.cur domains fit, length_switch_off ask.cur domains ∙ whole)),
  λ a is. absurd (cc),
)
rtds_decides count ask domains (Some u) whole fit = (
  λ other is. (
      let e = rtds_same (running_domains (Some ask.at.0) u (off_domains ask.cur domains)) other is in
      subst (λ (x : List (Option (List RtdsUnit))). RtdsFit ask.at.0 x × (length x ≡ count)) e (
        fit_change_unit ask.at.0 u (λ x. record x { burned = Some ask.at.0 }) (off_domains ask.cur domains) (λ x has. rtds_running ask.at.0 x) (fit_switch_off ask.at.0 ask.cur domains fit),
        length_set u.dom.0 _ (off_domains ask.cur domains) ∙ length_switch_off ask.cur domains ∙ whole,
      )),
  λ a is. (
      let e : ◌≡◌ {A = Moment} (moment (ask.at.0 + unit_left_budget domains u)) a = cc in
      let l = left_small ask.at.0 domains u fit in
      subst (λ (b : Moment). b.0 ≤ ask.at.0 + most_span) e (omega (arith, l))),
)

pub rtds_chooses : (count : ℕ) (ask : Ask) (scheduler : Scheduler) (domains : List (Option (List RtdsUnit))) → length domains ≡ count → RtdsFit ask.at.0 domains → GoodDecision ask.at.0 count (rtds_decision ask scheduler domains)
rtds_chooses count ask scheduler domains whole fit =
    rtds_decides count ask (own_burned_domains ask.cur ask.at.0 domains) (rtds_choice ask scheduler (own_burned_domains ask.cur ask.at.0 domains)) (length_burn_cur ask.cur ask.at.0 domains ∙ whole) (fit_burn_cur ask.at.0 ask.cur domains fit)
