-- The numbers of a decision, of a replenishment and of a refill.
use Rattle.std.proofs.Common.{◌≡◌, ◌<◌, ◌≤◌, ◌+◌, ◌-◌, ◌*◌, ◌^◌, ℕ, Bool, true, false, List, [], ◌∷◌, refl, arith, subst, length, cond, inl, inr}
use Rattle.std.specs.Prelude.{Option, Some, None, is_some, option_map, slice_get, sum_by, map, pos, negsuc, neg_ℤ, ℤ, ◌≤ℤ◌, ◌+ℤ◌, ◌-ℤ◌, ◌||◌, ◌==◌, int_lt}
use Rattle.std.specs.Int.{int_min}
use Rattle.std.specs.List.{AllByRecursion}
use Rattle.std.proofs.lemmas.Int.{ints, clamps}
use Rattle.std.proofs.lemmas.List.Elements.{recursion_from_All}
use Rattle.std.proofs.lemmas.List.Sums.{sum_by-cons}
use Rattle.sched_base.specs.Credit2Numbers.{positive_part, called_resets, cap_budget, budget_after_refill}
use Rattle.sched_base.specs.declared.UnitId.{UnitId}
use Rattle.sched_base.specs.declared.Moment.{Moment}
use Rattle.sched_base.proofs.Lists.{each_get}
use Rattle.sched_model.specs.declared.machine.Machine.{Machine}
use Rattle.sched_model.specs.declared.ask.Ask.{Ask}
use Rattle.sched_model.specs.declared.state.Scheduler.{Scheduler}
use Rattle.sched_model.specs.declared.state.Records.{Records}
use Rattle.sched_model.specs.declared.state.Records.TheVariants.{Credit2Pool, RtdsPool, ArincPool, NullPool}
use Rattle.sched_model.specs.declared.state.Credit2Records.{Credit2Records}
use Rattle.sched_model.specs.declared.state.Credit2Domain.{Credit2Domain}
use Rattle.sched_model.specs.declared.state.Credit2Unit.{Credit2Unit}
use Rattle.sched_model.specs.declared.state.RtdsUnit.{RtdsUnit}
use Rattle.sched_model.specs.Places.{at_place, clear_at}
use Rattle.sched_base.specs.Numbers.{has_moment_come}
use Rattle.sched_model.specs.Arinc.{Window, current_window}
use Rattle.sched_model.specs.EligibleUnits.{Decision}
use Rattle.sched_model.specs.Policy as policy
use Rattle.sched_model.specs.Policy.{decision_by, arinc_decision, domain_credit2_record, next_refill_moment}
use Rattle.sched_model.specs.Credit2 as credit2
use Rattle.sched_model.specs.Rtds as rtds
use Rattle.sched_model.specs.NullScheduler as null
use Rattle.sched_model.specs.CheckedMachine.{IsChecked, most_span}
use Rattle.sched_laws.proofs.EachPlace.{by_option, by_cond, place_below, read_change_at}
use Rattle.state_ranges.specs.Ranges.{Credit2UnitInRange, Credit2InRange, RecordsInRange}
use Rattle.state_ranges.proofs.Credit2.{c_burn_cur}
use Rattle.state_ranges.specs.Fits.{Credit2Fits, UnitFits}
use Rattle.state_ranges.proofs.RecordRanges.{RecordsFit}
use Rattle.sched_print.specs.Ranges.{IsSigned}
use Rattle.state_ranges.specs.Ranges.{held_running}

-- how many resets a decision has
resets_low : (credit : ℤ) → neg_ℤ (pos (65536 * most_span)) ≤ℤ credit → called_resets credit < 2 ^ 63
resets_low (pos n) least = omega arith
resets_low (negsuc n) least = omega (arith, ints, least)

credit_least : (count t : ℕ) (records : Credit2Records) (u : UnitId) → t ≤ most_span → Credit2Fits count t records → neg_ℤ (pos (65536 * most_span)) ≤ℤ credit2.unit_credit records u
credit_least count t records u low fits =
    let Q : ℤ → Type 0 = λ k. neg_ℤ (pos (65536 * most_span)) ≤ℤ k in
    by_option Q (at_place records.domains u.dom.0) _ _ (λ none. omega (arith, ints))
    (λ d at. by_option Q (slice_get d.units u.n) _ _ (λ none. omega (arith, ints))
    (λ x has.
    let here = each_get (UnitFits t d.weight) d.units u.n x (fits.domains u.dom.0 d at).units has in
    let least = here.least in
    let last = here.last in
    omega (arith, ints, least, last, low)))

decide_resets : (count : ℕ) (ask : Ask) (scheduler : Scheduler) (records : Credit2Records) (chosen : Option UnitId) → ask.at.0 ≤ most_span → Credit2Fits count ask.at.0 records → (credit2.credit2_decision_for ask scheduler records chosen).reset < 2 ^ 63
decide_resets count ask scheduler records None low fits = omega arith
decide_resets count ask scheduler records (Some u) low fits =
    by_cond (λ (n : ℕ). n < 2 ^ 63) (int_lt (pos 0) (credit2.unit_credit records u) || elim records.last_reset as (λ _. Bool) [ None ↦ false | Some at ↦ at == ask.at.0 ]) 0 (called_resets (credit2.unit_credit records u))
    (λ none. omega arith) (λ some. resets_low (credit2.unit_credit records u) (credit_least count ask.at.0 records u low fits))

rtds_resets : (ask : Ask) (domains : List (Option (List RtdsUnit))) (chosen : Option UnitId) → (rtds.rtds_decision_for ask domains chosen).reset < 2 ^ 63
rtds_resets ask domains None = omega arith
rtds_resets ask domains (Some u) = omega arith

window_resets : (ask : Ask) (scheduler : Scheduler) (window : Option Window) → (arinc_decision ask scheduler window).reset < 2 ^ 63
window_resets ask scheduler None = omega arith
window_resets ask scheduler (Some window) = omega arith

null_resets : (core : ℕ) (kept : List (Option UnitId)) (chosen : Option UnitId) → (null.null_decision_for core kept chosen).reset < 2 ^ 63
null_resets core kept None = omega arith
null_resets core kept (Some u) = omega arith

pub decision_resets : (count cores : ℕ) (records : Records) (ask : Ask) (scheduler : Scheduler) → ask.at.0 ≤ most_span → RecordsFit count cores ask.at.0 records → (decision_by records ask scheduler).reset < 2 ^ 63
decision_resets count cores (Credit2Pool records) ask scheduler low fits =
    decide_resets count ask scheduler (credit2.own_burned_records ask.cur ask.at.0 records) (credit2.credit2_choice ask scheduler (credit2.own_burned_records ask.cur ask.at.0 records)) low (c_burn_cur count ask.at.0 ask.cur records fits)
decision_resets count cores (RtdsPool domains) ask scheduler low fits = rtds_resets ask (rtds.own_burned_domains ask.cur ask.at.0 domains) (rtds.rtds_choice ask scheduler (rtds.own_burned_domains ask.cur ask.at.0 domains))
decision_resets count cores (ArincPool records) ask scheduler low fits = window_resets ask scheduler (cond ask.leaving None (current_window records ask.at.0))
decision_resets count cores (NullPool kept) ask scheduler low fits =
    by_cond (λ (d : Decision). d.reset < 2 ^ 63) ask.leaving (null.null_decision_for ask.core.0 (clear_at ask.core.0 kept) None) (null.null_decision_for ask.core.0 kept (null.null_choice ask scheduler kept))
    (λ leaves. omega arith) (λ stays. null_resets ask.core.0 kept (null.null_choice ask scheduler kept))

above_low : (h : ℤ) → h ≤ℤ pos 640000000 → positive_part h ≤ 640000000
above_low (pos n) low = omega (arith, ints, low)
above_low (negsuc n) low = omega arith

holding_low : (y : Credit2Unit) → y.held ≤ℤ pos 640000000 → held_running y ≤ 640000000
holding_low y low = by_cond (λ (n : ℕ). n ≤ 640000000) (is_some y.burned) (positive_part y.held) 0 (λ runs. above_low y.held low) (λ stays. omega arith)

less_low : (h : ℤ) (k : ℕ) → h ≤ℤ pos 640000000 → (h -ℤ pos k) ≤ℤ pos 640000000
less_low h k low = omega (arith, ints, low)

burned_low : (t most : ℕ) (d : Credit2Domain) (x : Credit2Unit) → x.held ≤ℤ pos 640000000 → (credit2.burned_unit most t d x).held ≤ℤ pos 640000000
burned_low t most d x low =
    by_option (λ (y : Credit2Unit). y.held ≤ℤ pos 640000000) x.burned _ _ (λ none. low)
    (λ from is. by_cond (λ (h : ℤ). h ≤ℤ pos 640000000) (d.cap == 0) x.held (x.held -ℤ pos (t - from)) (λ free. low) (λ capped. less_low x.held (t - from) low))

-- and what all hold, once they are charged
held_low : (t most : ℕ) (d : Credit2Domain) (units : List Credit2Unit) → AllByRecursion (Credit2UnitInRange t) units → sum_by held_running (map (credit2.burned_unit most t d) units) ≤ length units * 640000000
held_low t most d [] each = omega arith
held_low t most d (x ∷ units) each =
    let rest = held_low t most d units each.1 in
    let one = holding_low (credit2.burned_unit most t d x) (burned_low t most d x each.0.held_most) in
    let sum = sum_by-cons held_running (credit2.burned_unit most t d x) (map (credit2.burned_unit most t d) units) in
    omega (arith, rest, one, sum)

-- the budget after a refill
refill_signed : (budget : ℤ) (held all n t : ℕ) → t ≤ most_span → neg_ℤ (pos (32 * t + 20480000000)) ≤ℤ budget → held ≤ 20480000000 → all ≤ 640000000 → IsSigned (budget_after_refill budget held all n)
refill_signed budget held all n t low least few small = signed (budget_after_refill budget held all n) above below
  where
    above : budget_after_refill budget held all n ≤ℤ pos 640000000
    above = most (budget +ℤ pos (n * all)) (pos all -ℤ pos held) (omega (arith, ints, small))
      where
        most : (a b : ℤ) → b ≤ℤ pos 640000000 → int_min a b ≤ℤ pos 640000000
        most a b l = omega (arith, ints, clamps, l)

    below : neg_ℤ (pos 400000000000000) ≤ℤ budget_after_refill budget held all n
    below = both (budget +ℤ pos (n * all)) (pos all -ℤ pos held) (more budget (n * all) (omega (arith, ints, least, low))) (omega (arith, ints, few))
      where
        both : (a b : ℤ) → neg_ℤ (pos 400000000000000) ≤ℤ a → neg_ℤ (pos 400000000000000) ≤ℤ b → neg_ℤ (pos 400000000000000) ≤ℤ int_min a b
        both a b x y = omega (arith, ints, clamps, x, y)

        more : (a : ℤ) (k : ℕ) → neg_ℤ (pos 400000000000000) ≤ℤ a → neg_ℤ (pos 400000000000000) ≤ℤ (a +ℤ pos k)
        more a k l = omega (arith, ints, l)

    signed : (z : ℤ) → z ≤ℤ pos 640000000 → neg_ℤ (pos 400000000000000) ≤ℤ z → IsSigned z
    signed (pos n) high deep = omega (arith, ints, high)
    signed (negsuc n) high deep = omega (arith, ints, deep)

refilled_signed : (m : Machine) (t most : ℕ) (d : Credit2Domain) → t ≤ most_span → Credit2InRange t d → IsSigned (credit2.domain_after_refill most t d).budget
refilled_signed m t most d low range =
    let count = range.count in
    let percent = range.cap in
    let held = held_low t most d d.units (recursion_from_All (Credit2UnitInRange t) d.units range.units) in
    refill_signed d.budget (credit2.running_budget (credit2.burned_domain most t d)) (cap_budget d.cap) (credit2.passed_periods d t) t low range.budget_least (omega (arith, held, count)) (omega (arith, percent))

periods_low : (d : Credit2Domain) (t : ℕ) → t ≤ most_span → credit2.passed_periods d t < 2 ^ 63
periods_low d t low = by_option (λ (n : ℕ). n < 2 ^ 63) d.refill _ _ (λ none. omega arith) (λ due is. omega (arith, low))

-- a refill that has come
pub record RefillFits (t d : ℕ) (records : Records) : Type 0 where
  pub domain : d < 64
  pub periods : elim (domain_credit2_record records d) [ None ↦ 0 | Some x ↦ credit2.passed_periods x t ] < 2 ^ 63
  pub budget : IsSigned (elim (domain_credit2_record (policy.records_after_refill records t d) d) [ None ↦ pos 0 | Some x ↦ x.budget ])

pub refill_low : (m : Machine) → IsChecked m → (t d : ℕ) (records : Records) → t ≤ most_span → RecordsInRange m t records → has_moment_come t (next_refill_moment records d) ≡ true → RefillFits t d records
refill_low m checked t d (RtdsPool domains) low range come = absurd (cc)
refill_low m checked t d (ArincPool records) low range come = absurd (cc)
refill_low m checked t d (NullPool kept) low range come = absurd (cc)
refill_low m checked t d (Credit2Pool records) low range come = record {
  domain = inside (at_place records.domains d) refl come;
  periods = by_option (λ (n : ℕ). n < 2 ^ 63) (at_place records.domains d) _ _ (λ none. omega arith) (λ x at. periods_low x t low);
  budget = by_option IsSigned (at_place (credit2.refilled_pool t d records).domains d) _ _ (λ none. omega arith)
      (λ y at. elim (read_change_at d d (credit2.domain_after_refill (credit2.most_weight records) t) records.domains y at) [
        | inl was ↦ absurd (was.0 refl)
        | inr r ↦ subst (λ (z : Credit2Domain). IsSigned z.budget) r.3 (refilled_signed m t (credit2.most_weight records) r.0 low (range.2 d r.0 r.1))
      ]);
}
  where
    inside : (o : Option Credit2Domain) → at_place records.domains d ≡ o → has_moment_come t (elim o as (λ _. Option Moment) [ None ↦ None | Some x ↦ option_map (λ n. record { 0 = n }) x.refill ]) ≡ true → d < 64
    inside None at is = absurd (cc)
    inside (Some x) at is = (let b = place_below records.domains d x at in let e = range.0 in let few = checked.config.few_domains in omega (arith, b, e, few))
