-- A decision of Credit2 for its only core: what it leaves of a unit's record, and whom it chooses.
use Rattle.std.proofs.Common.{◌≡◌, ◌<◌, ◌≤◌, ◌+◌, ◌-◌, ◌*◌, ◌/◌, ℕ, zero, suc, Bool, true, false, List, refl, arith, cond, subst, sym, ap, ◌∙◌, ◌⊎◌, inl, inr}
use Rattle.std.specs.Prelude.{Option, Some, None, is_some, slice_get, ℤ, pos, int_lt, max, min, ◌==◌, ◌&&◌, ◌||◌}
use Rattle.std.proofs.lemmas.Bool.{and_from}
use Rattle.sched_base.specs.Numbers.{moment}
use Rattle.sched_base.specs.Credit2Numbers.{called_resets, raised_credit, slice_length, positive_part, undivided_charge}
use Rattle.sched_base.specs.declared.Moment.{Moment}
use Rattle.sched_base.specs.declared.UnitId.{UnitId}
use Rattle.sched_base.proofs.Bools.{or_left, or_more}
use Rattle.sched_model.specs.declared.ask.Ask.{Ask}
use Rattle.sched_model.specs.declared.state.Credit2Domain.{Credit2Domain}
use Rattle.sched_model.specs.declared.state.Credit2Records.{Credit2Records}
use Rattle.sched_model.specs.declared.state.Credit2Unit.{Credit2Unit}
use Rattle.sched_model.specs.declared.state.Records.TheVariants.{Credit2Pool}
use Rattle.sched_model.specs.declared.state.Scheduler.{Scheduler}
use Rattle.sched_model.specs.Credit2.{best_other_credit, change_domain, chosen_slice, credit2_candidate, credit2_choice, credit2_decision, credit2_decision_for, domain_after_take, has_domain_budget, is_rate_limited, most_weight, off_records, own_burned_records, reset_count, reset_records, richest_unit, running_records, unit_credit}
use Rattle.sched_model.specs.EligibleUnits.{eligible_units, has_cap_budget, is_unit_allowed, is_unit_eligible}
use Rattle.sched_model.specs.Places.{at_place, has_listed_unit, is_unit, same_unit}
use Rattle.sched_laws.proofs.Choices.{same_unit_same}
use Rattle.sched_laws.proofs.Counts.{same_unit_other}
use Rattle.sched_laws.proofs.EachPlace.{by_option, by_cond}
use Rattle.record_laws.specs.Decisions.{resets_for}
use Rattle.record_laws.proofs.Best.{is_best}
use Rattle.record_laws.proofs.Credit2Seen.{decided_records, records_decided, taken_limit, taken_records}
use Rattle.record_laws.proofs.Orders.{credit_order, greatest_scan}
use Rattle.moment_laws.proofs.Credit2Numbers.{lt_irrefl}
use Rattle.moment_laws.proofs.Waiting.{filter_has}
use Rattle.share_laws.proofs.Numbers.{Has, burned_has, called_low, charge_less, charge_more, less_not, raised_has, raised_uncut, residual_low, slice_most}
use Rattle.share_laws.proofs.Records.{IsCharged, Sees, sees_off, sees_on, sees_reset, sees_still, sees_taken}

-- the unit paid for the time for which it ran, and perhaps more; and no more than for that
pub record PaysAll (most given w ran : ℕ) (x : Credit2Unit) : Type 0 where
  pub paid : ℕ
  pub has : Has x.credit given paid
  pub low : x.residual < w
  pub least : most * ran ≤ w * paid + x.residual

pub record PaysNoMore (most given w ran : ℕ) (x : Credit2Unit) : Type 0 where
  pub paid : ℕ
  pub has : Has x.credit given paid
  pub low : x.residual < w
  pub most_paid : w * paid + x.residual ≤ most * ran

-- a charge for a span
pub all_charged : (most given w ran t from : ℕ) (x y : Credit2Unit) → 0 < w → IsCharged most w t from x y → PaysAll most given w ran x → PaysAll most given w (ran + (t - from)) y
all_charged most given w ran t from x y some charged here = record {
  paid = here.paid + undivided_charge x.residual most (t - from) / w;
  has = charged.credit ∙ burned_has x.credit given here.paid x.residual w most (t - from) here.has;
  low = (let e = charged.residual in let l = residual_low x.residual w most (t - from) some in subst (λ k. k < w) (sym e) l);
  least = subst (λ k. most * (ran + (t - from)) ≤ w * (here.paid + undivided_charge x.residual most (t - from) / w) + k) (sym charged.residual) (charge_more here.paid x.residual w most (t - from) ran here.least);
}

pub no_more_charged : (most given w ran t from : ℕ) (x y : Credit2Unit) → 0 < w → IsCharged most w t from x y → PaysNoMore most given w ran x → PaysNoMore most given w (ran + (t - from)) y
no_more_charged most given w ran t from x y some charged here = record {
  paid = here.paid + undivided_charge x.residual most (t - from) / w;
  has = charged.credit ∙ burned_has x.credit given here.paid x.residual w most (t - from) here.has;
  low = (let e = charged.residual in let l = residual_low x.residual w most (t - from) some in subst (λ k. k < w) (sym e) l);
  most_paid = subst (λ k. w * (here.paid + undivided_charge x.residual most (t - from) / w) + k ≤ most * (ran + (t - from))) (sym charged.residual) (charge_less here.paid x.residual w most (t - from) ran here.most_paid);
}

-- k resets at once
abbrev pub raise_by : ℕ → ℤ → ℤ
raise_by zero credit = credit
raise_by (suc k) credit = raised_credit credit (suc k)

plus_none : (given : ℕ) → given ≡ given + 0 * 10000000
plus_none given = omega arith

raise_has : (credit : ℤ) (given paid k : ℕ) → Has credit given paid → (more : ℕ) × (paid ≤ more) × Has (raise_by k credit) (given + k * 10000000) more
raise_has credit given paid zero has = (paid, omega arith, subst (λ g. Has credit g paid) (plus_none given) has)
raise_has credit given paid (suc k) has = raised_has credit given paid (suc k) has

raise_uncut : (credit : ℤ) (given paid k : ℕ) → Has credit given paid → (k ≡ 0) ⊎ (given + k * 10000000 ≤ paid + 10500000) → Has (raise_by k credit) (given + k * 10000000) paid
raise_uncut credit given paid zero has low = subst (λ g. Has credit g paid) (plus_none given) has
raise_uncut credit given paid (suc k) has (inl none) = absurd (omega (arith, none))
raise_uncut credit given paid (suc k) has (inr low) = raised_uncut credit given paid (suc k) has low

-- the record y is x with k resets
pub record IsRaised (k : ℕ) (x y : Credit2Unit) : Type 0 where
  pub credit : y.credit ≡ raise_by k x.credit
  pub residual : y.residual ≡ x.residual

all_raised : (most given w ran k : ℕ) (x y : Credit2Unit) → IsRaised k x y → PaysAll most given w ran x → PaysAll most (given + k * 10000000) w ran y
all_raised most given w ran k x y raised here =
    let r = raise_has x.credit given here.paid k here.has in
    record {
      paid = r.0;
      has = raised.credit ∙ r.2;
      low = subst (λ n. n < w) (sym raised.residual) here.low;
      least = subst (λ n. most * ran ≤ w * r.0 + n) (sym raised.residual) (more r.0 here.paid x.residual here.least r.1);
    }
  where
    more : (p q residual : ℕ) → most * ran ≤ w * q + residual → q ≤ p → most * ran ≤ w * p + residual
    more p q residual less up = (let a : w * q ≤ w * p = mul_up w q p up in omega (arith, less, a))
      where
        mul_up : (a b c : ℕ) → b ≤ c → a * b ≤ a * c
        mul_up a b c up = grind (arith, up)

no_more_raised : (most given w ran k : ℕ) (x y : Credit2Unit) (here : PaysNoMore most given w ran x) → (k ≡ 0) ⊎ (given + k * 10000000 ≤ here.paid + 10500000) → IsRaised k x y → PaysNoMore most (given + k * 10000000) w ran y
no_more_raised most given w ran k x y here uncut raised = record {
  paid = here.paid;
  has = raised.credit ∙ raise_uncut x.credit given here.paid k here.has uncut;
  low = subst (λ n. n < w) (sym raised.residual) here.low;
  most_paid = subst (λ n. w * here.paid + n ≤ most * ran) (sym raised.residual) here.most_paid;
}

-- a resetting leaves who runs, and raises the credit
after_resets : (t k : ℕ) (records : Credit2Records) (u : UnitId) (w : ℕ) (x : Credit2Unit) → (x.burned ≡ None) ⊎ ((x.burned ≡ Some t) × (x.residual < w)) → Sees records u w x → (y : Credit2Unit) × Sees (reset_records t k records) u w y × IsRaised k x y × (y.burned ≡ x.burned)
after_resets t zero records u w x still here = (x, here, record { credit = refl; residual = refl }, refl)
after_resets t (suc k) records u w x still here = (record x { credit = raised_credit x.credit (suc k) }, sees_reset t k records u w x still here, record { credit = refl; residual = refl }, refl)

module _ (ask : Ask) (scheduler : Scheduler) (records : Credit2Records) where
  abbrev pub t : ℕ
  t = ask.at.0

  -- the records once the core's own unit was charged
  abbrev pub charged_records : Credit2Records
  charged_records = own_burned_records ask.cur ask.at.0 records

  abbrev own : Option UnitId
  own = credit2_candidate ask scheduler charged_records

  abbrev waiting : List UnitId
  waiting = eligible_units (record scheduler { records = Credit2Pool charged_records }) ask.home.0 ask.core.0 ask.at.0

  abbrev pub chosen : Option UnitId
  chosen = credit2_choice ask scheduler charged_records

  -- the core's own unit is kept because it ran for less than the rate limit
  abbrev pub is_kept : Bool
  is_kept = is_some own && is_rate_limited charged_records ask.since.0 ask.at.0

  abbrev pub resets : Option UnitId → ℕ
  resets = resets_for ask.at.0 charged_records

  abbrev pub then : Option UnitId → Credit2Records
  then = decided_records ask records

  pub records_then : (credit2_decision ask scheduler records).records ≡ Credit2Pool (then chosen)
  records_then = records_decided ask records scheduler chosen

  pub unit_then : (credit2_decision ask scheduler records).unit ≡ chosen
  unit_then = by_choice chosen
    where
      by_choice : (o : Option UnitId) → (credit2_decision_for ask scheduler charged_records o).unit ≡ o
      by_choice None = refl
      by_choice (Some q) = refl

  slice_low : (rs : Credit2Records) (q : UnitId) → chosen_slice ask scheduler rs q ≤ max 10000000 (rs.limit * 1000)
  slice_low rs q =
      let S : ℕ = max 10000000 (rs.limit * 1000) in
      by_option (λ k. k ≤ S) (at_place rs.domains q.dom.0) 0 _ (λ none. omega arith)
      (λ d at. by_option (λ k. k ≤ S) (slice_get d.units q.n) 0 _ (λ none. omega arith)
      (λ x get.
      let long : ℕ = slice_length x.credit (best_other_credit ask scheduler rs q) d.weight (most_weight rs) (rs.limit * 1000) in
      let top : long ≤ S = slice_most x.credit (best_other_credit ask scheduler rs q) d.weight (most_weight rs) (rs.limit * 1000) in
      by_cond (λ k. k ≤ S) (d.cap == 0) long (min long (positive_part x.held)) (λ is. top) (λ is. lesser long (positive_part x.held) S top)))
    where
      lesser : (a b c : ℕ) → a ≤ c → min a b ≤ c
      lesser a b c top = omega (arith, top)

  -- a chosen unit asks again after the longest slice at the latest
  pub due_then : (q : UnitId) → chosen ≡ Some q → (due : Moment) × ((credit2_decision ask scheduler records).due ≡ Some due) × (due.0 ≤ ask.at.0 + max 10000000 (records.limit * 1000))
  due_then q is = subst (λ (o : Option UnitId). (due : Moment) × ((credit2_decision_for ask scheduler charged_records o).due ≡ Some due) × (due.0 ≤ ask.at.0 + max 10000000 (records.limit * 1000))) (sym is) some
    where
      low : chosen_slice ask scheduler (taken_records ask records q) q ≤ max 10000000 (records.limit * 1000)
      low = subst (λ k. chosen_slice ask scheduler (taken_records ask records q) q ≤ max 10000000 (k * 1000)) (taken_limit ask records q) (slice_low (taken_records ask records q) q)

      some : (due : Moment) × ((credit2_decision_for ask scheduler charged_records (Some q)).due ≡ Some due) × (due.0 ≤ ask.at.0 + max 10000000 (records.limit * 1000))
      some = (moment (ask.at.0 + chosen_slice ask scheduler (taken_records ask records q) q), refl, (let l = low in omega (arith, l)))

  -- what is left of a unit's record
  pub sees_then : (o : Option UnitId) (u : UnitId) (w : ℕ) (x : Credit2Unit) → x.residual < w → ((ask.cur ≡ Some u) × (x.burned ≡ Some ask.at.0)) ⊎ (x.burned ≡ None) → Sees charged_records u w x
      → (y : Credit2Unit) × Sees (then o) u w y × IsRaised (resets o) x y × (y.burned ≡ cond (is_unit o u) (Some ask.at.0) None)
  sees_then None u w x low runs here =
      let off = sees_off ask.cur charged_records u w x (elim runs [ inl own_unit ↦ inl own_unit.0 | inr none ↦ inr none ]) here in
      (off.0, off.1, record { credit = off.2.credit; residual = off.2.residual }, off.2.burned)
  sees_then (Some q) u w x low runs here =
      let k : ℕ = reset_count ask.at.0 q charged_records in
      let reset = after_resets ask.at.0 k charged_records u w x (elim runs [ inl own_unit ↦ inr (own_unit.1, low) | inr none ↦ inl none ]) here in
      let taken : Credit2Records = change_domain q.dom.0 (domain_after_take q.n) (reset_records ask.at.0 k charged_records) in
      let off = sees_off ask.cur taken u w reset.0 (elim runs [ inl own_unit ↦ inl own_unit.0 | inr none ↦ inr (reset.3 ∙ none) ]) (sees_taken q (reset_records ask.at.0 k charged_records) u w reset.0 reset.1) in
      let raised : (y : Credit2Unit) → y.credit ≡ off.0.credit → y.residual ≡ off.0.residual → IsRaised k x y = λ y c r. record { credit = c ∙ off.2.credit ∙ reset.2.credit; residual = r ∙ off.2.residual ∙ reset.2.residual } in
      elim (same_unit q u) as (λ b. same_unit q u ≡ b → (y : Credit2Unit) × Sees (running_records (Some ask.at.0) q (off_records ask.cur taken)) u w y × IsRaised k x y × (y.burned ≡ cond b (Some ask.at.0) None)) [
        | true ↦ λ is. (
            let on = sees_on ask.at.0 (off_records ask.cur taken) u w off.0 off.1 in
            (on.0, subst (λ (v : UnitId). Sees (running_records (Some ask.at.0) v (off_records ask.cur taken)) u w on.0) (sym (same_unit_same q u is)) on.1, raised on.0 on.2.credit on.2.residual, on.2.burned))
        | false ↦ λ is. (off.0, sees_still ask.at.0 q (off_records ask.cur taken) u w off.0 (same_unit_other q u is) off.1, raised off.0 refl refl, off.2.burned)
      ] refl

  -- whom it chooses, where the rate limit keeps nobody
  choice_is : ask.leaving ≡ false → is_kept ≡ false → chosen ≡ richest_unit charged_records own waiting
  choice_is stays none =
      ap (λ b. cond b None (cond is_kept own (richest_unit charged_records own waiting))) stays ∙ ap (λ b. cond b own (richest_unit charged_records own waiting)) none

  -- the unit may be chosen
  pub record MayBeChosen (v : UnitId) : Type 0 where
    pub allowed : is_unit_allowed scheduler ask.home.0 ask.core.0 v ≡ true
    pub place : ((ask.cur ≡ Some v) × (ask.runnable ≡ true)) ⊎ (has_listed_unit scheduler.queue v ≡ true)

  budget : (v : UnitId) (w : ℕ) (x : Credit2Unit) → Sees charged_records v w x → has_domain_budget charged_records v ≡ true
  budget v w x here = ap (λ (o : Option Credit2Domain). elim o as (λ _. Bool) [ None ↦ false | Some d ↦ has_cap_budget d ]) here.at ∙ or_more (here.domain.cap == 0) _ (is_zero here.domain.cap here.cap)
    where
      is_zero : (n : ℕ) → n ≡ 0 → (n == 0) ≡ true
      is_zero n is = grind (arith, is)

  -- the choice has no less credit than a unit that may be chosen
  pub not_poorer : (z v : UnitId) (w : ℕ) (x : Credit2Unit) → ask.leaving ≡ false → is_kept ≡ false → chosen ≡ Some z → MayBeChosen v → Sees charged_records v w x → int_lt (unit_credit charged_records z) (unit_credit charged_records v) ≡ false
  not_poorer z v w x stays none is may here =
      let best = is_best (credit_order charged_records) (greatest_scan charged_records) own waiting z (sym (choice_is stays none) ∙ is) in
      let has = budget v w x here in
      elim may.place [
        | inl cur ↦ (
            let mine : own ≡ Some v = ap (λ (o : Option UnitId). elim o as (λ _. Option UnitId) [ None ↦ None | Some u ↦ cond (ask.runnable && is_unit_allowed scheduler ask.home.0 ask.core.0 u && has_domain_budget charged_records u) (Some u) None ]) cur.0
            ∙ ap (λ b. cond b (Some v) None) (and_from (ask.runnable && is_unit_allowed scheduler ask.home.0 ask.core.0 v) (has_domain_budget charged_records v) (and_from ask.runnable (is_unit_allowed scheduler ask.home.0 ask.core.0 v) cur.1 may.allowed) has) in
            elim (best.over v mine) [
              | inl same ↦ subst (λ (y : UnitId). int_lt (unit_credit charged_records y) (unit_credit charged_records v) ≡ false) (sym same) (lt_irrefl (unit_credit charged_records v))
              | inr above ↦ less_not (unit_credit charged_records z) (unit_credit charged_records v) above
            ])
        | inr queued ↦ best.none_better v (filter_has (is_unit_eligible (record scheduler { records = Credit2Pool charged_records }) ask.home.0 ask.core.0 ask.at.0) scheduler.queue v queued
            (and_from (is_unit_allowed scheduler ask.home.0 ask.core.0 v) (has_domain_budget charged_records v) may.allowed has))
      ]

  -- so nothing of its credit is cut
  pub uncut : (o : Option UnitId) (v : UnitId) (given paid : ℕ) → Has (unit_credit charged_records v) given paid → ((z : UnitId) → o ≡ Some z → int_lt (unit_credit charged_records z) (unit_credit charged_records v) ≡ false)
      → (resets o ≡ 0) ⊎ (given + resets o * 10000000 ≤ paid + 10500000)
  uncut None v given paid has less = inl refl
  uncut (Some z) v given paid has less =
      let credit : ℤ = unit_credit charged_records z in
      let spared : Bool = elim charged_records.last_reset as (λ _. Bool) [ None ↦ false | Some at ↦ at == ask.at.0 ] in
      by_cond (λ k. (k ≡ 0) ⊎ (given + k * 10000000 ≤ paid + 10500000)) (int_lt (pos 0) credit || spared) 0 (called_resets credit) (λ is. inl refl)
      (λ is. inr (let low = called_low credit (unit_credit charged_records v) given paid has (less z refl) (or_left (int_lt (pos 0) credit) spared is) in below (given + called_resets credit * 10000000) low))
    where
      below : (a : ℕ) → a ≤ paid + 10000000 → a ≤ paid + 10500000
      below a low = omega (arith, low)

  -- the accounts after it
  pub all_then : (o : Option UnitId) (most given w ran : ℕ) (x y : Credit2Unit) → IsRaised (resets o) x y → PaysAll most given w ran x → PaysAll most (given + resets o * 10000000) w ran y
  all_then o most given w ran x y raised here = all_raised most given w ran (resets o) x y raised here

  pub no_more_then : (o : Option UnitId) (most given w ran : ℕ) (x y : Credit2Unit) (here : PaysNoMore most given w ran x) → (resets o ≡ 0) ⊎ (given + resets o * 10000000 ≤ here.paid + 10500000) → IsRaised (resets o) x y → PaysNoMore most (given + resets o * 10000000) w ran y
  no_more_then o most given w ran x y here low raised = no_more_raised most given w ran (resets o) x y here low raised
