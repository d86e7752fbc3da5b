-- What each step of a decision keeps of one domain, its decision keeps; and what every decision leaves.
use Rattle.std.proofs.Common.{◌≡◌, ◌<◌, ℕ, zero, suc, List, refl, arith, sym, ◌∙◌, subst, length}
use Rattle.std.specs.Prelude.{Option, Some, None, slice_get, map, ◌==◌}
use Rattle.std.proofs.lemmas.List.{length-map}
use Rattle.sched_base.specs.Credit2Numbers.{raised_credit}
use Rattle.sched_base.specs.declared.UnitId.{UnitId}
use Rattle.sched_model.specs.declared.ask.Ask.{Ask}
use Rattle.sched_model.specs.declared.state.Credit2Unit.{Credit2Unit}
use Rattle.sched_model.specs.declared.state.Credit2Domain.{Credit2Domain}
use Rattle.sched_model.specs.declared.state.Credit2Records.{Credit2Records}
use Rattle.sched_model.specs.Places.{change_item}
use Rattle.sched_model.specs.EligibleUnits.{has_cap_budget}
use Rattle.sched_model.specs.Credit2.{off_records, most_weight, burned_unit, burned_domain, domain_after_return, domain_after_take, own_burned_records, reset_count}
use Rattle.sched_laws.specs.EachPlace.{EachAt}
use Rattle.sched_laws.proofs.EachPlace.{EachAt-change_each, by_cond, by_option}
use Rattle.sched_laws.proofs.Lists.{length_change_item}
use Rattle.record_laws.specs.Decisions.{number_in, own_charged, was_reset, has_taken, now_from, taken_domain, chosen_domain, resets_for, decided_domain}
use Rattle.record_laws.proofs.Credit2Seen.{burn_is, most_stays, ran_by, ran_by_is, idle_is, decided_records, decided_domains, most_each}

-- the domain's unit i runs from a moment on, or no more
abbrev pub unit_from : Option ℕ → ℕ → Credit2Domain → Credit2Domain
unit_from from i x = record x { units = change_item i (λ (y : Credit2Unit). record y { burned = from }) x.units }

abbrev pub unit_charged : ℕ → ℕ → ℕ → Credit2Domain → Credit2Domain
unit_charged most t i x = record x { units = change_item i (burned_unit most t x) x.units }

abbrev pub units_raised : ℕ → Credit2Domain → Credit2Domain
units_raised k x = record x { units = map (λ (y : Credit2Unit). record y { credit = raised_credit y.credit k }) x.units }

-- P is kept by each step on a domain of which the core had the unit `had` and takes the unit `has`, where the pool has k resets at once
-- and `most` is its greatest weight
pub record KeptByCharges (most t k : ℕ) (had has : Option ℕ) (P : Credit2Domain → Type 0) : Type 0 where
  pub charges : (i : ℕ) (x : Credit2Domain) → had ≡ Some i → P x → P (unit_charged most t i x)
  pub gives : (i : ℕ) (x : Credit2Domain) → had ≡ Some i → P x → P (domain_after_return i x)
  pub burns : (x : Credit2Domain) → 0 < k → P x → P (burned_domain most t x)
  pub raises : (x : Credit2Domain) → 0 < k → P x → P (units_raised k x)
  pub takes : (j : ℕ) (x : Credit2Domain) → has ≡ Some j → P x → P (domain_after_take j x)
  pub stops : (i : ℕ) (x : Credit2Domain) → had ≡ Some i → P x → P (unit_from None i x)
  pub starts : (j : ℕ) (x : Credit2Domain) → has ≡ Some j → P x → P (unit_from (Some t) j x)

module _ (most most2 t k : ℕ) (had has : Option ℕ) (P : Credit2Domain → Type 0) (same : most2 ≡ most) (kept : KeptByCharges most t k had has P) (x : Credit2Domain) (p : P x) where
  own_kept : (o : Option ℕ) → had ≡ o → P (own_charged most t o x)
  own_kept None is = p
  own_kept (Some i) is =
      let burned : P (unit_charged most t i x) = kept.charges i x is p in
      by_cond P (x.cap == 0) (unit_charged most t i x) (domain_after_return i (unit_charged most t i x)) (λ free. burned) (λ capped. kept.gives i (unit_charged most t i x) is burned)

  reset_kept : (n : ℕ) → k ≡ n → (y : Credit2Domain) → P y → P (was_reset most2 t n y)
  reset_kept zero is y q = q
  reset_kept (suc n) is y q =
      let some : 0 < k = omega (arith, is) in
      subst (λ (w : ℕ). P (units_raised (suc n) (burned_domain w t y))) (sym same)
      (subst (λ (j : ℕ). P (units_raised j (burned_domain most t y))) is (kept.raises (burned_domain most t y) some (kept.burns y some q)))

  take_kept : (o : Option ℕ) → has ≡ o → (y : Credit2Domain) → P y → P (has_taken o y)
  take_kept None is y q = q
  take_kept (Some j) is y q = kept.takes j y is q

  on_kept : (o : Option ℕ) → has ≡ o → (y : Credit2Domain) → P y → P (now_from (Some t) o y)
  on_kept None is y q = q
  on_kept (Some j) is y q = kept.starts j y is q

  off_kept : (o : Option ℕ) → had ≡ o → (y : Credit2Domain) → P y → P (now_from None o y)
  off_kept None is y q = q
  off_kept (Some i) is y q = kept.stops i y is q

  pub domain_taken : P (taken_domain most most2 t k had has x)
  domain_taken = take_kept has refl _ (reset_kept k refl (own_charged most t had x) (own_kept had refl))

  pub domain_chosen : P (chosen_domain most most2 t k had has x)
  domain_chosen = on_kept has refl _ (off_kept had refl _ domain_taken)

-- what is kept of each domain where the unit u runs, after k resets, and where none does
module _ (t : ℕ) (cur : Option UnitId) (own : Credit2Records) (P : ℕ → Credit2Domain → Type 0) (each : EachAt P own.domains) where
  abbrev greatest : ℕ
  greatest = most_weight own

  abbrev Kept : ℕ → Option UnitId → Type 0
  Kept k chosen = (d : ℕ) → KeptByCharges greatest t k (number_in d cur) (number_in d chosen) (P d)

  abbrev stays : most_weight (own_burned_records cur t own) ≡ greatest
  stays = most_stays cur t own

  -- the charge of the core's own unit alone
  pub kept_by_burn : Kept 0 None → EachAt P (own_burned_records cur t own).domains
  kept_by_burn kept = subst (EachAt P) (sym (burn_is t cur own)) (EachAt-change_each P _ own.domains each (λ d x at p. own_kept greatest greatest t 0 (number_in d cur) None (P d) refl (kept d) x p (number_in d cur) refl))

  pub kept_by_run : (k : ℕ) (u : UnitId) → Kept k (Some u) → EachAt P (ran_by t cur own k u).domains
  kept_by_run k u kept =
      subst (EachAt P) (sym (ran_by_is t cur own k u))
      (EachAt-change_each P _ own.domains each (λ d x at p. domain_chosen greatest (most_weight (own_burned_records cur t own)) t k (number_in d cur) (number_in d (Some u)) (P d) stays (kept d) x p))

  pub kept_by_idle : Kept 0 None → EachAt P (off_records cur (own_burned_records cur t own)).domains
  kept_by_idle kept =
      subst (EachAt P) (sym (idle_is t cur own))
      (EachAt-change_each P _ own.domains each (λ d x at p. domain_chosen greatest (most_weight (own_burned_records cur t own)) t 0 (number_in d cur) None (P d) stays (kept d) x p))

-- and by a decision
module _ (ask : Ask) (own : Credit2Records) (P : ℕ → Credit2Domain → Type 0) where
  abbrev burned : Credit2Records
  burned = own_burned_records ask.cur ask.at.0 own

  pub kept_by_decisions : (chosen : Option UnitId) → ((d : ℕ) → KeptByCharges (most_weight own) ask.at.0 (resets_for ask.at.0 burned chosen) (number_in d ask.cur) (number_in d chosen) (P d)) → EachAt P own.domains → EachAt P (decided_records ask own chosen).domains
  kept_by_decisions None kept each = kept_by_idle ask.at.0 ask.cur own P each kept
  kept_by_decisions (Some u) kept each = kept_by_run ask.at.0 ask.cur own P each (reset_count ask.at.0 u burned) u kept

-- what no step touches
pub record Leaves (x y : Credit2Domain) : Type 0 where
  pub weight : y.weight ≡ x.weight
  pub cap : y.cap ≡ x.cap
  pub refill : y.refill ≡ x.refill
  pub count : length y.units ≡ length x.units

leaves_kept : (most t k : ℕ) (had has : Option ℕ) (x : Credit2Domain) → KeptByCharges most t k had has (Leaves x)
leaves_kept most t k had has x = record {
  charges = λ i y is old. with_units y _ (length_change_item i _ y.units) old;
  gives = λ i y is old. by_option (Leaves x) (slice_get y.units i) _ _ (λ none. old) (λ u at. record { weight = old.weight; cap = old.cap; refill = old.refill; count = length_change_item i _ y.units ∙ old.count });
  burns = λ y some old. with_units y _ (length-map y.units _) old;
  raises = λ y some old. with_units y _ (length-map y.units _) old;
  takes = λ j y is old. by_cond (Leaves x) (y.cap == 0) y _ (λ free. old) (λ capped. record { weight = old.weight; cap = old.cap; refill = old.refill; count = length_change_item j _ y.units ∙ old.count });
  stops = λ i y is old. with_units y _ (length_change_item i _ y.units) old;
  starts = λ j y is old. with_units y _ (length_change_item j _ y.units) old;
}
  where
    with_units : (y : Credit2Domain) (units : List Credit2Unit) → length units ≡ length y.units → Leaves x y → Leaves x (record y { units = units })
    with_units y units same old = record { weight = old.weight; cap = old.cap; refill = old.refill; count = same ∙ old.count }

pub leaves_taken : (most most2 t k : ℕ) (had has : Option ℕ) (x : Credit2Domain) → most2 ≡ most → Leaves x (taken_domain most most2 t k had has x)
leaves_taken most most2 t k had has x same = domain_taken most most2 t k had has (Leaves x) same (leaves_kept most t k had has x) x (record { weight = refl; cap = refl; refill = refl; count = refl })

pub leaves_chosen : (most most2 t k : ℕ) (had has : Option ℕ) (x : Credit2Domain) → most2 ≡ most → Leaves x (chosen_domain most most2 t k had has x)
leaves_chosen most most2 t k had has x same = domain_chosen most most2 t k had has (Leaves x) same (leaves_kept most t k had has x) x (record { weight = refl; cap = refl; refill = refl; count = refl })

pub leaves : (ask : Ask) (own : Credit2Records) (chosen : Option UnitId) (d : ℕ) (x : Credit2Domain) → Leaves x (decided_domain ask own chosen d x)
leaves ask own chosen d x =
    let burned : Credit2Records = own_burned_records ask.cur ask.at.0 own in
    leaves_chosen (most_weight own) (most_weight burned) ask.at.0 (resets_for ask.at.0 burned chosen) (number_in d ask.cur) (number_in d chosen) x (most_stays ask.cur ask.at.0 own)

pub most_decided : (ask : Ask) (own : Credit2Records) (chosen : Option UnitId) → most_weight (decided_records ask own chosen) ≡ most_weight own
most_decided ask own chosen = most_each own (decided_records ask own chosen) (decided_domain ask own chosen) (decided_domains ask own chosen) (λ d x. (leaves ask own chosen d x).weight)

-- a reset leaves whether a cap lets the domain run
pub reset_budget : (most t k : ℕ) (x : Credit2Domain) → has_cap_budget (was_reset most t k x) ≡ has_cap_budget x
reset_budget most t zero x = refl
reset_budget most t (suc k) x = refl
