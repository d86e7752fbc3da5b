-- What the steps of RTDS make of a word on whether a unit is on.
use Rattle.std.proofs.Common.{◌≡◌, ℕ, Bool, false, List, refl, ap, cond}
use Rattle.std.specs.Prelude.{Option, Some, None, is_some}
use Rattle.sched_base.specs.declared.UnitId.{UnitId}
use Rattle.sched_model.specs.declared.state.RtdsUnit.{RtdsUnit}
use Rattle.sched_model.specs.Places.{change_item, same_unit, is_unit}
use Rattle.sched_model.specs.Rtds.{unit_burned_to, own_burned_domains, unit_after_replenish, change_unit, running_domains, off_domains}
use Rattle.sched_laws.proofs.Lists.{test_at-change_at}
use Rattle.sched_laws.proofs.RtdsUnits.{burned_on}
use Rattle.policy_laws.proofs.OneUnit.{test_item, test_unit, test_item-change_item, test_item-change_to, test_unit-change}

abbrev pub units_in : List RtdsUnit → List RtdsUnit
units_in units = units

-- a word on whether the unit is on, of one that has a record
abbrev pub rtds_word : (Bool → Bool) → List (Option (List RtdsUnit)) → UnitId → Bool
rtds_word says domains w = test_unit units_in domains w (λ x. says (is_some x.burned))

module _ (says : Bool → Bool) (w : UnitId) where
  -- a change of a unit that leaves it on or off
  pub kept_unit : (u : UnitId) (f : RtdsUnit → RtdsUnit) (domains : List (Option (List RtdsUnit))) → ((x : RtdsUnit) → is_some (f x).burned ≡ is_some x.burned) → rtds_word says (change_unit u f domains) w ≡ rtds_word says domains w
  kept_unit u f domains on =
      test_at-change_at u.dom.0 w.dom.0 (change_item u.n f) (λ units. test_item units w.n (λ x. says (is_some x.burned))) domains (λ units. test_item-change_item u.n w.n f (λ x. says (is_some x.burned)) units (λ x. ap says (on x)))

  pub kept_burn_cur : (cur : Option UnitId) (t : ℕ) (domains : List (Option (List RtdsUnit))) → rtds_word says (own_burned_domains cur t domains) w ≡ rtds_word says domains w
  kept_burn_cur None t domains = refl
  kept_burn_cur (Some u) t domains = kept_unit u (unit_burned_to t) domains (burned_on t)

  pub kept_replenished : (t : ℕ) (u : UnitId) (domains : List (Option (List RtdsUnit))) → rtds_word says (change_unit u (unit_after_replenish t) domains) w ≡ rtds_word says domains w
  kept_replenished t u domains = kept_unit u (unit_after_replenish t) domains (burned_on t)

  -- the unit runs from a moment, or runs no more
  pub word_running : (from : Option ℕ) (u : UnitId) (domains : List (Option (List RtdsUnit))) → rtds_word says (running_domains from u domains) w ≡ cond (same_unit u w) (rtds_word (λ on. says (is_some from)) domains w) (rtds_word says domains w)
  word_running from u domains =
      let runs : RtdsUnit → RtdsUnit = λ (x : RtdsUnit). record x { burned = from } in
      test_unit-change units_in u w (change_item u.n runs) (λ x. says (is_some x.burned)) (λ x. says (is_some from)) domains (λ units. test_item-change_to u.n w.n runs (λ x. says (is_some x.burned)) (λ x. says (is_some from)) units (λ x. refl))

  pub word_off : (cur : Option UnitId) (domains : List (Option (List RtdsUnit))) → rtds_word says (off_domains cur domains) w ≡ cond (is_unit cur w) (rtds_word (λ on. says false) domains w) (rtds_word says domains w)
  word_off None domains = refl
  word_off (Some u) domains = word_running None u domains
