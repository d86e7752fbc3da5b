-- What the steps of Credit2 make of a word on whether a unit is on.
use Rattle.std.proofs.Common.{◌≡◌, ℕ, zero, suc, Bool, false, List, refl, ap, sym, ◌∙◌, cond}
use Rattle.std.specs.Prelude.{Option, Some, None, is_some, slice_get, map, ◌==◌}
use Rattle.sched_base.specs.Credit2Numbers.{raised_credit}
use Rattle.sched_base.specs.declared.UnitId.{UnitId}
use Rattle.sched_model.specs.declared.state.Credit2Unit.{Credit2Unit}
use Rattle.sched_model.specs.declared.state.Credit2Domain.{Credit2Domain}
use Rattle.sched_model.specs.declared.state.Credit2Records.{Credit2Records}
use Rattle.sched_model.specs.Places.{change_item, same_unit, is_unit}
use Rattle.sched_model.specs.Credit2.{most_weight, burned_unit, burned_domain, change_domain, change_unit, burn_all, domain_after_return, own_burned_records, reset_records, domain_after_take, running_records, off_records, domain_after_refill, refilled_pool, domain_with_weight, domain_with_cap, records_with_terms}
use Rattle.sched_laws.proofs.EachPlace.{by_option, by_cond}
use Rattle.sched_laws.proofs.Lists.{test_at-change_at}
use Rattle.policy_laws.proofs.OneUnit.{test_item, test_unit, test_item-change_item, test_item-change_to, test_item-map, test_unit-change, test_unit-change_each}

-- a unit that was charged is as much on as before
burned_on : (most t : ℕ) (d : Credit2Domain) (x : Credit2Unit) → is_some (burned_unit most t d x).burned ≡ is_some x.burned
burned_on most t d x = by_option (λ (y : Credit2Unit). is_some y.burned ≡ is_some x.burned) x.burned x _ (λ is. refl) (λ from is. ap is_some (sym is))

abbrev pub units_in : Credit2Domain → List Credit2Unit
units_in d = d.units

-- a word on whether the unit is on, of one that has a record
abbrev pub credit2_word : (Bool → Bool) → Credit2Records → UnitId → Bool
credit2_word says records w = test_unit units_in records.domains w (λ x. says (is_some x.burned))

module _ (says : Bool → Bool) (w : UnitId) where
  abbrev word : Credit2Unit → Bool
  word x = says (is_some x.burned)

  abbrev Same : Credit2Domain → Credit2Domain → Type 0
  Same d e = test_item e.units w.n word ≡ test_item d.units w.n word

  -- changes of the units of one domain that leave each on or off
  same_item : (i : ℕ) (f : Credit2Unit → Credit2Unit) (d : Credit2Domain) → ((x : Credit2Unit) → is_some (f x).burned ≡ is_some x.burned) → Same d (record d { units = change_item i f d.units })
  same_item i f d on = test_item-change_item i w.n f word d.units (λ x. ap says (on x))

  same_map : (f : Credit2Unit → Credit2Unit) (d : Credit2Domain) → ((x : Credit2Unit) → is_some (f x).burned ≡ is_some x.burned) → Same d (record d { units = map f d.units })
  same_map f d on = test_item-map w.n f word d.units (λ x. ap says (on x))

  same_given : (n : ℕ) (d : Credit2Domain) → Same d (domain_after_return n d)
  same_given n d = by_option (Same d) (slice_get d.units n) d _ (λ is. refl) (λ u is. same_item n _ d (λ x. refl))

  same_weighed : (weight : Option ℕ) (d : Credit2Domain) → Same d (domain_with_weight weight d)
  same_weighed None d = refl
  same_weighed (Some weight) d = same_map _ d (λ x. refl)

  same_capped : (most t : ℕ) (percent : Option ℕ) (d : Credit2Domain) → Same d (domain_with_cap most t percent d)
  same_capped most t None d = refl
  same_capped most t (Some percent) d = same_map _ (burned_domain most t d) (λ x. refl) ∙ same_map (burned_unit most t d) d (burned_on most t d)

  -- the same of the records
  kept_domain : (i : ℕ) (f : Credit2Domain → Credit2Domain) (records : Credit2Records) → ((d : Credit2Domain) → Same d (f d)) → credit2_word says (change_domain i f records) w ≡ credit2_word says records w
  kept_domain i f records same = test_at-change_at i w.dom.0 f (λ d. test_item d.units w.n word) records.domains same

  pub kept_burn_cur : (cur : Option UnitId) (t : ℕ) (records : Credit2Records) → credit2_word says (own_burned_records cur t records) w ≡ credit2_word says records w
  kept_burn_cur None t records = refl
  kept_burn_cur (Some u) t records =
      let most : ℕ = most_weight records in
      let burned : Credit2Records = change_unit u (burned_unit most t) records in
      kept_domain u.dom.0 (λ d. cond (d.cap == 0) d (domain_after_return u.n d)) burned (λ d. by_cond (Same d) (d.cap == 0) d (domain_after_return u.n d) (λ is. refl) (λ is. same_given u.n d))
      ∙ kept_domain u.dom.0 (λ d. record d { units = change_item u.n (burned_unit most t d) d.units }) records (λ d. same_item u.n (burned_unit most t d) d (burned_on most t d))

  kept_burn_all : (t : ℕ) (records : Credit2Records) → credit2_word says (burn_all t records) w ≡ credit2_word says records w
  kept_burn_all t records = test_unit-change_each units_in (λ n d. burned_domain (most_weight records) t d) records.domains w word (λ n d. same_map (burned_unit (most_weight records) t d) d (burned_on (most_weight records) t d))

  pub kept_reset : (t m : ℕ) (records : Credit2Records) → credit2_word says (reset_records t m records) w ≡ credit2_word says records w
  kept_reset t zero records = refl
  kept_reset t (suc m) records =
      let raised : Credit2Unit → Credit2Unit = λ (x : Credit2Unit). record x { credit = raised_credit x.credit (suc m) } in
      test_unit-change_each units_in (λ n d. record d { units = map raised d.units }) (burn_all t records).domains w word (λ n d. same_map raised d (λ x. refl)) ∙ kept_burn_all t records

  pub kept_take : (u : UnitId) (records : Credit2Records) → credit2_word says (change_domain u.dom.0 (domain_after_take u.n) records) w ≡ credit2_word says records w
  kept_take u records = kept_domain u.dom.0 (domain_after_take u.n) records (λ d. by_cond (Same d) (d.cap == 0) d _ (λ is. refl) (λ is. same_item u.n _ d (λ x. refl)))

  pub kept_refilled : (t i : ℕ) (records : Credit2Records) → credit2_word says (refilled_pool t i records) w ≡ credit2_word says records w
  kept_refilled t i records =
      let most : ℕ = most_weight records in
      kept_domain i (domain_after_refill most t) records (λ d. same_map (burned_unit most t d) d (burned_on most t d))

  pub kept_set_domain : (t i : ℕ) (weight percent : Option ℕ) (records : Credit2Records) → credit2_word says (records_with_terms t i weight percent records) w ≡ credit2_word says records w
  kept_set_domain t i weight percent records =
      let weighted : Credit2Records = change_domain i (domain_with_weight weight) records in
      kept_domain i (domain_with_cap (most_weight weighted) t percent) weighted (same_capped (most_weight weighted) t percent) ∙ kept_domain i (domain_with_weight weight) records (same_weighed weight)

  -- the unit runs from a moment, or runs no more
  pub word_running : (from : Option ℕ) (u : UnitId) (records : Credit2Records)
      → credit2_word says (running_records from u records) w ≡ cond (same_unit u w) (credit2_word (λ on. says (is_some from)) records w) (credit2_word says records w)
  word_running from u records =
      let runs : Credit2Unit → Credit2Unit = λ (x : Credit2Unit). record x { burned = from } in
      test_unit-change units_in u w (λ d. record d { units = change_item u.n runs d.units }) word (λ x. says (is_some from)) records.domains (λ d. test_item-change_to u.n w.n runs word (λ x. says (is_some from)) d.units (λ x. refl))

  pub word_off : (cur : Option UnitId) (records : Credit2Records) → credit2_word says (off_records cur records) w ≡ cond (is_unit cur w) (credit2_word (λ on. says false) records w) (credit2_word says records w)
  word_off None records = refl
  word_off (Some u) records = word_running None u records
