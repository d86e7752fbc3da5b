-- The record of one unit of a Credit2 pool without caps, through the parts of a decision.
use Rattle.std.proofs.Common.{◌≡◌, ◌≢◌, ◌<◌, ◌+◌, ◌-◌, ℕ, suc, true, refl, arith, cond, subst, sym, ap, ◌∙◌, ◌⊎◌, inl, inr}
use Rattle.std.specs.Prelude.{Option, Some, None, option_map, map, slice_get, ◌==◌, ℤ, pos, ◌-ℤ◌}
use Rattle.std.proofs.Math.Decide.{ℕ_discrete}
use Rattle.std.proofs.lemmas.Option.{slice_get-map}
use Rattle.sched_base.specs.declared.UnitId.{UnitId}
use Rattle.sched_base.specs.Credit2Numbers.{burned_credit, burned_residual, raised_credit}
use Rattle.sched_model.specs.declared.state.Credit2Domain.{Credit2Domain}
use Rattle.sched_model.specs.declared.state.Credit2Records.{Credit2Records}
use Rattle.sched_model.specs.declared.state.Credit2Unit.{Credit2Unit}
use Rattle.sched_model.specs.Credit2.{burned_domain, burned_unit, change_domain, change_unit, domain_after_return, domain_after_take, most_weight, off_records, own_burned_records, reset_records, running_records, unit_credit}
use Rattle.sched_model.specs.Places.{at_place, change_at, change_each, change_item}
use Rattle.sched_model.proofs.PlaceLemmas.{at_place-change_at_other}
use Rattle.sched_laws.proofs.EachPlace.{at_place-change_at, at_place-change_each, by_cond}
use Rattle.sched_laws.proofs.Lists.{slice_get-change_item, slice_get-change_item_other}
use Rattle.sched_laws.proofs.OnePlace.{same_or_other}
use Rattle.moment_laws.proofs.Credit2Decision.{other_index}
use Rattle.moment_laws.proofs.Credit2Steps.{burn_same}

-- the unit has this record, in a domain of this weight without a cap
pub record Sees (records : Credit2Records) (u : UnitId) (w : ℕ) (x : Credit2Unit) : Type 0 where
  pub domain : Credit2Domain
  pub at : at_place records.domains u.dom.0 ≡ Some domain
  pub weight : domain.weight ≡ w
  pub cap : domain.cap ≡ 0
  pub get : slice_get domain.units u.n ≡ Some x

-- one domain changed
sees_domain : (e : ℕ) (f : Credit2Domain → Credit2Domain) (records : Credit2Records) (u : UnitId) (w : ℕ) (x y : Credit2Unit) → (here : Sees records u w x)
    → (u.dom.0 ≡ e → ((f here.domain).weight ≡ w) × ((f here.domain).cap ≡ 0) × (slice_get (f here.domain).units u.n ≡ Some y)) → (u.dom.0 ≢ e → x ≡ y) → Sees (change_domain e f records) u w y
sees_domain e f records u w x y here own other =
    elim (ℕ_discrete u.dom.0 e) [
      | yes same ↦ (
          let o = own same in
          record {
            domain = f here.domain;
            at = subst (λ k. at_place (change_at k f records.domains) u.dom.0 ≡ Some (f here.domain)) same (at_place-change_at u.dom.0 f records.domains ∙ ap (option_map f) here.at);
            weight = o.0;
            cap = o.1;
            get = o.2;
          })
      | no ne ↦ record { domain = here.domain; at = at_place-change_at_other e u.dom.0 f records.domains ne ∙ here.at; weight = here.weight; cap = here.cap; get = here.get ∙ ap (λ (z : Credit2Unit). Some z) (other ne) }
    ]

-- a domain that the change leaves as it is, since it has no cap
sees_uncapped : (e : ℕ) (f : Credit2Domain → Credit2Domain) (records : Credit2Records) (u : UnitId) (w : ℕ) (x : Credit2Unit) → ((d : Credit2Domain) → d.cap ≡ 0 → f d ≡ d) → Sees records u w x → Sees (change_domain e f records) u w x
sees_uncapped e f records u w x same here =
    sees_domain e f records u w x x here
    (λ is. (let s : f here.domain ≡ here.domain = same here.domain here.cap in
    (ap (λ (d : Credit2Domain). d.weight) s ∙ here.weight, ap (λ (d : Credit2Domain). d.cap) s ∙ here.cap, ap (λ (d : Credit2Domain). slice_get d.units u.n) s ∙ here.get)))
    (λ ne. refl)

-- the unit changed, and another one
pub sees_own : (f : Credit2Domain → Credit2Unit → Credit2Unit) (records : Credit2Records) (u : UnitId) (w : ℕ) (x : Credit2Unit) → (here : Sees records u w x) → Sees (change_unit u f records) u w (f here.domain x)
sees_own f records u w x here =
    sees_domain u.dom.0 (λ d. record d { units = change_item u.n (f d) d.units }) records u w x (f here.domain x) here
    (λ is. (here.weight, here.cap, slice_get-change_item u.n (f here.domain) here.domain.units ∙ ap (option_map (f here.domain)) here.get)) (λ ne. absurd (ne refl))

pub sees_other : (v : UnitId) (f : Credit2Domain → Credit2Unit → Credit2Unit) (records : Credit2Records) (u : UnitId) (w : ℕ) (x : Credit2Unit) → v ≢ u → Sees records u w x → Sees (change_unit v f records) u w x
sees_other v f records u w x other here =
    sees_domain v.dom.0 (λ d. record d { units = change_item v.n (f d) d.units }) records u w x x here
    (λ is. (here.weight, here.cap, slice_get-change_item_other v.n u.n (f here.domain) here.domain.units (other_index v u other (sym is)) ∙ here.get)) (λ ne. refl)

-- charging a unit that does not run, and one that runs
abbrev burn_from : ℕ → ℕ → Credit2Domain → Credit2Unit → Option ℕ → Credit2Unit
burn_from most t d x o =
    elim o as (λ _. Credit2Unit) [
      | None ↦ x
      | Some from ↦ record x {
        credit = burned_credit x.credit x.residual d.weight most (t - from);
        residual = burned_residual x.residual d.weight most (t - from);
        held = cond (d.cap == 0) x.held (x.held -ℤ pos (t - from));
        burned = Some t;
      }
    ]

burn_none : (most t : ℕ) (d : Credit2Domain) (x : Credit2Unit) → x.burned ≡ None → burned_unit most t d x ≡ x
burn_none most t d x none = ap (burn_from most t d x) none

-- what charging makes of a running unit
pub record IsCharged (most w t from : ℕ) (x y : Credit2Unit) : Type 0 where
  pub credit : y.credit ≡ burned_credit x.credit x.residual w most (t - from)
  pub residual : y.residual ≡ burned_residual x.residual w most (t - from)
  pub burned : y.burned ≡ Some t

burn_some : (most t from w : ℕ) (d : Credit2Domain) (x : Credit2Unit) → d.weight ≡ w → x.burned ≡ Some from → IsCharged most w t from x (burned_unit most t d x)
burn_some most t from w d x heavy is =
    let s : burned_unit most t d x ≡ burn_from most t d x (Some from) = ap (burn_from most t d x) is in
    record {
      credit = ap (λ (y : Credit2Unit). y.credit) s ∙ ap (λ k. burned_credit x.credit x.residual k most (t - from)) heavy;
      residual = ap (λ (y : Credit2Unit). y.residual) s ∙ ap (λ k. burned_residual x.residual k most (t - from)) heavy;
      burned = ap (λ (y : Credit2Unit). y.burned) s;
    }

is_zero : (n : ℕ) → n ≡ 0 → (n == 0) ≡ true
is_zero n is = grind (arith, is)

returned_same : (n : ℕ) (d : Credit2Domain) → d.cap ≡ 0 → cond (d.cap == 0) d (domain_after_return n d) ≡ d
returned_same n d free = ap (λ b. cond b d (domain_after_return n d)) (is_zero d.cap free)

taken_same : (n : ℕ) (d : Credit2Domain) → d.cap ≡ 0 → domain_after_take n d ≡ d
taken_same n d free = by_cond (λ (y : Credit2Domain). y ≡ d) (d.cap == 0) d _ (λ is. refl) (λ is. absurd (let zero_is = is_zero d.cap free in cc))

-- the core's own unit is charged
pub sees_charged : (t from : ℕ) (records : Credit2Records) (u : UnitId) (w : ℕ) (x : Credit2Unit) → x.burned ≡ Some from → Sees records u w x → (y : Credit2Unit) × Sees (own_burned_records (Some u) t records) u w y × IsCharged (most_weight records) w t from x y
sees_charged t from records u w x is here =
    let f : Credit2Domain → Credit2Unit → Credit2Unit = burned_unit (most_weight records) t in (
      f here.domain x,
      sees_uncapped u.dom.0 (λ d. cond (d.cap == 0) d (domain_after_return u.n d)) (change_unit u f records) u w (f here.domain x) (returned_same u.n) (sees_own f records u w x here),
      burn_some (most_weight records) t from w here.domain x here.weight is,
    )

pub sees_uncharged : (cur : Option UnitId) (t : ℕ) (records : Credit2Records) (u : UnitId) (w : ℕ) (x : Credit2Unit) → (cur ≡ Some u → ⊥) → Sees records u w x → Sees (own_burned_records cur t records) u w x
sees_uncharged None t records u w x other here = here
sees_uncharged (Some v) t records u w x other here =
    let f : Credit2Domain → Credit2Unit → Credit2Unit = burned_unit (most_weight records) t in
    sees_uncapped v.dom.0 (λ d. cond (d.cap == 0) d (domain_after_return v.n d)) (change_unit v f records) u w x (returned_same v.n)
    (sees_other v f records u w x (λ e. other (ap (λ y. Some y) e)) here)

-- a reset, at which the unit was charged, or does not run
pub sees_reset : (t k : ℕ) (records : Credit2Records) (u : UnitId) (w : ℕ) (x : Credit2Unit) → (x.burned ≡ None) ⊎ ((x.burned ≡ Some t) × (x.residual < w)) → Sees records u w x → Sees (reset_records t (suc k) records) u w (record x { credit = raised_credit x.credit (suc k) })
sees_reset t k records u w x still here =
    let most : ℕ = most_weight records in
    let b : ℕ → Credit2Domain → Credit2Domain = λ n d. burned_domain most t d in
    let raise : Credit2Unit → Credit2Unit = λ y. record y { credit = raised_credit y.credit (suc k) } in
    let h : ℕ → Credit2Domain → Credit2Domain = λ n d. record d { units = map raise d.units } in
    let d : Credit2Domain = here.domain in
    let e : ℕ = u.dom.0 in
    let same : burned_unit most t d x ≡ x = kept d here.weight still in
    let charged : slice_get (map (burned_unit most t d) d.units) u.n ≡ Some x = slice_get-map (burned_unit most t d) d.units u.n ∙ ap (option_map (burned_unit most t d)) here.get ∙ ap (λ (y : Credit2Unit). Some y) same in
    record {
      domain = h (0 + e) (b (0 + e) d);
      at = at_place-change_each 0 e h (change_each 0 b records.domains) ∙ ap (option_map (h (0 + e))) (at_place-change_each 0 e b records.domains ∙ ap (option_map (b (0 + e))) here.at);
      weight = here.weight;
      cap = here.cap;
      get = slice_get-map raise (map (burned_unit most t d) d.units) u.n ∙ ap (option_map raise) charged;
    }
  where
    kept : (d : Credit2Domain) → d.weight ≡ w → (x.burned ≡ None) ⊎ ((x.burned ≡ Some t) × (x.residual < w)) → burned_unit (most_weight records) t d x ≡ x
    kept d heavy (inl none) = burn_none (most_weight records) t d x none
    kept d heavy (inr now) = burn_same (most_weight records) t d x now.0 (let low = now.1 in omega (arith, low, heavy))

-- the chosen unit takes nothing
pub sees_taken : (v : UnitId) (records : Credit2Records) (u : UnitId) (w : ℕ) (x : Credit2Unit) → Sees records u w x → Sees (change_domain v.dom.0 (domain_after_take v.n) records) u w x
sees_taken v records u w x here = sees_uncapped v.dom.0 (domain_after_take v.n) records u w x (taken_same v.n) here

-- the same record, but for whether the unit runs
pub record IsSwitched (o : Option ℕ) (x y : Credit2Unit) : Type 0 where
  pub credit : y.credit ≡ x.credit
  pub residual : y.residual ≡ x.residual
  pub burned : y.burned ≡ o

-- the core's own unit runs no more
pub sees_off : (cur : Option UnitId) (records : Credit2Records) (u : UnitId) (w : ℕ) (x : Credit2Unit) → (cur ≡ Some u) ⊎ (x.burned ≡ None) → Sees records u w x → (y : Credit2Unit) × Sees (off_records cur records) u w y × IsSwitched None x y
sees_off None records u w x (inl is) here = absurd (cc)
sees_off None records u w x (inr none) here = (x, here, record { credit = refl; residual = refl; burned = none })
sees_off (Some v) records u w x was here = by_unit (same_or_other v u) was
  where
    by_unit : (v ≡ u) ⊎ (v ≢ u) → (Some v ≡ Some u) ⊎ (x.burned ≡ None) → (y : Credit2Unit) × Sees (off_records (Some v) records) u w y × IsSwitched None x y
    by_unit (inl same) was =
        subst (λ (k : UnitId). (y : Credit2Unit) × Sees (running_records None k records) u w y × IsSwitched None x y) (sym same)
        (record x { burned = None }, sees_own (λ d y. record y { burned = None }) records u w x here, record { credit = refl; residual = refl; burned = refl })
    by_unit (inr other) (inl is) = absurd (other (cc))
    by_unit (inr other) (inr none) = (x, sees_other v (λ d y. record y { burned = None }) records u w x other here, record { credit = refl; residual = refl; burned = none })

-- the chosen unit runs from t, and another one as before
pub sees_on : (t : ℕ) (records : Credit2Records) (u : UnitId) (w : ℕ) (x : Credit2Unit) → Sees records u w x → (y : Credit2Unit) × Sees (running_records (Some t) u records) u w y × IsSwitched (Some t) x y
sees_on t records u w x here = (record x { burned = Some t }, sees_own (λ d y. record y { burned = Some t }) records u w x here, record { credit = refl; residual = refl; burned = refl })

pub sees_still : (t : ℕ) (v : UnitId) (records : Credit2Records) (u : UnitId) (w : ℕ) (x : Credit2Unit) → v ≢ u → Sees records u w x → Sees (running_records (Some t) v records) u w x
sees_still t v records u w x other here = sees_other v (λ d y. record y { burned = Some t }) records u w x other here

-- its credit, and that it may run by its cap
pub sees_credit : (records : Credit2Records) (u : UnitId) (w : ℕ) (x : Credit2Unit) → Sees records u w x → unit_credit records u ≡ x.credit
sees_credit records u w x here =
    ap (λ (o : Option Credit2Domain). elim o as (λ _. ℤ) [ None ↦ pos 0 | Some d ↦ elim (slice_get d.units u.n) as (λ _. ℤ) [ None ↦ pos 0 | Some y ↦ y.credit ] ]) here.at
    ∙ ap (λ (o : Option Credit2Unit). elim o as (λ _. ℤ) [ None ↦ pos 0 | Some y ↦ y.credit ]) here.get
