-- What records say of the units of which it is known when their cores' legs began: each was charged since then, and what is left to it lasts at least from
-- the leg's beginning to that charge; and no unit holds more than its quota.
use Rattle.std.proofs.Common.{◌≡◌, ◌≤◌, ◌+◌, ◌-◌, ℕ, Bool, true, false, List, refl, arith, ap, cond, subst, sym, ◌∙◌, length, ◌⊎◌, inl, inr}
use Rattle.std.specs.Prelude.{Option, Some, None, is_some, slice_get, map, ◌==◌, ℤ, pos, ◌+ℤ◌, ◌-ℤ◌, ◌≤ℤ◌}
use Rattle.std.specs.Int.{int_min}
use Rattle.std.proofs.lemmas.Int.{ints, clamps}
use Rattle.std.proofs.lemmas.List.{length-map}
use Rattle.sched_base.specs.Credit2Numbers.{burned_credit, burned_residual, raised_credit, budget_quota, cap_budget, taken_budget}
use Rattle.sched_base.specs.declared.UnitId.{UnitId}
use Rattle.sched_model.specs.declared.state.Credit2Unit.{Credit2Unit}
use Rattle.sched_model.specs.declared.state.Credit2Domain.{Credit2Domain}
use Rattle.sched_model.specs.declared.state.Credit2Records.{Credit2Records}
use Rattle.sched_model.specs.declared.state.RtdsUnit.{RtdsUnit}
use Rattle.sched_model.specs.Places.{at_place, change_item}
use Rattle.sched_model.specs.EligibleUnits.{rtds_unit_at}
use Rattle.sched_model.specs.Rtds as rtds
use Rattle.sched_model.specs.Credit2.{most_weight, burned_unit, burned_domain, change_domain, domain_after_return, domain_after_take, domain_after_refill, refilled_pool, domain_with_weight, domain_with_cap, records_with_terms}
use Rattle.sched_laws.specs.EachPlace.{EachAt}
use Rattle.sched_laws.proofs.EachPlace.{EachAt-change_at, by_option, by_cond}
use Rattle.sched_laws.proofs.Lists.{length_change_item}
use Rattle.sched_laws.proofs.Sound.{read_change_item}
use Rattle.state_ranges.proofs.Budget.{get_map}
use Rattle.record_laws.proofs.Charges.{KeptByCharges}
use Rattle.moment_laws.specs.Turns.{keeps}

-- charged last at a moment of the leg; what is left then and the span from the leg's beginning to there make no less than 0
pub record Lasts (b t : ℕ) (burned : Option ℕ) (left : ℤ) : Type 0 where
  pub from : ℕ
  pub is : burned ≡ Some from
  pub since : b ≤ from
  pub past : from ≤ t
  pub most : pos b ≤ℤ (left +ℤ pos from)

pub lasts_later : (b t next : ℕ) (burned : Option ℕ) (left : ℤ) → t ≤ next → Lasts b t burned left → Lasts b next burned left
lasts_later b t next burned left later old = record { from = old.from; is = old.is; since = old.since; past = (let p = old.past in omega (arith, p, later)); most = old.most }

-- where something is left at the charge, it lasts
pub lasts_some : (b t : ℕ) (burned : Option ℕ) (old left : ℤ) → pos 0 ≤ℤ left → Lasts b t burned old → Lasts b t burned left
lasts_some b t burned old left low lasts = record { from = lasts.from; is = lasts.is; since = lasts.since; past = lasts.past; most = (let s = lasts.since in omega (arith, ints, s, low)) }

-- a leg that begins now
pub lasts_now : (b t : ℕ) (burned : Option ℕ) (left : ℤ) → b ≤ t → burned ≡ Some t → pos 0 ≤ℤ left → Lasts b t burned left
lasts_now b t burned left past is low = record { from = t; is = is; since = past; past = omega arith; most = omega (arith, ints, past, low) }

-- each element, with its number
abbrev pub EachItem : {X : Type 0} → (ℕ → X → Type 0) → List X → Type 0
EachItem {X} P xs = (n : ℕ) (x : X) → slice_get xs n ≡ Some x → P n x

pub item_change : {X : Type 0} (P : ℕ → X → Type 0) (i : ℕ) (f : X → X) (xs : List X) → ((x : X) → slice_get xs i ≡ Some x → P i x → P i (f x)) → EachItem P xs → EachItem P (change_item i f xs)
item_change P i f xs here each n y at = elim (read_change_item i n f xs y at) [
  | inl was ↦ each n y was.1
  | inr r ↦ subst (λ k. P k y) (sym r.2) (subst (P i) r.3 (here r.0 r.1 (each i r.0 r.1)))
]

-- On says of which units, by their domain and number, it is known when their cores' legs began
module _ (On : ℕ → ℕ → ℕ → Type 0) (t : ℕ) where
  -- what is left to an RTDS unit beyond the least
  abbrev pub RtdsUnitKept : ℕ → ℕ → RtdsUnit → Type 0
  RtdsUnitKept d n y = (b : ℕ) → On d n b → Lasts b t y.burned (pos y.left -ℤ pos 1)

  abbrev pub RtdsKept : List (Option (List RtdsUnit)) → Type 0
  RtdsKept domains = EachAt (λ d (units : List RtdsUnit). EachItem (RtdsUnitKept d) units) domains

  pub rtds_change : (u : UnitId) (f : RtdsUnit → RtdsUnit) (domains : List (Option (List RtdsUnit))) → ((x : RtdsUnit) → rtds_unit_at domains u ≡ Some x → RtdsUnitKept u.dom.0 u.n x → RtdsUnitKept u.dom.0 u.n (f x)) → RtdsKept domains → RtdsKept (rtds.change_unit u f domains)
  rtds_change u f domains keeps kept =
      EachAt-change_at (λ d (units : List RtdsUnit). EachItem (RtdsUnitKept d) units) u.dom.0 (change_item u.n f) domains kept
      (λ units at here. item_change (RtdsUnitKept u.dom.0) u.n f units (λ x get old. keeps x (ap (λ (o : Option (List RtdsUnit)). elim o as (λ _. Option RtdsUnit) [ None ↦ None | Some ys ↦ slice_get ys u.n ]) at ∙ get) old) here)

-- the most that a unit of the domain takes at once
abbrev pub limit : Credit2Domain → ℕ
limit x = budget_quota (cap_budget x.cap) (length x.units)

-- a unit as it is when it was charged, by the moment of its last charge
abbrev charged : ℕ → ℕ → Credit2Domain → Credit2Unit → Option ℕ → Credit2Unit
charged weight t d y o =
    elim o [
      | None ↦ y
      | Some from ↦ record y {
        credit = burned_credit y.credit y.residual d.weight weight (t - from);
        residual = burned_residual y.residual d.weight weight (t - from);
        held = cond (d.cap == 0) y.held (y.held -ℤ pos (t - from));
        burned = Some t;
      }
    ]

pub record UnitKept (On : ℕ → Type 0) (t most : ℕ) (y : Credit2Unit) : Type 0 where
  pub lasts : (b : ℕ) → On b → Lasts b t y.burned y.held
  pub within : y.held ≤ℤ pos most

module _ (On : ℕ → Type 0) (t most : ℕ) where
  kept_same : (x y : Credit2Unit) → y.held ≡ x.held → y.burned ≡ x.burned → UnitKept On t most x → UnitKept On t most y
  kept_same x y held burned kept = record {
    lasts = λ b on. subst (λ (h : ℤ). Lasts b t y.burned h) (sym held) (subst (λ (o : Option ℕ). Lasts b t o x.held) (sym burned) (kept.lasts b on));
    within = subst (λ (h : ℤ). h ≤ℤ pos most) (sym held) kept.within;
  }

  kept_zero : (y : Credit2Unit) → UnitKept On t most y → UnitKept On t most (record y { held = pos 0 })
  kept_zero y kept = record { lasts = λ b on. lasts_some b t y.burned y.held (pos 0) (omega (arith, ints)) (kept.lasts b on); within = omega (arith, ints) }

  kept_burned : (weight : ℕ) (d : Credit2Domain) (y : Credit2Unit) → UnitKept On t most y → UnitKept On t most (burned_unit weight t d y)
  kept_burned weight d y kept = by_burned y.burned refl
    where
      falls : (c : Bool) (k : ℕ) (h : ℤ) → cond c h (h -ℤ pos k) ≤ℤ h
      falls true k h = omega (arith, ints)
      falls false k h = omega (arith, ints)

      stays : (c : Bool) (b k from : ℕ) (h : ℤ) → from + k ≡ t → pos b ≤ℤ (h +ℤ pos from) → pos b ≤ℤ (cond c h (h -ℤ pos k) +ℤ pos t)
      stays true b k from h e low = omega (arith, ints, e, low)
      stays false b k from h e low = omega (arith, ints, e, low)

      by_burned : (o : Option ℕ) → y.burned ≡ o → UnitKept On t most (charged weight t d y o)
      by_burned None is = kept
      by_burned (Some from) is = record {
        lasts = λ b on. (
            let old = kept.lasts b on in
            let same : from ≡ old.from = (let e : Some from ≡ Some old.from = sym is ∙ old.is in cc) in
            let since = old.since in
            let past = old.past in
            let low : pos b ≤ℤ (y.held +ℤ pos from) = subst (λ (k : ℕ). pos b ≤ℤ (y.held +ℤ pos k)) (sym same) old.most in
            record { from = t; is = refl; since = omega (arith, since, past); past = omega arith; most = stays (d.cap == 0) b (t - from) from y.held (omega (arith, same, past)) low });
        within = (let f = falls (d.cap == 0) (t - from) y.held in let k = kept.within in omega (arith, ints, f, k));
      }

-- a unit that does not run when it was charged did not run before
none_before : (weight t : ℕ) (d : Credit2Domain) (y : Credit2Unit) → (burned_unit weight t d y).burned ≡ None → (y.burned ≡ None) × ((burned_unit weight t d y).held ≡ y.held)
none_before weight t d y none = by_burned y.burned refl none
  where
    by_burned : (o : Option ℕ) → y.burned ≡ o → (charged weight t d y o).burned ≡ None → (y.burned ≡ None) × ((charged weight t d y o).held ≡ y.held)
    by_burned None is e = (is, refl)
    by_burned (Some from) is e = absurd (cc)

module _ (On : ℕ → Type 0) where
  -- a unit of a domain whose cap is set
  kept_capped : (t most next : ℕ) (z : Credit2Unit) → (z.burned ≡ None → z.held ≡ pos 0) → UnitKept On t most z → UnitKept On t next (record z { held = cond (is_some z.burned) (pos 0) z.held })
  kept_capped t most next z idle kept = by_burned z.burned refl
    where
      by_burned : (o : Option ℕ) → z.burned ≡ o → UnitKept On t next (record z { held = cond (is_some o) (pos 0) z.held })
      by_burned None is = record { lasts = λ b on. kept.lasts b on; within = (let e = idle is in omega (arith, ints, e)) }
      by_burned (Some from) is = record { lasts = λ b on. lasts_some b t z.burned z.held (pos 0) (omega (arith, ints)) (kept.lasts b on); within = omega (arith, ints) }

-- what is kept of a domain
abbrev pub DomainKept : (ℕ → ℕ → Type 0) → ℕ → Credit2Domain → Type 0
DomainKept On t x = EachItem (λ n (y : Credit2Unit). UnitKept (On n) t (limit x) y) x.units

module _ (On : ℕ → ℕ → Type 0) (t : ℕ) where
  -- a domain of which only the units change
  kept_units : (x : Credit2Domain) (ys : List Credit2Unit) → length ys ≡ length x.units → EachItem (λ n (y : Credit2Unit). UnitKept (On n) t (limit x) y) ys → DomainKept On t (record x { units = ys })
  kept_units x ys same each n y at = subst (λ (k : ℕ). UnitKept (On n) t (budget_quota (cap_budget x.cap) k) y) (sym same) (each n y at)

  kept_map : (f : Credit2Unit → Credit2Unit) (x : Credit2Domain) → ((n : ℕ) (y : Credit2Unit) → slice_get x.units n ≡ Some y → UnitKept (On n) t (limit x) y → UnitKept (On n) t (limit x) (f y)) → DomainKept On t x → DomainKept On t (record x { units = map f x.units })
  kept_map f x keeps kept =
      kept_units x (map f x.units) (length-map x.units f) (λ n z at. (let r = get_map f x.units n z at in subst (UnitKept (On n) t (limit x)) r.2 (keeps n r.0 r.1 (kept n r.0 r.1))))

  kept_item : (i : ℕ) (f : Credit2Unit → Credit2Unit) (x : Credit2Domain) → ((y : Credit2Unit) → slice_get x.units i ≡ Some y → UnitKept (On i) t (limit x) y → UnitKept (On i) t (limit x) (f y)) → DomainKept On t x → DomainKept On t (record x { units = change_item i f x.units })
  kept_item i f x keeps kept = kept_units x (change_item i f x.units) (length_change_item i f x.units) (item_change (λ n (y : Credit2Unit). UnitKept (On n) t (limit x) y) i f x.units keeps kept)

  kept_burn_units : (weight : ℕ) (x : Credit2Domain) → DomainKept On t x → DomainKept On t (burned_domain weight t x)
  kept_burn_units weight x kept = kept_map (burned_unit weight t x) x (λ n y at. kept_burned (On n) t (limit x) weight x y) kept

  kept_set_weight : (weight : Option ℕ) (x : Credit2Domain) → DomainKept On t x → DomainKept On t (domain_with_weight weight x)
  kept_set_weight None x kept = kept
  kept_set_weight (Some weight) x kept = kept_map _ x (λ n y at. kept_same (On n) t (limit x) y _ refl refl) kept

  kept_set_cap : (weight : ℕ) (percent : Option ℕ) (x : Credit2Domain) → ((n : ℕ) (y : Credit2Unit) → slice_get x.units n ≡ Some y → y.burned ≡ None → y.held ≡ pos 0) → DomainKept On t x → DomainKept On t (domain_with_cap weight t percent x)
  kept_set_cap weight None x idle kept n z at = kept n z at
  kept_set_cap weight (Some percent) x idle kept n z at =
      let burned : Credit2Domain = burned_domain weight t x in
      let f : Credit2Unit → Credit2Unit = λ (y : Credit2Unit). record y { held = cond (is_some y.burned) (pos 0) y.held } in
      let r = get_map f burned.units n z at in
      let q = get_map (burned_unit weight t x) x.units n r.0 r.1 in
      let still : r.0.burned ≡ None → r.0.held ≡ pos 0 = λ none. (
      let b = none_before weight t x q.0 (ap (λ (y : Credit2Unit). y.burned) q.2 ∙ none) in
      sym (ap (λ (y : Credit2Unit). y.held) q.2) ∙ b.1 ∙ idle n q.0 q.1 b.0) in
      subst (UnitKept (On n) t (budget_quota (cap_budget percent) (length (map f burned.units)))) r.2 (kept_capped (On n) t (limit burned) (budget_quota (cap_budget percent) (length (map f burned.units))) r.0 still (kept_burn_units weight x kept n r.0 r.1))

  kept_give_back : (i : ℕ) (x : Credit2Domain) → DomainKept On t x → DomainKept On t (domain_after_return i x)
  kept_give_back i x kept =
      by_option (DomainKept On t) (slice_get x.units i) x _ (λ none. kept)
      (λ u at. kept_item i (λ (y : Credit2Unit). record y { held = pos 0 }) x (λ y get. kept_zero (On i) t (limit x) y) kept)

  kept_take : (i : ℕ) (x : Credit2Domain) → ((b : ℕ) → On i b → ⊥) → DomainKept On t x → DomainKept On t (domain_after_take i x)
  kept_take i x off kept =
      by_cond (DomainKept On t) (x.cap == 0) x _ (λ free. kept)
      (λ capped. kept_item i (λ (y : Credit2Unit). record y { held = taken_budget x.budget (limit x) }) x (λ y get old. record { lasts = λ b on. absurd (off b on); within = least (limit x) x.budget }) kept)
    where
      least : (q : ℕ) (a : ℤ) → int_min (pos q) a ≤ℤ pos q
      least q a = omega (arith, ints, clamps)

  kept_running : (i : ℕ) (from : Option ℕ) (x : Credit2Domain) → ((b : ℕ) → On i b → ⊥) → DomainKept On t x → DomainKept On t (record x { units = change_item i (λ (y : Credit2Unit). record y { burned = from }) x.units })
  kept_running i from x off kept = kept_item i (λ (y : Credit2Unit). record y { burned = from }) x (λ y get old. record { lasts = λ b on. absurd (off b on); within = old.within }) kept

module _ (On : ℕ → ℕ → ℕ → Type 0) (t : ℕ) where
  abbrev pub Credit2Kept : Credit2Records → Type 0
  Credit2Kept records = EachAt (λ d. DomainKept (On d) t) records.domains

  pub c_refilled : (d : ℕ) (records : Credit2Records) → Credit2Kept records → Credit2Kept (refilled_pool t d records)
  c_refilled d records kept = EachAt-change_at (λ d. DomainKept (On d) t) d (domain_after_refill (most_weight records) t) records.domains kept (λ x at here. kept_burn_units (On d) t (most_weight records) x here)

  pub c_set_domain : (d : ℕ) (weight percent : Option ℕ) (records : Credit2Records) → ((x : Credit2Domain) → at_place records.domains d ≡ Some x → (n : ℕ) (y : Credit2Unit) → slice_get x.units n ≡ Some y → y.burned ≡ None → y.held ≡ pos 0) → Credit2Kept records → Credit2Kept (records_with_terms t d weight percent records)
  c_set_domain d weight percent records idle kept =
      let weighed : Credit2Records = change_domain d (domain_with_weight weight) records in
      let first : Credit2Kept weighed = EachAt-change_at (λ d. DomainKept (On d) t) d (domain_with_weight weight) records.domains kept (λ x at here. kept_set_weight (On d) t weight x here) in
      EachAt-change_at (λ d. DomainKept (On d) t) d (domain_with_cap (most_weight weighed) t percent) weighed.domains first
      (λ x at here. kept_set_cap (On d) t (most_weight weighed) percent x (still x at) here)
    where
      weigh : (w : Option ℕ) (x : Credit2Domain) → ((n : ℕ) (y : Credit2Unit) → slice_get x.units n ≡ Some y → y.burned ≡ None → y.held ≡ pos 0) → (n : ℕ) (y : Credit2Unit) → slice_get (domain_with_weight w x).units n ≡ Some y → y.burned ≡ None → y.held ≡ pos 0
      weigh None x each n y at none = each n y at none
      weigh (Some w) x each n y at none = (let r = get_map _ x.units n y at in sym (ap (λ (z : Credit2Unit). z.held) r.2) ∙ each n r.0 r.1 (ap (λ (z : Credit2Unit). z.burned) r.2 ∙ none))

      still : (x : Credit2Domain) → at_place (change_domain d (domain_with_weight weight) records).domains d ≡ Some x → (n : ℕ) (y : Credit2Unit) → slice_get x.units n ≡ Some y → y.burned ≡ None → y.held ≡ pos 0
      still x at = EachAt-change_at (λ k (x : Credit2Domain). (k ≡ d) → (n : ℕ) (y : Credit2Unit) → slice_get x.units n ≡ Some y → y.burned ≡ None → y.held ≡ pos 0) d (domain_with_weight weight) records.domains
          (λ k z at_z same. idle z (subst (λ j. at_place records.domains j ≡ Some z) same at_z)) (λ z at_z each same. weigh weight z (each same)) d x at refl

  -- a decision whose core neither had nor takes such a unit
  pub charges_kept : (d most k : ℕ) (had has : Option ℕ) → ((n : ℕ) → (had ≡ Some n) ⊎ (has ≡ Some n) → (b : ℕ) → On d n b → ⊥) → KeptByCharges most t k had has (DomainKept (On d) t)
  charges_kept d most k had has off = record {
    charges = λ i x is. kept_item (On d) t i (burned_unit most t x) x (λ y get. kept_burned (On d i) t (limit x) most x y);
    gives = λ i x is. kept_give_back (On d) t i x;
    burns = λ x some. kept_burn_units (On d) t most x;
    raises = λ x some. kept_map (On d) t (λ (y : Credit2Unit). record y { credit = raised_credit y.credit k }) x (λ n y get. kept_same (On d n) t (limit x) y _ refl refl);
    takes = λ j x is. kept_take (On d) t j x (off j (inr is));
    stops = λ i x is. kept_running (On d) t i None x (off i (inl is));
    starts = λ j x is. kept_running (On d) t j (Some t) x (off j (inr is));
  }
