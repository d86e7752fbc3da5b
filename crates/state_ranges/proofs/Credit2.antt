-- What the records of Credit2 keep: weights, caps, refills, and the credit of each unit, which falls by 65,536 a nanosecond at most.
use Rattle.std.proofs.Common.{◌≡◌, ◌<◌, ◌≤◌, ◌+◌, ◌-◌, ◌*◌, ◌/◌, ◌%◌, ℕ, zero, suc, List, [], ◌∷◌, refl, arith, ap, subst, sym, ◌∙◌, cond, length}
use Rattle.std.specs.Prelude.{Option, Some, None, unwrap_or, slice_get, map, fold, max, replicate, is_some, ◌==◌, ℤ, pos, neg_ℤ, ◌+ℤ◌, ◌≤ℤ◌}
use Rattle.std.specs.List.{AllByRecursion}
use Rattle.std.specs.Int.{int_min}
use Rattle.std.specs.Option.{IfSome}
use Rattle.std.proofs.lemmas.Int.{ints, clamps}
use Rattle.std.proofs.lemmas.Nat.{div-add-mod'}
use Rattle.std.proofs.Math.Nat.{mod-lt, max-le}
use Rattle.sched_base.specs.Credit2Numbers.{undivided_charge, raised_credit, start_credit, most_credit, refill_span}
use Rattle.sched_base.specs.declared.UnitId.{UnitId}
use Rattle.sched_model.specs.declared.state.Credit2Unit.{Credit2Unit}
use Rattle.sched_model.specs.declared.state.Credit2Domain.{Credit2Domain}
use Rattle.sched_model.specs.declared.state.Credit2Records.{Credit2Records}
use Rattle.sched_model.specs.Places.{at_place, change_each, change_item, numbered_items}
use Rattle.sched_model.specs.CheckedMachine.{IsWithin}
use Rattle.sched_model.specs.Credit2.{most_weight, burned_unit, burned_domain, change_domain, domain_after_return, own_burned_records, domain_after_take, off_records, domain_after_refill, refilled_pool, first_refill_moment, fresh_credit2_domain, domain_with_weight, domain_with_cap, records_with_terms}
use Rattle.sched_laws.specs.EachPlace.{EachPlace}
use Rattle.sched_laws.proofs.EachPlace.{EachPlace-change_at, by_option, by_cond, length_set, length_change_each}
use Rattle.sched_laws.proofs.Lists.{AllByRecursion-change_item}
use Rattle.record_laws.specs.Decisions.{number_in}
use Rattle.record_laws.proofs.Credit2Seen.{burn_is, own_limit, idle_is, idle_limit, ran_by, ran_by_is, ran_by_limit}
use Rattle.record_laws.proofs.Charges.{KeptByCharges, kept_by_burn, kept_by_idle, kept_by_run}
use Rattle.state_ranges.proofs.Rtds.{still_last}
use Rattle.state_ranges.specs.Fits.{UnitFits, Credit2DomainFits, Credit2Fits}

-- the greatest weight is one
fold_small : (t n acc : ℕ) (domains : List (Option Credit2Domain)) → acc ≤ 65535 → EachPlace (Credit2DomainFits t) domains → fold max acc (map (λ (e : ℕ × Credit2Domain). e.1.weight) (numbered_items n domains)) ≤ 65535
fold_small t n acc [] low each = low
fold_small t n acc (None ∷ domains) low each = fold_small t (suc n) acc domains low (λ i x at. each (suc i) x at)
fold_small t n acc (Some d ∷ domains) low each = fold_small t (suc n) (max acc d.weight) domains (max-le low (each 0 d refl).weight.most) (λ i x at. each (suc i) x at)

max_weight_small : (count t : ℕ) (records : Credit2Records) → Credit2Fits count t records → most_weight records ≤ 65535
max_weight_small count t records fits = fold_small t 0 0 records.domains (omega arith) fits.domains

-- a charge of a span
charge_small : (residual weight most elapsed : ℕ) → residual < weight → most ≤ 65535 → undivided_charge residual most elapsed / weight ≤ 65536 * elapsed
charge_small residual weight most elapsed low small =
    let c : ℕ = elapsed * most + residual in
    let d : c / weight * weight + c % weight ≡ c = div-add-mod' c weight in
    let w : weight ≡ suc (weight - 1) = omega (arith, low) in
    let s : elapsed * most ≤ 65535 * elapsed = times_small elapsed most small in
    few (c / weight) weight (c % weight) residual (elapsed * most) elapsed d low s
  where
    times_small : (e k : ℕ) → k ≤ 65535 → e * k ≤ 65535 * e
    times_small e k low = (let split : 65535 ≡ k + (65535 - k) = omega (arith, low) in subst (λ (z : ℕ). e * k ≤ z * e) (sym split) (let r : (k + (65535 - k)) * e ≡ e * k + (65535 - k) * e = grind arith in omega (arith, r)))

    few : (q w r residual part e : ℕ) → q * w + r ≡ part + residual → residual < w → part ≤ 65535 * e → q ≤ 65536 * e
    few zero w r residual part e d low s = omega arith
    few (suc q) w r residual part e d low s =
        let more : suc q * w ≡ q * w + w = grind arith in
        let enough : q * w < part = omega (arith, d, low, more) in
        let grow : q ≤ q * w = at_least q w (omega (arith, low)) in
        omega (arith, enough, grow, s)
      where
        at_least : (q w : ℕ) → 0 < w → q ≤ q * w
        at_least q w some = (let split : w ≡ 1 + (w - 1) = omega (arith, some) in subst (λ (z : ℕ). q ≤ q * z) (sym split) (let r : q * (1 + (w - 1)) ≡ q + q * (w - 1) = grind arith in omega (arith, r)))

unit_later : (t next weight : ℕ) (x : Credit2Unit) → t ≤ next → UnitFits t weight x → UnitFits next weight x
unit_later t next weight x past fits = record {
  residual = fits.residual;
  last = still_last t next past x.burned fits.last;
  most = fits.most;
  least = lower x.burned fits.least;
}
  where
    lower : (o : Option ℕ) → neg_ℤ (pos (65536 * unwrap_or o t)) ≤ℤ x.credit → neg_ℤ (pos (65536 * unwrap_or o next)) ≤ℤ x.credit
    lower None l = omega (arith, ints, past, l)
    lower (Some b) l = l

-- a unit that runs from t, or runs no more
unit_runs : (t weight : ℕ) (x : Credit2Unit) (from : Option ℕ) → unwrap_or from t ≡ t → UnitFits t weight x → UnitFits t weight (record x { burned = from })
unit_runs t weight x from is fits = record {
  residual = fits.residual;
  last = subst (λ k. k ≤ t) (sym is) (omega arith);
  most = fits.most;
  least = subst (λ k. neg_ℤ (pos (65536 * k)) ≤ℤ x.credit) (sym is) (let l = fits.least in let k = fits.last in omega (arith, ints, l, k));
}

unit_burned : (t most : ℕ) (d : Credit2Domain) (x : Credit2Unit) → most ≤ 65535 → UnitFits t d.weight x → UnitFits t d.weight (burned_unit most t d x)
unit_burned t most d x small fits =
    by_option (UnitFits t d.weight) x.burned _ _ (λ is. fits)
    (λ from is.
    let last : from ≤ t = subst (λ (o : Option ℕ). unwrap_or o t ≤ t) is fits.last in
    let least : neg_ℤ (pos (65536 * from)) ≤ℤ x.credit = subst (λ (o : Option ℕ). neg_ℤ (pos (65536 * unwrap_or o t)) ≤ℤ x.credit) is fits.least in
    let c = charge_small x.residual d.weight most (t - from) fits.residual small in
    let top = fits.most in
    record {
      residual = mod-lt (undivided_charge x.residual most (t - from)) (let r = fits.residual in omega (arith, r));
      last = omega arith;
      most = omega (arith, ints, top);
      least = omega (arith, ints, last, least, c);
    })

unit_raised : (t weight k : ℕ) (x : Credit2Unit) → UnitFits t weight x → UnitFits t weight (record x { credit = raised_credit x.credit k })
unit_raised t weight k x fits = record {
  residual = fits.residual;
  last = fits.last;
  most = min_top (x.credit +ℤ pos (k * start_credit));
  least = (let l = fits.least in min_low (x.credit +ℤ pos (k * start_credit)) (neg_ℤ (pos (65536 * unwrap_or x.burned t))) (omega (arith, ints, l)) (omega (arith, ints)));
}
  where
    min_top : (a : ℤ) → int_min a (pos most_credit) ≤ℤ pos 10500000
    min_top a = omega (arith, ints, clamps)

    min_low : (a low : ℤ) → low ≤ℤ a → low ≤ℤ pos 10500000 → low ≤ℤ int_min a (pos most_credit)
    min_low a low x y = omega (arith, ints, clamps, x, y)

each_map : (P Q : Credit2Unit → Type 0) (f : Credit2Unit → Credit2Unit) → ((x : Credit2Unit) → P x → Q (f x)) → (units : List Credit2Unit) → AllByRecursion P units → AllByRecursion Q (map f units)
each_map P Q f keeps [] each = tt
each_map P Q f keeps (x ∷ units) each = (keeps x each.0, each_map P Q f keeps units each.1)

-- a domain of which only the units change, or what it has left
with_units : (t : ℕ) (d e : Credit2Domain) → e.weight ≡ d.weight → e.cap ≡ d.cap → e.refill ≡ d.refill → AllByRecursion (UnitFits t e.weight) e.units → Credit2DomainFits t d → Credit2DomainFits t e
with_units t d e weight cap refill units fits = record {
  weight = subst (IsWithin 1 65535) (sym weight) fits.weight;
  cap = subst (λ (k : ℕ). k ≤ 6400) (sym cap) fits.cap;
  refill = λ r is. fits.refill r (sym refill ∙ is);
  units = units;
}

domain_burned : (t most : ℕ) (d : Credit2Domain) → most ≤ 65535 → Credit2DomainFits t d → Credit2DomainFits t (burned_domain most t d)
domain_burned t most d small fits = with_units t d (burned_domain most t d) refl refl refl (each_map (UnitFits t d.weight) (UnitFits t d.weight) (burned_unit most t d) (λ x. unit_burned t most d x small) d.units fits.units) fits

domain_unit : (t n : ℕ) (f : Credit2Unit → Credit2Unit) (d : Credit2Domain) → ((x : Credit2Unit) → UnitFits t d.weight x → UnitFits t d.weight (f x)) → Credit2DomainFits t d → Credit2DomainFits t (record d { units = change_item n f d.units })
domain_unit t n f d keeps fits = with_units t d (record d { units = change_item n f d.units }) refl refl refl (AllByRecursion-change_item (UnitFits t d.weight) n f d.units (λ x at. keeps x) fits.units) fits

holds : (t weight : ℕ) (x : Credit2Unit) (held : ℤ) → UnitFits t weight x → UnitFits t weight (record x { held = held })
holds t weight x held fits = record { residual = fits.residual; last = fits.last; most = fits.most; least = fits.least }

domain_given_back : (t n : ℕ) (d : Credit2Domain) → Credit2DomainFits t d → Credit2DomainFits t (domain_after_return n d)
domain_given_back t n d fits =
    by_option (Credit2DomainFits t) (slice_get d.units n) _ _ (λ none. fits)
    (λ u is. with_units t d (record d { budget = d.budget +ℤ u.held; units = change_item n (λ x. record x { held = pos 0 }) d.units }) refl refl refl
    (AllByRecursion-change_item (UnitFits t d.weight) n (λ x. record x { held = pos 0 }) d.units (λ x at. holds t d.weight x (pos 0)) fits.units) fits)

domain_taken : (t n : ℕ) (d : Credit2Domain) → Credit2DomainFits t d → Credit2DomainFits t (domain_after_take n d)
domain_taken t n d fits =
    by_cond (Credit2DomainFits t) (d.cap == 0) d _ (λ none. fits)
    (λ some. with_units t d _ refl refl refl (AllByRecursion-change_item (UnitFits t d.weight) n _ d.units (λ x at. holds t d.weight x _) fits.units) fits)

module _ (count t : ℕ) where
  abbrev pub C : Credit2Records → Type 0
  C records = Credit2Fits count t records

  c_change_domain : (d : ℕ) (f : Credit2Domain → Credit2Domain) (records : Credit2Records) → ((x : Credit2Domain) → at_place records.domains d ≡ Some x → Credit2DomainFits t x → Credit2DomainFits t (f x)) → C records → C (change_domain d f records)
  c_change_domain d f records keeps fits = record { places = length_set d _ records.domains ∙ fits.places; limit = fits.limit; domains = EachPlace-change_at (Credit2DomainFits t) d f records.domains fits.domains keeps }

  -- a decision
  domain_kept : (most k : ℕ) (had has : Option ℕ) → most ≤ 65535 → KeptByCharges most t k had has (Credit2DomainFits t)
  domain_kept most k had has small = record {
    charges = λ i d is. domain_unit t i (burned_unit most t d) d (λ x. unit_burned t most d x small);
    gives = λ i d is. domain_given_back t i d;
    burns = λ d some. domain_burned t most d small;
    raises = λ d some fits. with_units t d _ refl refl refl (each_map (UnitFits t d.weight) (UnitFits t d.weight) _ (unit_raised t d.weight k) d.units fits.units) fits;
    takes = λ j d is. domain_taken t j d;
    stops = λ i d is. domain_unit t i (λ x. record x { burned = None }) d (λ x. unit_runs t d.weight x None refl);
    starts = λ j d is. domain_unit t j (λ x. record x { burned = Some t }) d (λ x. unit_runs t d.weight x (Some t) refl);
  }

  -- each domain was changed
  c_each : (records next : Credit2Records) (f : ℕ → Credit2Domain → Credit2Domain) → next.domains ≡ change_each 0 f records.domains → next.limit ≡ records.limit → EachPlace (Credit2DomainFits t) next.domains → C records → C next
  c_each records next f is limit each fits = record {
    places = ap length is ∙ length_change_each 0 f records.domains ∙ fits.places;
    limit = subst (λ (k : ℕ). k ≤ 500000) (sym limit) fits.limit;
    domains = each;
  }

  module _ (cur : Option UnitId) (records : Credit2Records) (fits : C records) where
    kept : (k : ℕ) (chosen : Option UnitId) (d : ℕ) → KeptByCharges (most_weight records) t k (number_in d cur) (number_in d chosen) (Credit2DomainFits t)
    kept k chosen d = domain_kept (most_weight records) k (number_in d cur) (number_in d chosen) (max_weight_small count t records fits)

    pub c_burn_cur : C (own_burned_records cur t records)
    c_burn_cur = c_each records (own_burned_records cur t records) _ (burn_is t cur records) (own_limit t cur records) (kept_by_burn t cur records (λ d. Credit2DomainFits t) fits.domains (kept 0 None)) fits

    pub c_idle : C (off_records cur (own_burned_records cur t records))
    c_idle = c_each records (off_records cur (own_burned_records cur t records)) _ (idle_is t cur records) (idle_limit t cur records) (kept_by_idle t cur records (λ d. Credit2DomainFits t) fits.domains (kept 0 None)) fits

    pub c_ran : (k : ℕ) (u : UnitId) → C (ran_by t cur records k u)
    c_ran k u = c_each records (ran_by t cur records k u) _ (ran_by_is t cur records k u) (ran_by_limit t cur records k u) (kept_by_run t cur records (λ d. Credit2DomainFits t) fits.domains k u (kept k (Some u))) fits

  -- a refill that has come
  pub c_refilled : (d : ℕ) (records : Credit2Records) → ((x : Credit2Domain) (r : ℕ) → at_place records.domains d ≡ Some x → x.refill ≡ Some r → r ≤ t) → C records → C (refilled_pool t d records)
  c_refilled d records come fits =
      c_change_domain d (domain_after_refill (most_weight records) t) records
      (λ x at here.
      let burned = domain_burned t (most_weight records) x (max_weight_small count t records fits) here in
      record {
        weight = here.weight;
        cap = here.cap;
        refill = λ r is. next_refill x.refill (λ due has. come x due at has) r is;
        units = burned.units;
      }) fits
    where
      next_refill : (o : Option ℕ) → ((due : ℕ) → o ≡ Some due → due ≤ t) → (r : ℕ) → elim o as (λ _. Option ℕ) [ None ↦ None | Some due ↦ Some (due + elim o as (λ _. ℕ) [ None ↦ 0 | Some first ↦ (t - first) / refill_span + 1 ] * refill_span) ] ≡ Some r → r ≤ t + 10000000
      next_refill None past r is = absurd (cc)
      next_refill (Some due) past r is =
          let e : due + ((t - due) / refill_span + 1) * refill_span ≡ r = cc in
          let d2 : (t - due) / refill_span * refill_span + (t - due) % refill_span ≡ t - due = div-add-mod' (t - due) refill_span in
          let f : ((t - due) / refill_span + 1) * refill_span ≡ (t - due) / refill_span * refill_span + refill_span = grind arith in
          let p = past due refl in
          omega (arith, e, d2, f, p)

  first_near : (percent r : ℕ) → first_refill_moment percent t ≡ Some r → r ≤ t + 10000000
  first_near percent r is = by_cond (λ (o : Option ℕ). o ≡ Some r → r ≤ t + 10000000) (percent == 0) None (Some (t + refill_span)) (λ none e. absurd (cc)) (λ some e. (let f : t + 10000000 ≡ r = cc in omega (arith, f))) is

  pub c_fresh : (weight percent units : ℕ) → IsWithin 1 65535 weight → percent ≤ 6400 → Credit2DomainFits t (fresh_credit2_domain weight percent units t)
  c_fresh weight percent units within low = record { weight = within; cap = low; refill = first_near percent; units = each units }
    where
      each : (n : ℕ) → AllByRecursion (UnitFits t weight) (replicate n (record { credit = pos start_credit; residual = 0; held = pos 0; burned = None }))
      each zero = tt
      each (suc n) = (record { residual = (let l = within.least in omega (arith, l)); last = omega arith; most = omega (arith, ints); least = omega (arith, ints) }, each n)

  domain_weighed : (weight : Option ℕ) (d : Credit2Domain) → IfSome weight (IsWithin 1 65535) → Credit2DomainFits t d → Credit2DomainFits t (domain_with_weight weight d)
  domain_weighed None d good fits = fits
  domain_weighed (Some weight) d good fits = record {
    weight = good;
    cap = fits.cap;
    refill = fits.refill;
    units = each_map (UnitFits t d.weight) (UnitFits t weight) (λ (x : Credit2Unit). record x { residual = x.residual % weight })
        (λ x here. record { residual = mod-lt x.residual (let l = good.least in omega (arith, l)); last = here.last; most = here.most; least = here.least }) d.units fits.units;
  }

  domain_capped : (most : ℕ) (percent : Option ℕ) (d : Credit2Domain) → most ≤ 65535 → IfSome percent (λ (c : ℕ). c ≤ 6400) → Credit2DomainFits t d → Credit2DomainFits t (domain_with_cap most t percent d)
  domain_capped most None d small good fits = fits
  domain_capped most (Some percent) d small good fits =
      let burned : Credit2DomainFits t (burned_domain most t d) = domain_burned t most d small fits in
      record {
        weight = burned.weight;
        cap = good;
        refill = first_near percent;
        units = each_map (UnitFits t d.weight) (UnitFits t d.weight) (λ (x : Credit2Unit). record x { held = cond (is_some x.burned) (pos 0) x.held }) (λ x here. holds t d.weight x (cond (is_some x.burned) (pos 0) x.held) here) (burned_domain most t d).units burned.units;
      }

  pub c_set_domain : (d : ℕ) (weight percent : Option ℕ) (records : Credit2Records) → IfSome weight (IsWithin 1 65535) → IfSome percent (λ (c : ℕ). c ≤ 6400) → C records → C (records_with_terms t d weight percent records)
  c_set_domain d weight percent records weighs caps fits =
      let weighed : C (change_domain d (domain_with_weight weight) records) = c_change_domain d (domain_with_weight weight) records (λ x at. domain_weighed weight x weighs) fits in
      c_change_domain d (domain_with_cap (most_weight (change_domain d (domain_with_weight weight) records)) t percent) (change_domain d (domain_with_weight weight) records)
      (λ x at. domain_capped (most_weight (change_domain d (domain_with_weight weight) records)) percent x (max_weight_small count t (change_domain d (domain_with_weight weight) records) weighed) caps) weighed

pub c_later : (count t next : ℕ) (records : Credit2Records) → t ≤ next → Credit2Fits count t records → Credit2Fits count next records
c_later count t next records past fits = record {
  places = fits.places;
  limit = fits.limit;
  domains = λ n d at. (
      let here : Credit2DomainFits t d = fits.domains n d at in
      record { weight = here.weight; cap = here.cap; refill = λ r is. (let l = here.refill r is in omega (arith, l, past)); units = each_later d.weight d.units here.units });
}
  where
    each_later : (weight : ℕ) (units : List Credit2Unit) → AllByRecursion (UnitFits t weight) units → AllByRecursion (UnitFits next weight) units
    each_later weight [] each = tt
    each_later weight (x ∷ units) each = (unit_later t next weight x past each.0, each_later weight units each.1)
