-- The steps of a decision, as the code takes them, and what they keep.
use Rattle.std.proofs.Common.{◌≡◌, ◌<◌, ◌≤◌, ◌%◌, ℕ, zero, suc, List, [], ◌∷◌, ◌∙◌, refl, sym, ap, subst, arith}
use Rattle.std.specs.Prelude.{Option, Some, None, option_map, slice_get, slice_set, slice_index_or, map, ◌==◌, pos, if◌then◌else◌}
use Rattle.std.specs.Option.{ForSome}
use Rattle.std.proofs.Math.Nat.{mod-lt}
use Rattle.sched_model.specs.CheckedMachine.{IsWithin, most_span}
use Rattle.std.proofs.lemmas.Int.{ints}
use Rattle.std.proofs.lemmas.List.Elements.{All-map}
use Rattle.sched_base.specs.declared.UnitId.{UnitId}
use Rattle.sched_base.specs.Credit2Numbers.{raised_credit}
use Rattle.sched_model.specs.declared.state.Credit2Unit.{Credit2Unit}
use Rattle.sched_model.specs.declared.state.Credit2Domain.{Credit2Domain}
use Rattle.sched_model.specs.declared.state.Credit2Records.{Credit2Records}
use Rattle.sched_model.specs.Places.{change_at, change_each, change_item}
use Rattle.sched_model.specs.Credit2.{most_weight, burned_unit, burned_domain, own_burned_records, change_domain, domain_after_return, reset_records, domain_after_take, domain_with_weight}
use Rattle.sched_laws.specs.EachPlace.{EachPlace}
use Rattle.sched_laws.proofs.EachPlace.{EachPlace-change_at, EachPlace-change_each, by_option, by_cond}
use Rattle.sched_laws.proofs.Sound.{change_at-twice}
use Rattle.sched_laws.specs.RecordRanges.{Credit2InRange, Credit2UnitInRange}
use Rattle.scheduler_records.specs.Fits.{Credit2Fits}
use Rattle.scheduler_records.specs.Bounds.{UnitFits, ParamsFit, PoolFits, PoolParamsFit, own_charged, reset_by, unit_cut_to}
use Rattle.scheduler_records.proofs.Items.{All-change_item, get_fits}
use Rattle.scheduler_records.proofs.Ranges.{ParamsBounded, UnitsFit, pool_fits, pool_params, pool_in_range, params_in_range, units_in_range, unit_in_range, unit_burned, params_of_fits}

-- the core's own unit is charged in one change of its domain
pub burn_cur-own : (u : UnitId) (t : ℕ) (records : Credit2Records) → own_burned_records (Some u) t records ≡ change_domain u.dom.0 (own_charged (most_weight records) t u.n) records
burn_cur-own u t records =
    ap (λ (domains : List (Option Credit2Domain)). record records { domains = domains })
    (change_at-twice u.dom.0 (λ (d : Credit2Domain). if d.cap == 0 then d else domain_after_return u.n d) (λ (d : Credit2Domain). record d { units = change_item u.n (burned_unit (most_weight records) t d) d.units }) records.domains)

-- two changes of each place in one
change_each-twice : {X : Type 0} (n : ℕ) (f g : ℕ → X → X) (places : List (Option X)) → change_each n g (change_each n f places) ≡ change_each n (λ k x. g k (f k x)) places
change_each-twice n f g [] = refl
change_each-twice n f g (None ∷ places) = ap (λ ps. None ∷ ps) (change_each-twice (suc n) f g places)
change_each-twice n f g (Some x ∷ places) = ap (λ ps. Some (g n (f n x)) ∷ ps) (change_each-twice (suc n) f g places)

-- a reset is one change of each domain
pub reset-each : (t m : ℕ) (records : Credit2Records) → 0 < m → reset_records t m records ≡ record records { last_reset = Some t; domains = change_each 0 (λ n. reset_by (most_weight records) t m) records.domains }
reset-each t zero records some = absurd (omega arith)
reset-each t (suc m) records some =
    ap (λ (domains : List (Option Credit2Domain)). record records { last_reset = Some t; domains = domains })
    (change_each-twice 0 (λ n d. burned_domain (most_weight records) t d) (λ n d. record d { units = map (λ (x : Credit2Unit). record x { credit = raised_credit x.credit (suc m) }) d.units }) records.domains)

-- a domain put back changed at its place
pub change_at-put : {X : Type 0} (i : ℕ) (f : X → X) (places : List (Option X)) (o : Option X) (x : X) → o ≡ slice_index_or places i o → o ≡ Some x → slice_set places i (Some (f x)) ≡ change_at i f places
change_at-put i f [] o x read is = refl
change_at-put zero f (p ∷ places) o x read is = ap (λ q. q ∷ places) (sym (ap (option_map f) (sym read ∙ is)))
change_at-put (suc i) f (p ∷ places) o x read is = ap (λ ps. p ∷ ps) (change_at-put i f places o x read is)

given_back : (n : ℕ) (d : Credit2Domain) → ParamsBounded d → ParamsBounded (domain_after_return n d)
given_back n d bounded = by_option ParamsBounded (slice_get d.units n) _ _ (λ none. bounded) (λ u is. record { weight = bounded.weight; cap = bounded.cap })

own_params : (most t n : ℕ) (d : Credit2Domain) → ParamsBounded d → ParamsBounded (own_charged most t n d)
own_params most t n d bounded =
    let charged : Credit2Domain = record d { units = change_item n (burned_unit most t d) d.units } in
    let here : ParamsBounded charged = record { weight = bounded.weight; cap = bounded.cap } in
    by_cond ParamsBounded (d.cap == 0) charged (domain_after_return n charged) (λ free. here) (λ capped. given_back n charged here)

-- a unit that holds nothing fits
holds_nothing : (t : ℕ) (x : Credit2Unit) → UnitFits t x → UnitFits t (record x { held = pos 0 })
holds_nothing t x fits = record {
  residual = fits.residual;
  burned = fits.burned;
  credit_most = fits.credit_most;
  credit_least = fits.credit_least;
  held_most = omega (arith, ints);
  held_least = omega (arith, ints);
}

-- the units of a domain, of which one was charged, and gave back what it held
own_units : (most t n : ℕ) (d : Credit2Domain) → t ≤ most_span → ParamsFit most d → Credit2InRange t d → UnitsFit t (own_charged most t n d)
own_units most t n d early params range =
    let charged : Credit2Domain = record d { units = change_item n (burned_unit most t d) d.units } in
    let before : UnitsFit t d = λ k x h. unit_in_range t (slice_index_or d.units k x) early (range.units k x h) in
    let here : UnitsFit t charged = All-change_item (UnitFits t) n (burned_unit most t d) d.units (λ x is. unit_burned most t d x early params (get_fits (Credit2UnitInRange t) d.units n x range.units is)) before in
    let back : UnitsFit t (domain_after_return n charged) =
    by_option (UnitsFit t) (slice_get charged.units n) charged _ (λ none. here)
    (λ u is. All-change_item (UnitFits t) n (λ x. record x { held = pos 0 }) charged.units (λ x there. holds_nothing t x (get_fits (UnitFits t) charged.units n x here there)) here)
    in
    by_cond (UnitsFit t) (d.cap == 0) charged (domain_after_return n charged) (λ free. here) (λ capped. back)

-- a pool in range whose core's own unit was charged fits
pub burn_cur_fits : (cur : Option UnitId) (t : ℕ) (records : Credit2Records) → t ≤ most_span → Credit2Fits t records → PoolFits t (own_burned_records cur t records)
burn_cur_fits None t records early fits = pool_in_range t records early fits
burn_cur_fits (Some u) t records early fits =
    let most : ℕ = most_weight records in
    let before : PoolFits t records = pool_in_range t records early fits in
    let charged : Credit2Records = change_domain u.dom.0 (own_charged most t u.n) records in
    let params : EachPlace ParamsBounded charged.domains =
    EachPlace-change_at ParamsBounded u.dom.0 (own_charged most t u.n) records.domains (params_in_range t records fits) (λ d at here. own_params most t u.n d here)
    in
    let units : EachPlace (UnitsFit t) charged.domains =
    EachPlace-change_at (UnitsFit t) u.dom.0 (own_charged most t u.n) records.domains (units_in_range t records early fits)
    (λ d at here. own_units most t u.n d early (before u.dom.0 d at).params (fits.domains u.dom.0 d at))
    in
    subst (PoolFits t) (sym (burn_cur-own u t records)) (pool_fits t charged params units)

-- a reset changes no parameters
reset_bounded : (t m : ℕ) (records : Credit2Records) → EachPlace ParamsBounded records.domains → EachPlace ParamsBounded (reset_records t m records).domains
reset_bounded t zero records bounded = bounded
reset_bounded t (suc m) records bounded =
    subst (λ (r : Credit2Records). EachPlace ParamsBounded r.domains) (sym (reset-each t (suc m) records (omega arith)))
    (EachPlace-change_each ParamsBounded (λ n. reset_by (most_weight records) t (suc m)) records.domains bounded (λ n d at here. record { weight = here.weight; cap = here.cap }))

pub reset_params : (t m : ℕ) (records : Credit2Records) → PoolFits t records → PoolParamsFit (reset_records t m records)
reset_params t m records fits = pool_params (reset_records t m records) (reset_bounded t m records (params_of_fits t records fits))

-- nor does it change any that a budget is taken
pub taken_params : (t m : ℕ) (u : UnitId) (records : Credit2Records) → PoolFits t records → PoolParamsFit (change_domain u.dom.0 (domain_after_take u.n) (reset_records t m records))
taken_params t m u records fits =
    let begun : Credit2Records = reset_records t m records in
    pool_params (change_domain u.dom.0 (domain_after_take u.n) begun)
    (EachPlace-change_at ParamsBounded u.dom.0 (domain_after_take u.n) begun.domains (reset_bounded t m records (params_of_fits t records fits))
    (λ d at here. by_cond ParamsBounded (d.cap == 0) d _ (λ free. here) (λ capped. record { weight = here.weight; cap = here.cap })))

-- a domain with a new weight, and its units
weighed_params : (weight : Option ℕ) (d : Credit2Domain) → ForSome weight (IsWithin 1 65535) → ParamsBounded d → ParamsBounded (domain_with_weight weight d)
weighed_params None d good bounded = bounded
weighed_params (Some w) d good bounded = record { weight = good w refl; cap = bounded.cap }

weighed_units : (t : ℕ) (weight : Option ℕ) (d : Credit2Domain) → ForSome weight (IsWithin 1 65535) → UnitsFit t d → UnitsFit t (domain_with_weight weight d)
weighed_units t None d good units = units
weighed_units t (Some w) d good units = All-map (UnitFits t) (unit_cut_to w) d.units (λ k x h. cut_fits (slice_index_or d.units k x) (units k x h))
  where
    cut_fits : (x : Credit2Unit) → UnitFits t x → UnitFits t (unit_cut_to w x)
    cut_fits x fits =
        let within = good w refl in
        let least = within.least in
        let most = within.most in
        let part : x.residual % w < w = mod-lt x.residual (omega (arith, least)) in
        record {
          residual = omega (arith, part, most);
          burned = fits.burned;
          credit_most = fits.credit_most;
          credit_least = fits.credit_least;
          held_most = fits.held_most;
          held_least = fits.held_least;
        }

-- a pool in range of which a domain has a new weight fits
pub weighed_fits : (t i : ℕ) (weight : Option ℕ) (records : Credit2Records) → t ≤ most_span → Credit2Fits t records → ForSome weight (IsWithin 1 65535) → PoolFits t (change_domain i (domain_with_weight weight) records)
weighed_fits t i weight records early fits good =
    pool_fits t (change_domain i (domain_with_weight weight) records)
    (EachPlace-change_at ParamsBounded i (domain_with_weight weight) records.domains (params_in_range t records fits) (λ d at here. weighed_params weight d good here))
    (EachPlace-change_at (UnitsFit t) i (domain_with_weight weight) records.domains (units_in_range t records early fits) (λ d at here. weighed_units t weight d good here))
