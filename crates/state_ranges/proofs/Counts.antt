-- The domains of a pool fit what its scheduler keeps of them, and the changes of domains that keep that.
use Rattle.std.proofs.Common.{◌≡◌, ◌≤◌, ◌+◌, ◌-◌, ◌/◌, ℕ, zero, suc, List, [], ◌∷◌, refl, arith, subst, sym, ◌∙◌, ap, length}
use Rattle.std.specs.Prelude.{Option, Some, None}
use Rattle.std.proofs.Math.Decide.{ℕ_discrete}
use Rattle.sched_model.specs.declared.config.DomParams.{DomParams}
use Rattle.sched_model.specs.declared.config.DomParams.TheVariants as dom_params
use Rattle.sched_model.specs.declared.state.Domain.{Domain}
use Rattle.sched_model.specs.declared.state.RtdsUnit.{RtdsUnit}
use Rattle.sched_model.specs.declared.state.Records.{Records}
use Rattle.sched_model.specs.declared.state.Records.TheVariants.{Credit2Pool, RtdsPool, ArincPool, NullPool}
use Rattle.sched_model.specs.Places.{at_place, put_at, clear_at, change_at}
use Rattle.sched_model.specs.Pool.{domain_unit_count}
use Rattle.sched_model.specs.Policy.{joined_records, parted_records, records_kind}
use Rattle.sched_model.specs.Credit2 as credit2
use Rattle.sched_model.specs.Rtds as rtds
use Rattle.std.proofs.lemmas.List.{length-replicate}
use Rattle.sched_laws.proofs.EachPlace.{EachAt-change_at, EachPlace-change_at, EachPlace-put_at, EachPlace-clear_at, read_clear_at, at_place-put_at, at_place-put_at_other, at_place-clear_at, at_place-clear_at_other, is_empty, place_below, length_set}
use Rattle.state_ranges.proofs.Measured.{measured_put_at, measured_clear_at}
use Rattle.state_ranges.specs.Counts.{measures_of, shape, units_in, HasCounts, CountsFit, Keeps, Matches}

-- the records change, and have as many units of each domain as before
pub keeps_shape : (g : ℕ) (domains : List (Option Domain)) (old next : Records) → shape next ≡ shape old → Keeps g domains (shape old) → Keeps g domains (shape next)
keeps_shape g domains old next same keeps = subst (Keeps g domains) (sym same) keeps

-- a domain changes, and has as many vCPUs as before
same_count : (g : ℕ) (x y : Domain) → length y.vcpus ≡ length x.vcpus → domain_unit_count g y ≡ domain_unit_count g x
same_count g x y same = ap (λ (n : ℕ). (n + g - 1) / g) same

-- what is empty after a change was so before
none_before : {X : Type 0} (i j : ℕ) (f : X → X) (places : List (Option X)) → at_place (change_at i f places) j ≡ None → at_place places j ≡ None
none_before zero j f [] none = none
none_before (suc i) j f [] none = none
none_before zero zero f (None ∷ places) none = refl
none_before zero zero f (Some x ∷ places) none = absurd (cc)
none_before zero (suc j) f (p ∷ places) none = none
none_before (suc i) zero f (p ∷ places) none = none
none_before (suc i) (suc j) f (p ∷ places) none = none_before i j f places none

fit_change_at : (g d : ℕ) (f : Domain → Domain) (domains : List (Option Domain)) (counts : Option (List (Option ℕ))) → ((x : Domain) → length (f x).vcpus ≡ length x.vcpus) → CountsFit g domains counts → CountsFit g (change_at d f domains) counts
fit_change_at g d f domains None same fit = tt
fit_change_at g d f domains (Some counts) same fit = record {
  places = fit.places ∙ sym (length_set d _ domains);
  counts_are = EachAt-change_at (λ e (x : Domain). at_place counts e ≡ Some (domain_unit_count g x)) d f domains fit.counts_are (λ x at here. here ∙ ap (λ (n : ℕ). Some n) (sym (same_count g x (f x) (same x))));
  others = λ e none. fit.others e (none_before d e f domains none);
}

pub keeps_change_at : (g d : ℕ) (f : Domain → Domain) (domains : List (Option Domain)) (counts : Option (List (Option ℕ))) → ((x : Domain) → length (f x).vcpus ≡ length x.vcpus) → Keeps g domains counts → Keeps g (change_at d f domains) counts
keeps_change_at g d f domains counts same keeps = record {
  some_unit = EachPlace-change_at (λ (x : Domain). 1 ≤ domain_unit_count g x) d f domains keeps.some_unit (λ x at here. subst (λ (n : ℕ). 1 ≤ n) (sym (same_count g x (f x) (same x))) here);
  fit = fit_change_at g d f domains counts same keeps.fit;
}

-- a domain is put at a place, together with the count of its units
has_counts_put_at : (g d : ℕ) (x : Domain) (domains : List (Option Domain)) (counts : List (Option ℕ)) → HasCounts g domains counts → HasCounts g (put_at d x domains) (put_at d (domain_unit_count g x) counts)
has_counts_put_at g d x domains counts has = record {
  places = length_set d _ counts ∙ has.places ∙ sym (length_set d _ domains);
  counts_are = λ e y at. elim (ℕ_discrete e d) [ yes same ↦ here e y same at | no other ↦ at_place-put_at_other d e (domain_unit_count g x) counts other ∙ has.counts_are e y (sym (at_place-put_at_other d e x domains other) ∙ at) ];
  others = λ e none. elim (ℕ_discrete e d) [ yes same ↦ past e same none | no other ↦ at_place-put_at_other d e (domain_unit_count g x) counts other ∙ has.others e (sym (at_place-put_at_other d e x domains other) ∙ none) ];
}
  where
    here : (e : ℕ) (y : Domain) → e ≡ d → at_place (put_at d x domains) e ≡ Some y → at_place (put_at d (domain_unit_count g x) counts) e ≡ Some (domain_unit_count g y)
    here e y same at =
        let low = place_below (put_at d x domains) e y at in
        let whole = length_set d (Some x) domains in
        let places = has.places in
        let at_d : at_place (put_at d x domains) d ≡ Some y = subst (λ (k : ℕ). at_place (put_at d x domains) k ≡ Some y) same at in
        let put : at_place (put_at d x domains) d ≡ Some x = at_place-put_at d x domains (omega (arith, low, whole, same)) in
        let is_x : x ≡ y = cc in
        let count : at_place (put_at d (domain_unit_count g x) counts) d ≡ Some (domain_unit_count g x) = at_place-put_at d (domain_unit_count g x) counts (omega (arith, low, whole, places, same)) in
        subst (λ (k : ℕ). at_place (put_at d (domain_unit_count g x) counts) k ≡ Some (domain_unit_count g y)) (sym same) (count ∙ ap (λ (z : Domain). Some (domain_unit_count g z)) is_x)

    -- there is no such place
    past : (e : ℕ) → e ≡ d → at_place (put_at d x domains) e ≡ None → at_place (put_at d (domain_unit_count g x) counts) e ≡ None
    past e same none =
        is_empty (at_place (put_at d (domain_unit_count g x) counts) e) (λ n at.
        let low = place_below (put_at d (domain_unit_count g x) counts) e n at in
        let whole = length_set d (Some (domain_unit_count g x)) counts in
        let places = has.places in
        let put : at_place (put_at d x domains) d ≡ Some x = at_place-put_at d x domains (omega (arith, low, whole, places, same)) in
        let nothing : at_place (put_at d x domains) d ≡ None = subst (λ (k : ℕ). at_place (put_at d x domains) k ≡ None) same none in
        absurd (cc))

-- a domain goes, together with its count
has_counts_clear_at : (g d : ℕ) (domains : List (Option Domain)) (counts : List (Option ℕ)) → HasCounts g domains counts → HasCounts g (clear_at d domains) (clear_at d counts)
has_counts_clear_at g d domains counts has = record {
  places = length_set d _ counts ∙ has.places ∙ sym (length_set d _ domains);
  counts_are = λ e y at. (let was = read_clear_at d e domains y at in at_place-clear_at_other d e counts was.0 ∙ has.counts_are e y was.1);
  others = λ e none. elim (ℕ_discrete e d) [
    | yes same ↦ subst (λ (k : ℕ). at_place (clear_at d counts) k ≡ None) (sym same) (at_place-clear_at d counts)
    | no other ↦ at_place-clear_at_other d e counts other ∙ has.others e (sym (at_place-clear_at_other d e domains other) ∙ none)
  ];
}

-- a domain joins: the records are of the same scheduler, and fit it
abbrev pub JoinFits : ℕ → ℕ → Domain → List (Option Domain) → Records → Records → Type 0
JoinFits g d x domains old next = CountsFit g (put_at d x domains) (shape next) × (records_kind next ≡ records_kind old)

fit_joined : (g t d : ℕ) (x : Domain) (domains : List (Option Domain)) (records : Records) (params : DomParams) → Matches records params → CountsFit g domains (shape records) → JoinFits g d x domains records (joined_records records params d (domain_unit_count g x) t)
fit_joined g t d x domains (Credit2Pool records) (dom_params.Credit2 weight percent) good fit =
    let fresh = credit2.fresh_credit2_domain weight percent (domain_unit_count g x) t in
    let put : measures_of units_in (put_at d fresh records.domains) ≡ put_at d (domain_unit_count g x) (measures_of units_in records.domains) =
    measured_put_at units_in d fresh records.domains ∙ ap (λ (n : ℕ). put_at d n (measures_of units_in records.domains)) (length-replicate (domain_unit_count g x) _) in
    (subst (HasCounts g (put_at d x domains)) (sym put) (has_counts_put_at g d x domains (measures_of units_in records.domains) fit), refl)
fit_joined g t d x domains (RtdsPool units) (dom_params.Rtds period budget extra) good fit =
    let fresh : List RtdsUnit = rtds.fresh_rtds_units period.0 budget.0 extra (domain_unit_count g x) t in
    let put : measures_of length (put_at d fresh units) ≡ put_at d (domain_unit_count g x) (measures_of length units) =
    measured_put_at length d fresh units ∙ ap (λ (n : ℕ). put_at d n (measures_of length units)) (length-replicate (domain_unit_count g x) _) in
    (subst (HasCounts g (put_at d x domains)) (sym put) (has_counts_put_at g d x domains (measures_of length units) fit), refl)
fit_joined g t d x domains (ArincPool records) params good fit = (tt, refl)
fit_joined g t d x domains (NullPool kept) params good fit = (tt, refl)
fit_joined g t d x domains records params good fit = absurd good

pub keeps_joined : (g t d : ℕ) (x : Domain) (domains : List (Option Domain)) (records : Records) (params : DomParams) → Matches records params → 1 ≤ domain_unit_count g x → Keeps g domains (shape records)
    → Keeps g (put_at d x domains) (shape (joined_records records params d (domain_unit_count g x) t)) × (records_kind (joined_records records params d (domain_unit_count g x) t) ≡ records_kind records)
keeps_joined g t d x domains records params good some keeps =
    let fits = fit_joined g t d x domains records params good keeps.fit in
    (record { some_unit = EachPlace-put_at (λ (y : Domain). 1 ≤ domain_unit_count g y) d x domains keeps.some_unit some; fit = fits.0 }, fits.1)

-- a domain parts
fit_parted : (g d : ℕ) (domains : List (Option Domain)) (records : Records) → CountsFit g domains (shape records) → CountsFit g (clear_at d domains) (shape (parted_records records d))
fit_parted g d domains (Credit2Pool records) fit = subst (HasCounts g (clear_at d domains)) (sym (measured_clear_at units_in d records.domains)) (has_counts_clear_at g d domains (measures_of units_in records.domains) fit)
fit_parted g d domains (RtdsPool units) fit = subst (HasCounts g (clear_at d domains)) (sym (measured_clear_at length d units)) (has_counts_clear_at g d domains (measures_of length units) fit)
fit_parted g d domains (ArincPool records) fit = tt
fit_parted g d domains (NullPool kept) fit = tt

pub keeps_parted : (g d : ℕ) (domains : List (Option Domain)) (records : Records) → Keeps g domains (shape records) → Keeps g (clear_at d domains) (shape (parted_records records d))
keeps_parted g d domains records keeps = record {
  some_unit = EachPlace-clear_at (λ (x : Domain). 1 ≤ domain_unit_count g x) d domains keeps.some_unit;
  fit = fit_parted g d domains records keeps.fit;
}
