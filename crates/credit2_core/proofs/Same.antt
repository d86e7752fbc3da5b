-- What the changes of one domain leave of the two tables.
use Rattle.std.proofs.Common.{◌≡◌, ℕ, zero, suc, List, [], ◌∷◌, length, map, refl, ap, ◌∙◌}
use Rattle.std.specs.Prelude.{Option, Some, None, option_map, slice_set}
use Rattle.sched_base.specs.Numbers.{moment}
use Rattle.sched_base.specs.declared.UnitId.{UnitId}
use Rattle.std.proofs.lemmas.List.{length-map}
use Rattle.sched_model.specs.declared.state.Credit2Domain.{Credit2Domain}
use Rattle.sched_model.specs.declared.state.Credit2Records.{Credit2Records}
use Rattle.sched_model.specs.Places.{at_place, change_at, change_each}
use Rattle.sched_model.specs.Credit2.{most_weight, burned_unit, burned_domain, change_domain, own_burned_records, off_records, domain_after_refill, refilled_pool, domain_with_weight, domain_with_cap, records_with_terms}
use Rattle.record_laws.specs.Decisions.{number_in}
use Rattle.record_laws.proofs.Credit2Seen.{idle_is, most_stays, ran_by_is}
use Rattle.record_laws.proofs.Charges.{Leaves, leaves_chosen}
use Rattle.credit2_core.specs.Choice.{records_after_run}
use Rattle.credit2_core.specs.Places.{unit_counts, refill_of, refills_of}

module _ {X Y : Type 0} (h : Option X → Y) where
  pub map-set : (i : ℕ) (o : Option X) (places : List (Option X)) → map h (slice_set places i o) ≡ slice_set (map h places) i (h o)
  map-set i o [] = refl
  map-set zero o (p ∷ places) = refl
  map-set (suc i) o (p ∷ places) = ap (λ ys. h p ∷ ys) (map-set i o places)

  pub map-change_at : (i : ℕ) (f : X → X) (places : List (Option X)) → ((x : X) → at_place places i ≡ Some x → h (Some (f x)) ≡ h (Some x)) → map h (change_at i f places) ≡ map h places
  map-change_at i f [] same = refl
  map-change_at zero f (None ∷ places) same = refl
  map-change_at zero f (Some x ∷ places) same = ap (λ y. y ∷ map h places) (same x refl)
  map-change_at (suc i) f (p ∷ places) same = ap (λ ys. h p ∷ ys) (map-change_at i f places same)

  map-change_each : (n : ℕ) (f : ℕ → X → X) (places : List (Option X)) → ((k : ℕ) (x : X) → h (Some (f k x)) ≡ h (Some x)) → map h (change_each n f places) ≡ map h places
  map-change_each n f [] same = refl
  map-change_each n f (None ∷ places) same = ap (λ ys. h None ∷ ys) (map-change_each (suc n) f places same)
  map-change_each n f (Some x ∷ places) same = ap (λ y. y ∷ map h (change_each (suc n) f places)) (same n x) ∙ ap (λ ys. h (Some x) ∷ ys) (map-change_each (suc n) f places same)

-- a change of a domain that keeps how many units it has; one that keeps its refill
abbrev SameCount : (Credit2Domain → Credit2Domain) → Type 0
SameCount f = (x : Credit2Domain) → length (f x).units ≡ length x.units

abbrev SameRefill : (Credit2Domain → Credit2Domain) → Type 0
SameRefill f = (x : Credit2Domain) → (f x).refill ≡ x.refill

pub counts_changed : (d : ℕ) (f : Credit2Domain → Credit2Domain) (records : Credit2Records) → SameCount f → unit_counts (change_domain d f records).domains ≡ unit_counts records.domains
counts_changed d f records same = map-change_at (λ (o : Option Credit2Domain). option_map (λ (d : Credit2Domain). length d.units) o) d f records.domains (λ x at. ap (λ k. Some k) (same x))

pub refills_changed : (d : ℕ) (f : Credit2Domain → Credit2Domain) (records : Credit2Records) → SameRefill f → refills_of (change_domain d f records).domains ≡ refills_of records.domains
refills_changed d f records same = map-change_at refill_of d f records.domains (λ x at. ap (option_map moment) (same x))

weight_count : (weight : Option ℕ) → SameCount (domain_with_weight weight)
weight_count None x = refl
weight_count (Some weight) x = length-map x.units _

cap_count : (most t : ℕ) (percent : Option ℕ) → SameCount (domain_with_cap most t percent)
cap_count most t None x = refl
cap_count most t (Some percent) x = length-map (burned_domain most t x).units _ ∙ length-map x.units (burned_unit most t x)

-- neither changes
pub record IsAlike (records next : Credit2Records) : Type 0 where
  pub counts : unit_counts next.domains ≡ unit_counts records.domains
  pub refills : refills_of next.domains ≡ refills_of records.domains

-- each domain keeps its refill and how many units it has
alike_each : (records next : Credit2Records) (f : ℕ → Credit2Domain → Credit2Domain) → next.domains ≡ change_each 0 f records.domains → ((d : ℕ) (x : Credit2Domain) → Leaves x (f d x)) → IsAlike records next
alike_each records next f is leaves = record {
  counts = ap unit_counts is ∙ map-change_each (λ (o : Option Credit2Domain). option_map (λ (d : Credit2Domain). length d.units) o) 0 f records.domains (λ d x. ap (λ j. Some j) (leaves d x).count);
  refills = ap refills_of is ∙ map-change_each refill_of 0 f records.domains (λ d x. ap (option_map moment) (leaves d x).refill);
}

-- the core idles, or runs the unit
pub alike_idle : (cur : Option UnitId) (t : ℕ) (records : Credit2Records) → IsAlike records (off_records cur (own_burned_records cur t records))
alike_idle cur t records = alike_each records (off_records cur (own_burned_records cur t records)) _ (idle_is t cur records) (λ d x. leaves_chosen (most_weight records) (most_weight (own_burned_records cur t records)) t 0 (number_in d cur) None x (most_stays cur t records))

pub alike_ran : (cur : Option UnitId) (t k : ℕ) (u : UnitId) (records : Credit2Records) → IsAlike records (records_after_run cur t k u (own_burned_records cur t records))
alike_ran cur t k u records = alike_each records (records_after_run cur t k u (own_burned_records cur t records)) _ (ran_by_is t cur records k u) (λ d x. leaves_chosen _ _ t k _ _ x (most_stays cur t records))

pub counts_refilled : (t d : ℕ) (records : Credit2Records) → unit_counts (refilled_pool t d records).domains ≡ unit_counts records.domains
counts_refilled t d records = counts_changed d (domain_after_refill (most_weight records) t) records (λ x. length-map x.units (burned_unit (most_weight records) t x))

pub counts_set_domain : (t d : ℕ) (weight percent : Option ℕ) (records : Credit2Records) → unit_counts (records_with_terms t d weight percent records).domains ≡ unit_counts records.domains
counts_set_domain t d weight percent records =
    let weighted : Credit2Records = change_domain d (domain_with_weight weight) records in
    counts_changed d (domain_with_cap (most_weight weighted) t percent) weighted (cap_count (most_weight weighted) t percent) ∙ counts_changed d (domain_with_weight weight) records (weight_count weight)

-- the moments of the refills, where those of one domain are written anew
pub refills_written : (d : ℕ) (f : Credit2Domain → Credit2Domain) (domains : List (Option Credit2Domain)) → slice_set (refills_of domains) d (refill_of (at_place (change_at d f domains) d)) ≡ refills_of (change_at d f domains)
refills_written d f [] = refl
refills_written zero f (p ∷ domains) = refl
refills_written (suc d) f (p ∷ domains) = ap (λ ys. refill_of p ∷ ys) (refills_written d f domains)

pub refills_put : (d : ℕ) (o : Option Credit2Domain) (domains : List (Option Credit2Domain)) → slice_set (refills_of domains) d (refill_of (at_place (slice_set domains d o) d)) ≡ refills_of (slice_set domains d o)
refills_put d o [] = refl
refills_put zero o (p ∷ domains) = refl
refills_put (suc d) o (p ∷ domains) = ap (λ ys. refill_of p ∷ ys) (refills_put d o domains)
