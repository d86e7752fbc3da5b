-- The credit of a unit that does not run changes by a reset alone.
use Rattle.std.proofs.Common.{◌≡◌, ◌≢◌, ℕ, zero, suc, List, [], ◌∷◌, map, refl, ap, subst, sym, ◌∙◌, cond}
use Rattle.std.specs.Prelude.{Option, Some, None, option_map, slice_get, slice_set, ℤ, pos, neg_ℤ, is_some, ◌==◌, ◌%◌}
use Rattle.std.specs.List.{AllByRecursion}
use Rattle.std.proofs.Math.Decide.{ℕ_discrete}
use Rattle.sched_base.specs.declared.UnitId.{UnitId}
use Rattle.sched_model.specs.declared.state.Credit2Unit.{Credit2Unit}
use Rattle.sched_model.specs.declared.state.Credit2Domain.{Credit2Domain}
use Rattle.sched_model.specs.declared.state.Credit2Records.{Credit2Records}
use Rattle.sched_model.specs.Places.{at_place, change_at, change_item}
use Rattle.sched_model.specs.Credit2.{most_weight, burned_unit, burned_domain, change_domain, domain_after_return, own_burned_records, domain_after_take, running_records, off_records, domain_after_refill, refilled_pool, domain_with_weight, domain_with_cap, records_with_terms, unit_credit}
use Rattle.sched_laws.proofs.EachPlace.{by_option, by_cond, at_place-change_at}
use Rattle.sched_laws.proofs.Sound.{change_at-twice}
use Rattle.state_ranges.proofs.Budget.{get_map}
use Rattle.state_ranges.proofs.Decided.{unit_rec}
use Rattle.state_ranges.specs.Budgets.{AllRunOnly}
use Rattle.scheduler_records.specs.Bounds.{own_charged, credit_at}
use Rattle.scheduler_records.proofs.Steps.{burn_cur-own}
use Rattle.arrival_queue.specs.Queues.{Queued}
use Rattle.queue_laws.specs.Arrivals.{arrivals}
use Rattle.credit2_core.specs.Keys.{HasCredits}
use Rattle.credit2_core.proofs.Lists.{queued_have, each_has}
use Rattle.credit2_core.proofs.Members.{waits_off, IsElsewhere}

-- the unit, where it has a record, does not run
abbrev pub IsOff : Credit2Records → UnitId → Type 0
IsOff records u = (y : Credit2Unit) → unit_rec records u ≡ Some y → y.burned ≡ None

-- the same of the unit with this index of a list
abbrev IsStill : List Credit2Unit → ℕ → Type 0
IsStill ys n = (y : Credit2Unit) → slice_get ys n ≡ Some y → y.burned ≡ None

-- the credit of the unit with this index, and 0 where there is none
abbrev credit_in : List Credit2Unit → ℕ → ℤ
credit_in ys n = elim (slice_get ys n) [ None ↦ pos 0 | Some y ↦ y.credit ]

item_keeps : (i n : ℕ) (g : Credit2Unit → Credit2Unit) (ys : List Credit2Unit) → ((y : Credit2Unit) → slice_get ys n ≡ Some y → (g y).credit ≡ y.credit) → credit_in (change_item i g ys) n ≡ credit_in ys n
item_keeps i n g [] keeps = refl
item_keeps zero zero g (y ∷ ys) keeps = keeps y refl
item_keeps zero (suc n) g (y ∷ ys) keeps = refl
item_keeps (suc i) zero g (y ∷ ys) keeps = refl
item_keeps (suc i) (suc n) g (y ∷ ys) keeps = item_keeps i n g ys keeps

map_keeps : (n : ℕ) (g : Credit2Unit → Credit2Unit) (ys : List Credit2Unit) → ((y : Credit2Unit) → slice_get ys n ≡ Some y → (g y).credit ≡ y.credit) → credit_in (map g ys) n ≡ credit_in ys n
map_keeps n g [] keeps = refl
map_keeps zero g (y ∷ ys) keeps = keeps y refl
map_keeps (suc n) g (y ∷ ys) keeps = map_keeps n g ys keeps

-- a unit that does not run is not charged
burn_keeps : (most t : ℕ) (d : Credit2Domain) (y : Credit2Unit) → y.burned ≡ None → (burned_unit most t d y).credit ≡ y.credit
burn_keeps most t d y none = by_option (λ (z : Credit2Unit). z.credit ≡ y.credit) y.burned _ _ (λ is. refl) (λ from is. absurd (let e : None ≡ Some from = sym none ∙ is in cc))

-- a change of a domain that keeps the credit of each unit that does not run
abbrev KeepsStill : (Credit2Domain → Credit2Domain) → Type 0
KeepsStill f = (x : Credit2Domain) (n : ℕ) → IsStill x.units n → credit_at (f x) n ≡ credit_at x n

pub set_other : {X : Type 0} (i j : ℕ) (o : Option X) (places : List (Option X)) → j ≢ i → at_place (slice_set places i o) j ≡ at_place places j
set_other i j o [] other = refl
set_other zero zero o (p ∷ places) other = absurd (other refl)
set_other zero (suc j) o (p ∷ places) other = refl
set_other (suc i) zero o (p ∷ places) other = refl
set_other (suc i) (suc j) o (p ∷ places) other = set_other i j o places (λ e. other (ap suc e))

pub domain_keeps : (d : ℕ) (f : Credit2Domain → Credit2Domain) (records : Credit2Records) (u : UnitId) → KeepsStill f → IsOff records u → unit_credit (change_domain d f records) u ≡ unit_credit records u
domain_keeps d f records u keeps off =
    elim (ℕ_discrete u.dom.0 d) [
      | no other ↦ ap (λ (o : Option Credit2Domain). elim o as (λ _. ℤ) [ None ↦ pos 0 | Some x ↦ credit_at x u.n ]) (set_other d u.dom.0 _ records.domains other)
      | yes same ↦ (
          let there : at_place (change_at d f records.domains) u.dom.0 ≡ option_map f (at_place records.domains u.dom.0) = subst (λ k. at_place (change_at k f records.domains) u.dom.0 ≡ option_map f (at_place records.domains u.dom.0)) same (at_place-change_at u.dom.0 f records.domains) in
          ap (λ (o : Option Credit2Domain). elim o as (λ _. ℤ) [ None ↦ pos 0 | Some x ↦ credit_at x u.n ]) there ∙ by_place (at_place records.domains u.dom.0) refl)
    ]
  where
    by_place : (o : Option Credit2Domain) → at_place records.domains u.dom.0 ≡ o → elim (option_map f o) as (λ _. ℤ) [ None ↦ pos 0 | Some x ↦ credit_at x u.n ] ≡ elim o as (λ _. ℤ) [ None ↦ pos 0 | Some x ↦ credit_at x u.n ]
    by_place None is = refl
    by_place (Some x) is = keeps x u.n (λ y at. off y (rw (unit_rec, is) at))

own_keeps : (most t i : ℕ) → KeepsStill (own_charged most t i)
own_keeps most t i x n still =
    let charged : Credit2Domain = record x { units = change_item i (burned_unit most t x) x.units } in
    let first : credit_at charged n ≡ credit_at x n = item_keeps i n (burned_unit most t x) x.units (λ y at. burn_keeps most t x y (still y at)) in
    let back : credit_at (domain_after_return i charged) n ≡ credit_at charged n =
    by_option (λ (z : Credit2Domain). credit_at z n ≡ credit_at charged n) (slice_get charged.units i) charged _ (λ none. refl) (λ u is. item_keeps i n (λ y. record y { held = pos 0 }) charged.units (λ y at. refl))
    in
    by_cond (λ (z : Credit2Domain). credit_at z n ≡ credit_at x n) (x.cap == 0) charged (domain_after_return i charged) (λ free. first) (λ capped. back ∙ first)

take_keeps : (i : ℕ) → KeepsStill (domain_after_take i)
take_keeps i x n still = by_cond (λ (z : Credit2Domain). credit_at z n ≡ credit_at x n) (x.cap == 0) x _ (λ free. refl) (λ capped. item_keeps i n _ x.units (λ y at. refl))

run_keeps : (i : ℕ) (from : Option ℕ) → KeepsStill (λ d. record d { units = change_item i (λ x. record x { burned = from }) d.units })
run_keeps i from x n still = item_keeps i n (λ y. record y { burned = from }) x.units (λ y at. refl)

burns_keep : (most t : ℕ) → KeepsStill (burned_domain most t)
burns_keep most t x n still = map_keeps n (burned_unit most t x) x.units (λ y at. burn_keeps most t x y (still y at))

weight_keeps : (weight : Option ℕ) → KeepsStill (domain_with_weight weight)
weight_keeps None x n still = refl
weight_keeps (Some weight) x n still = map_keeps n (λ (y : Credit2Unit). record y { residual = y.residual % weight }) x.units (λ y at. refl)

cap_keeps : (most t : ℕ) (percent : Option ℕ) → KeepsStill (domain_with_cap most t percent)
cap_keeps most t None x n still = refl
cap_keeps most t (Some percent) x n still = map_keeps n (λ (y : Credit2Unit). record y { held = cond (is_some y.burned) (pos 0) y.held }) (burned_domain most t x).units (λ y at. refl) ∙ burns_keep most t x n still

-- the same of the records of a pool
abbrev pub KeepsIdle : Credit2Records → Credit2Records → Type 0
KeepsIdle records next = (u : UnitId) → IsOff records u → unit_credit next u ≡ unit_credit records u

pub idle_burn_cur : (cur : Option UnitId) (t : ℕ) (records : Credit2Records) → KeepsIdle records (own_burned_records cur t records)
idle_burn_cur None t records u off = refl
idle_burn_cur (Some w) t records u off = subst (λ (r : Credit2Records). unit_credit r u ≡ unit_credit records u) (sym (burn_cur-own w t records)) (domain_keeps w.dom.0 (own_charged (most_weight records) t w.n) records u (own_keeps (most_weight records) t w.n) off)

pub idle_take : (w : UnitId) (records : Credit2Records) → KeepsIdle records (change_domain w.dom.0 (domain_after_take w.n) records)
idle_take w records u off = domain_keeps w.dom.0 (domain_after_take w.n) records u (take_keeps w.n) off

pub idle_set_running : (from : Option ℕ) (w : UnitId) (records : Credit2Records) → KeepsIdle records (running_records from w records)
idle_set_running from w records u off = domain_keeps w.dom.0 (λ d. record d { units = change_item w.n (λ x. record x { burned = from }) d.units }) records u (run_keeps w.n from) off

pub idle_switch_off : (cur : Option UnitId) (records : Credit2Records) → KeepsIdle records (off_records cur records)
idle_switch_off None records u off = refl
idle_switch_off (Some w) records u off = idle_set_running None w records u off

pub idle_refilled : (t d : ℕ) (records : Credit2Records) → KeepsIdle records (refilled_pool t d records)
idle_refilled t d records u off = domain_keeps d (domain_after_refill (most_weight records) t) records u (λ x n still. burns_keep (most_weight records) t x n still) off

-- a new weight keeps which units run
still_weighed : (weight : Option ℕ) (x : Credit2Domain) (n : ℕ) → IsStill x.units n → IsStill (domain_with_weight weight x).units n
still_weighed None x n still = λ y at. still y at
still_weighed (Some weight) x n still = λ y at. (let r = get_map (λ (z : Credit2Unit). record z { residual = z.residual % weight }) x.units n y at in subst (λ (z : Credit2Unit). z.burned ≡ None) r.2 (still r.0 r.1))

pub idle_set_domain : (t d : ℕ) (weight percent : Option ℕ) (records : Credit2Records) → KeepsIdle records (records_with_terms t d weight percent records)
idle_set_domain t d weight percent records u off =
    let most : ℕ = most_weight (change_domain d (domain_with_weight weight) records) in
    let f : Credit2Domain → Credit2Domain = λ x. domain_with_cap most t percent (domain_with_weight weight x) in
    let one : records_with_terms t d weight percent records ≡ change_domain d f records = ap (λ (ds : List (Option Credit2Domain)). record records { domains = ds }) (change_at-twice d (domain_with_cap most t percent) (domain_with_weight weight) records.domains) in
    subst (λ (r : Credit2Records). unit_credit r u ≡ unit_credit records u) (sym one)
    (domain_keeps d f records u (λ x n still. cap_keeps most t percent (domain_with_weight weight x) n (still_weighed weight x n still) ∙ weight_keeps weight x n still) off)

-- the keys of units that wait stay right
pub each_keeps : (records next : Credit2Records) (es : List Queued) → AllByRecursion (λ (e : Queued). unit_credit next e.unit ≡ unit_credit records e.unit) es → HasCredits records es → HasCredits next es
each_keeps records next [] same keys = tt
each_keeps records next (e ∷ es) same keys = (keys.0 ∙ ap (λ (z : ℤ). record { first = neg_ℤ z; second = 0 }) (sym same.0), each_keeps records next es same.1 keys.1)

pub keys_kept : (records next : Credit2Records) (es : List Queued) → KeepsIdle records next → AllRunOnly (IsElsewhere (arrivals es)) records → HasCredits records es → HasCredits next es
keys_kept records next es keeps only keys =
    each_keeps records next es (queued_have (λ (u : UnitId). unit_credit next u ≡ unit_credit records u) es (each_has (arrivals es) (λ u. unit_credit next u ≡ unit_credit records u) (λ u there. keeps u (waits_off (arrivals es) records u only there)))) keys
