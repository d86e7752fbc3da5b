-- What the scheduler keeps while a domain comes in and its units get their sets of cores.
use Rattle.std.proofs.Common.{◌≡◌, ◌<◌, ℕ, suc, true, ◌&&◌, List, [], ◌∷◌, refl, ap, ◌∙◌, length}
use Rattle.std.specs.Prelude.{Option, Some, None, option_map, is_some, replicate}
use Rattle.std.proofs.lemmas.List.{length-replicate}
use Rattle.sched_base.specs.Numbers.{domain}
use Rattle.sched_base.specs.declared.Cores.{Cores}
use Rattle.sched_base.specs.declared.UnitId.{UnitId}
use Rattle.sched_model.specs.declared.config.DomParams.{DomParams}
use Rattle.sched_model.specs.declared.config.ParamChange.TheVariants as changes
use Rattle.sched_model.specs.declared.state.Domain.{Domain}
use Rattle.sched_model.specs.declared.state.Pool.{Pool}
use Rattle.sched_model.specs.declared.state.Records.{Records}
use Rattle.sched_model.specs.declared.state.Records.TheVariants.{Credit2Pool}
use Rattle.sched_model.specs.declared.state.Scheduler.{Scheduler}
use Rattle.sched_model.specs.Opening.{pool_with_pins}
use Rattle.sched_model.specs.Places.{at_place, numbers_from}
use Rattle.sched_model.specs.Policy.{changed_records, joined_scheduler, records_kind, pinned_cores}
use Rattle.sched_base.specs.CoreSets.{every_core}
use Rattle.sched_model.specs.Pool.{is_unit_off, pool_with_queued_if_off, pool_with_queued_units, changed_pool, domain_unit_count, pool_with_domain}
use Rattle.sched_model.specs.State.{may_unit_run}
use Rattle.sched_laws.proofs.EachPlace.{at_place-put_at, by_cond, length_set, at_place-change_at}
use Rattle.sched_ops.specs.Conditions.{has_joined_domain}
use Rattle.sched_ops.specs.Seen.{units_of}
use Rattle.sched_ops.specs.Affinity.{joined_unit_count}
use Rattle.sched_laws.proofs.Lists.{length_change_item}
use Rattle.sched_laws.proofs.Records.{same_joined}

-- the schedulers have the same sets of cores, and records of the same kind
record IsLike (a b : Scheduler) : Type 0 where
  sets : a.affinity ≡ b.affinity
  kind : records_kind a.records ≡ records_kind b.records

-- the queue says nothing of either
queued_like : (g d : ℕ) (ns : List ℕ) (pool : Pool) → IsLike (pool_with_queued_units g d ns pool).scheduler pool.scheduler
queued_like g d [] pool = record { sets = refl; kind = refl }
queued_like g d (n ∷ ns) pool =
    let u : UnitId = record { dom = domain d; n = n } in
    let first : IsLike (pool_with_queued_if_off g u pool).scheduler pool.scheduler = by_cond (λ (p : Pool). IsLike p.scheduler pool.scheduler) (may_unit_run g pool u && is_unit_off pool u) _ _ (λ is. record { sets = refl; kind = refl }) (λ is. record { sets = refl; kind = refl }) in
    let rest = queued_like g d ns (pool_with_queued_if_off g u pool) in
    record { sets = rest.sets ∙ first.sets; kind = rest.kind ∙ first.kind }

module _ (g d : ℕ) (x : Domain) (params : DomParams) (pool : Pool) where
  came : IsLike (pool_with_domain g 0 d x params pool).scheduler (joined_scheduler d (domain_unit_count g x) params 0 pool.scheduler)
  came = queued_like g d (numbers_from 0 (domain_unit_count g x)) _

  -- the scheduler stays of its kind, with as many places
  pub kind_joined : records_kind (pool_with_domain g 0 d x params pool).scheduler.records ≡ records_kind pool.scheduler.records
  kind_joined = came.kind ∙ same_joined records_kind (λ a b. refl) (λ a b. refl) pool.scheduler.records params d (domain_unit_count g x) 0

  pub sets_joined : length (pool_with_domain g 0 d x params pool).scheduler.affinity ≡ length pool.scheduler.affinity
  sets_joined = ap (λ (sets : List (Option (List Cores))). length sets) came.sets ∙ length_set d (Some (replicate (domain_unit_count g x) every_core)) pool.scheduler.affinity

  -- the domain's sets of cores are there, one for each unit
  has_sets : d < length pool.scheduler.affinity → at_place (pool_with_domain g 0 d x params pool).scheduler.affinity d ≡ Some (replicate (domain_unit_count g x) every_core)
  has_sets inside = rw came.sets (at_place-put_at d (replicate (domain_unit_count g x) every_core) pool.scheduler.affinity inside)

  pub has_come_in : d < length pool.scheduler.affinity → has_joined_domain (pool_with_domain g 0 d x params pool).scheduler d ≡ true
  has_come_in inside = rw (has_sets inside) refl

  pub units_come_in : d < length pool.scheduler.affinity → units_of (pool_with_domain g 0 d x params pool).scheduler d ≡ domain_unit_count g x
  units_come_in inside = rw (units_of, joined_unit_count, has_sets inside) (length-replicate (domain_unit_count g x) every_core)

-- a set of cores leaves the records as they are
kept_records : (records : Records) (d n : ℕ) (cores : Cores) → changed_records records (changes.Pin (domain d) (Some n) cores) 0 ≡ records
kept_records (Credit2Pool records) d n cores = refl
kept_records a d n cores = refl

module _ (d n : ℕ) (cores : Cores) (pool : Pool) where
  abbrev pin_set : Pool
  pin_set = changed_pool (changes.Pin (domain d) (Some n) cores) 0 pool

  there : at_place pin_set.scheduler.affinity d ≡ option_map (pinned_cores (Some n) cores) (at_place pool.scheduler.affinity d)
  there = at_place-change_at d (pinned_cores (Some n) cores) pool.scheduler.affinity

  -- the domain has as many units as before
  pub still_joined : has_joined_domain pin_set.scheduler d ≡ has_joined_domain pool.scheduler d
  still_joined = rw there (by_sets (at_place pool.scheduler.affinity d))
    where
      by_sets : (o : Option (List Cores)) → is_some (option_map (pinned_cores (Some n) cores) o) ≡ is_some o
      by_sets None = refl
      by_sets (Some sets) = refl

  pub still_units : units_of pin_set.scheduler d ≡ units_of pool.scheduler d
  still_units = rw (units_of, joined_unit_count, there) (by_sets (at_place pool.scheduler.affinity d))
    where
      by_sets : (o : Option (List Cores)) → elim (option_map (pinned_cores (Some n) cores) o) as (λ _. ℕ) [ None ↦ 0 | Some sets ↦ length sets ] ≡ elim o as (λ _. ℕ) [ None ↦ 0 | Some sets ↦ length sets ]
      by_sets None = refl
      by_sets (Some sets) = length_change_item n (λ old. cores) sets

-- the same after all sets of cores of a domain
pub kind_pinned : (d n : ℕ) (pins : List Cores) (pool : Pool) → records_kind (pool_with_pins d n pins pool).scheduler.records ≡ records_kind pool.scheduler.records
kind_pinned d n [] pool = refl
kind_pinned d n (cores ∷ pins) pool = kind_pinned d (suc n) pins (pin_set d n cores pool) ∙ ap records_kind (kept_records pool.scheduler.records d n cores)

pub sets_pinned : (d n : ℕ) (pins : List Cores) (pool : Pool) → length (pool_with_pins d n pins pool).scheduler.affinity ≡ length pool.scheduler.affinity
sets_pinned d n [] pool = refl
sets_pinned d n (cores ∷ pins) pool = sets_pinned d (suc n) pins (pin_set d n cores pool) ∙ length_set d (option_map (pinned_cores (Some n) cores) (at_place pool.scheduler.affinity d)) pool.scheduler.affinity
