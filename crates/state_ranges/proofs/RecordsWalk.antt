-- What each step of a pool keeps of the records of its domains.
use Rattle.std.proofs.Common.{◌≡◌, ◌≤◌, ℕ, Bool, List, [], ◌∷◌, refl, sym, ◌∙◌, length}
use Rattle.std.specs.Prelude.{Option, Some, None, unwrap_or, replicate, ◌&&◌}
use Rattle.std.proofs.lemmas.List.{length-replicate}
use Rattle.sched_base.specs.Numbers.{span, domain as domain_number, pool as pool_number}
use Rattle.sched_base.specs.declared.Moment.{Moment}
use Rattle.sched_base.specs.declared.Span.{Span}
use Rattle.sched_base.specs.declared.UnitId.{UnitId}
use Rattle.sched_model.specs.declared.config.DomParams.{DomParams}
use Rattle.sched_model.specs.declared.config.PoolParams.{PoolParams}
use Rattle.sched_model.specs.declared.config.PoolParams.TheVariants as pool_params
use Rattle.sched_model.specs.declared.config.ParamChange.{ParamChange}
use Rattle.sched_model.specs.declared.config.ParamChange.TheVariants as changes
use Rattle.sched_model.specs.declared.machine.Machine.{Machine}
use Rattle.sched_model.specs.declared.state.Domain.{Domain}
use Rattle.sched_model.specs.declared.state.RtdsUnit.{RtdsUnit}
use Rattle.sched_model.specs.declared.state.Records.{Records}
use Rattle.sched_model.specs.declared.state.Records.TheVariants.{Credit2Pool}
use Rattle.sched_model.specs.declared.state.Pool.{Pool}
use Rattle.sched_model.specs.Commands.{pool_with_rtds_unit}
use Rattle.sched_model.specs.Opening.{machine_core_count}
use Rattle.sched_model.specs.Places.{at_place, put_at, numbers_from}
use Rattle.sched_model.specs.State.{may_unit_run}
use Rattle.sched_model.specs.Policy as policy
use Rattle.sched_model.specs.Policy.{unit_rtds_record, standard_dom_params, standard_pool_params, changed_records, empty_records, records_kind}
use Rattle.sched_model.specs.Pool as pools
use Rattle.sched_model.specs.Pool.{change_domain, core_ask, changed_pool, domain_unit_count, pool_with_domain}
use Rattle.sched_laws.proofs.EachPlace.{EachPlace-empty, is_empty, by_option, by_cond}
use Rattle.sched_laws.proofs.Steps.{IsKeptAt}
use Rattle.sched_laws.proofs.Events.{Anyway, KeptByCommands, KeptByParts, commands_of, kept_by_parts, kept_pause, kept_unpause, kept_marked}
use Rattle.state_ranges.proofs.Measured.{length_measured, read_measured}
use Rattle.state_ranges.proofs.Shape.{shape_decision, shape_replenished, shape_refilled, shape_changed}
use Rattle.state_ranges.specs.Counts.{measures_of, shape, units_in, Matches, Keeps, KeepsPool, CountsFit}
use Rattle.state_ranges.proofs.Counts.{keeps_shape, keeps_change_at, keeps_joined, keeps_parted}
use Rattle.sched_laws.proofs.Ready.{NoEnd}

-- all that is needed of the ends of stalls is nothing; a domain that comes has a unit
abbrev pub AnyEnds : List Moment → Type 0
AnyEnds ends = Unit {0}

abbrev pub SomeUnit : ℕ → ℕ → Domain → Type 0
SomeUnit g d x = 1 ≤ domain_unit_count g x

-- what the queue gains changes neither domains nor records
pub queued : (P : List (Option Domain) → Records → Type 0) (g d : ℕ) (units : List ℕ) (pool : Pool) → P pool.domains pool.scheduler.records → P (pools.pool_with_queued_units g d units pool).domains (pools.pool_with_queued_units g d units pool).scheduler.records
queued P g d [] pool here = here
queued P g d (n ∷ ns) pool here =
    let u : UnitId = record { dom = domain_number d; n = n } in
    queued P g d ns (pools.pool_with_queued_if_off g u pool) (by_cond (λ (p : Pool). P p.domains p.scheduler.records) (may_unit_run g pool u && pools.is_unit_off pool u) (pools.queue_unit u pool) pool (λ is. here) (λ is. here))

-- the parameters of a domain that moves to the pool
pub default_matches : (records : Records) → Matches records (standard_dom_params records)
default_matches (Credit2Pool records) = tt
default_matches records = tt

-- a pool without domains
pub keeps_empty : (g n cores : ℕ) (params : PoolParams) → Keeps g (replicate n None) (shape (empty_records params n cores))
keeps_empty g n cores params = record { some_unit = EachPlace-empty (λ (x : Domain). 1 ≤ domain_unit_count g x) n; fit = none params }
  where
    same_length : {X : Type 0} (measure : X → ℕ) → length (measures_of measure (replicate n None)) ≡ length {A = Option Domain} (replicate n None)
    same_length measure = length_measured measure (replicate n None) ∙ length-replicate n None ∙ sym (length-replicate n None)

    no_counts : {X : Type 0} (measure : X → ℕ) (d : ℕ) → at_place (measures_of measure (replicate n None)) d ≡ None
    no_counts {X} measure d = is_empty (at_place (measures_of measure (replicate n None)) d) (λ k at. (let r = read_measured measure d k (replicate n None) at in EachPlace-empty {X = X} (λ y. ⊥) n d r.0 r.1))

    none : (params : PoolParams) → CountsFit g (replicate n None) (shape (empty_records params n cores))
    none (pool_params.Credit2 limit) = record { places = same_length units_in; counts_are = λ d x at. absurd (EachPlace-empty {X = Domain} (λ y. ⊥) n d x at); others = λ d no. no_counts units_in d }
    none pool_params.Rtds = record { places = same_length {X = List RtdsUnit} length; counts_are = λ d x at. absurd (EachPlace-empty {X = Domain} (λ y. ⊥) n d x at); others = λ d no. no_counts {X = List RtdsUnit} length d }
    none (pool_params.Arinc653 frame) = tt
    none pool_params.Null = tt

module _ (g : ℕ) where
  abbrev K : Pool → Type 0
  K = KeepsPool g

  k_change_domain : (d : ℕ) (f : Domain → Domain) (pool : Pool) → ((x : Domain) → length (f x).vcpus ≡ length x.vcpus) → K pool → K (change_domain d f pool)
  k_change_domain d f pool same keeps = keeps_change_at g d f pool.domains (shape pool.scheduler.records) same keeps

  k_parts : (t : ℕ) → KeptByParts g t Anyway K
  k_parts t = record {
    cores = λ cores pool like keeps. keeps;
    domains = λ d f pool count moving. k_change_domain d f pool count;
    queues = λ u pool runs keeps. keeps;
    dequeues = λ d pool keeps. keeps;
    decides = λ r c pool at on. keeps_shape g pool.domains pool.scheduler.records _ (shape_decision pool.scheduler.records (core_ask g t pool r c) pool.scheduler refl);
    saves = λ r c u pool at is on keeps. keeps;
    replenishes = λ u pool on. keeps_shape g pool.domains pool.scheduler.records _ (shape_replenished pool.scheduler.records t u);
    dues = λ r u x old pool on is keeps. keeps;
    refills = λ d pool on. keeps_shape g pool.domains pool.scheduler.records _ (shape_refilled pool.scheduler.records t d);
  }

  k_commands : KeptByCommands g K
  k_commands = commands_of (k_parts 0)

  pub k_set_params : (change : ParamChange) (t : ℕ) (pool : Pool) → K pool → K (changed_pool change t pool)
  k_set_params change t pool keeps =
      kept_marked k_commands t (λ d next here. here) change (record pool { scheduler = policy.changed_scheduler change t pool.scheduler }) (keeps_shape g pool.domains pool.scheduler.records (changed_records pool.scheduler.records change t) (shape_changed pool.scheduler.records change t) keeps)

  k_set_rtds_unit : (t : ℕ) (period budget : Option Span) (extra : Option Bool) (u : UnitId) (pool : Pool) → K pool → K (pool_with_rtds_unit t period budget extra u pool)
  k_set_rtds_unit t period budget extra u pool keeps =
      by_option K (unit_rtds_record pool.scheduler.records u) _ _ (λ is. keeps)
      (λ x is. k_set_params (changes.«Unit» u (unwrap_or period (span x.next_period)) (unwrap_or budget (span x.next_budget)) (unwrap_or extra x.next_extra)) t pool keeps)

  -- a domain joins
  pub k_with_domain : (t d : ℕ) (domain : Domain) (params : DomParams) (pool : Pool) → Matches pool.scheduler.records params → 1 ≤ domain_unit_count g domain → K pool
      → K (pool_with_domain g t d domain params pool) × (records_kind (pool_with_domain g t d domain params pool).scheduler.records ≡ records_kind pool.scheduler.records)
  k_with_domain t d domain params pool good some keeps =
      queued (λ domains records. Keeps g domains (shape records) × (records_kind records ≡ records_kind pool.scheduler.records)) g d (numbers_from 0 (domain_unit_count g domain))
      (record pool { domains = put_at d domain pool.domains; scheduler = policy.joined_scheduler d (domain_unit_count g domain) params t pool.scheduler })
      (keeps_joined g t d domain pool.domains pool.scheduler.records params good some keeps)

pub records_steps : (m : Machine) (t : ℕ) → IsKeptAt m t NoEnd AnyEnds (SomeUnit m.config.granularity) (KeepsPool m.config.granularity) (KeepsPool m.config.granularity)
records_steps m t =
    record {
      stays = λ pool keeps. keeps;
      weakens = λ pool keeps. keeps;
      settles = λ pool keeps. keeps;
      stalls = λ p end pool any keeps. keeps;
      acts = λ pool action of on. kept_by_parts (k_parts m.config.granularity t) pool action tt;
      leaves = λ r pool keeps. keeps;
      moves = λ d i pool keeps. k_change_domain m.config.granularity d (λ x. record x { moving = Some (pool_number i) }) pool (λ x. refl) keeps;
      pauses = kept_pause (k_commands m.config.granularity);
      unpauses = kept_unpause (k_commands m.config.granularity);
      changes = λ change pool good keeps. k_set_params m.config.granularity change t pool keeps;
      core_comes = λ r ends pool none any keeps. keeps;
      rtds = λ period budget extra u pool good keeps. k_set_rtds_unit m.config.granularity t period budget extra u pool keeps;
      ends_stall = λ k end ends any any2. tt;
      ends_go = λ r c pool at keeps. tt;
      core_goes = λ r pool on keeps. keeps;
      domain_is = λ d domain pool at keeps. keeps.some_unit d domain at;
      domain_comes = λ d domain pool stays none some keeps. (k_with_domain m.config.granularity t d domain (standard_dom_params pool.scheduler.records) pool (default_matches pool.scheduler.records) some keeps).0;
      domain_goes = λ d pool on keeps. keeps_parted m.config.granularity d pool.domains pool.scheduler.records keeps;
      domain_leaves = λ d pool null on keeps. keeps_parted m.config.granularity d pool.domains pool.scheduler.records keeps;
      empty = λ kind. keeps_empty m.config.granularity (length m.config.domains) (machine_core_count m.config) (standard_pool_params kind);
    }
