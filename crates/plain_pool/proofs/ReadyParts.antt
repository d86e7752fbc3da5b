-- The least so far and of a pool's parts: which moments it is the least of.
use Rattle.std.proofs.Common.{◌≡◌, ◌+◌, ◌⊎◌, ℕ, suc, List, [], ◌∷◌, subst, arith}
use Rattle.std.specs.Prelude.{Option, Some, None}
use Rattle.sched_base.specs.Numbers.{domain}
use Rattle.sched_base.specs.declared.Moment.{Moment}
use Rattle.sched_model.specs.declared.state.Credit2Domain.{Credit2Domain}
use Rattle.sched_model.specs.declared.state.Domain.{Domain}
use Rattle.sched_model.specs.declared.state.Pool.{Pool}
use Rattle.sched_model.specs.declared.state.Processor.{Processor}
use Rattle.sched_model.specs.declared.state.Records.{Records}
use Rattle.sched_model.specs.declared.state.Records.TheVariants.{Credit2Pool, RtdsPool, ArincPool, NullPool}
use Rattle.sched_model.specs.declared.state.Resource.{Resource}
use Rattle.sched_model.specs.declared.state.RtdsUnit.{RtdsUnit}
use Rattle.sched_model.specs.declared.state.Vcpu.{Vcpu}
use Rattle.sched_model.specs.Places.{numbered_items}
use Rattle.pool_laws.specs.ReadyMoments.{lowest_stall_end}
use Rattle.plain_pool.specs.Ready.{IsLeastWith, block_moment, decide_moment, dom_moved_moment, due_moment, least_of_core, least_of_cores, least_of_domain, least_of_domains, least_of_processor, least_of_scheduler, least_of_timers, least_of_units, lesser_moment, move_moment, moved_moment, refill_end, repl_end, save_moment}
use Rattle.plain_pool.proofs.Leasts.{AtItem, AtPlace, IsAt, least_both, least_items, least_none, least_one, least_places, least_same, more_items, no_item, which_item}

-- from when on something of a processor may come
abbrev pub OfProcessor : Pool → Resource → Processor → ℕ → Type 0
OfProcessor pool c q at = IsAt (move_moment c q) at ⊎ IsAt (block_moment pool q) at

processor_least : (pool : Pool) (c : Resource) (q : Processor) (best : ℕ) → IsLeastWith best (OfProcessor pool c q) (least_of_processor pool c best q)
processor_least pool c q best = least_both (least_one best (move_moment c q)) (least_one (lesser_moment best (move_moment c q)) (block_moment pool q))

-- of a core
abbrev pub OfProcessors : Pool → Resource → ℕ → Type 0
OfProcessors pool c at = AtItem (λ i q. OfProcessor pool c q at) c.processors

abbrev pub OfCore : Pool → Resource → ℕ → Type 0
OfCore pool c at = (((OfProcessors pool c at ⊎ IsAt (due_moment c) at) ⊎ IsAt (decide_moment c) at) ⊎ IsAt (save_moment c) at) ⊎ IsAt (moved_moment c) at

core_least : (pool : Pool) (c : Resource) (best : ℕ) → IsLeastWith best (OfCore pool c) (least_of_core pool best c)
unfolding least_of_core
core_least pool c best =
    let siblings = least_items (least_of_processor pool c) (λ i q. OfProcessor pool c q) (λ i q b. processor_least pool c q b) best c.processors in
    least_both (least_both (least_both (least_both siblings (least_one _ (due_moment c))) (least_one _ (decide_moment c))) (least_one _ (save_moment c))) (least_one _ (moved_moment c))

-- of the cores
abbrev pub OfCores : Pool → ℕ → Type 0
OfCores pool at = AtPlace (λ r c. OfCore pool c at) pool.resources

cores_least : (pool : Pool) (best : ℕ) → IsLeastWith best (OfCores pool) (least_of_cores pool best (numbered_items 0 pool.resources))
cores_least pool best = least_places (λ r so_far c. least_of_core pool so_far c) (λ r c. OfCore pool c) 0 (λ r c k b e. core_least pool c b) best pool.resources

-- of a domain with this number
abbrev pub OfDomain : Pool → ℕ → Domain → ℕ → Type 0
OfDomain pool d x at = AtItem (λ n (v : Vcpu). IsAt v.asleep_until at) x.vcpus ⊎ IsAt (dom_moved_moment pool d x) at

domain_least : (pool : Pool) (d : ℕ) (x : Domain) (best : ℕ) → IsLeastWith best (OfDomain pool d x) (least_of_domain pool d best x)
unfolding least_of_domain
domain_least pool d x best =
    least_both (least_items (λ so_far (v : Vcpu). lesser_moment so_far v.asleep_until) (λ n (v : Vcpu). IsAt v.asleep_until) (λ n v b. least_one b v.asleep_until) best x.vcpus) (least_one _ (dom_moved_moment pool d x))

-- of the domains
abbrev pub OfDomains : Pool → ℕ → Type 0
OfDomains pool at = AtPlace (λ d x. OfDomain pool d x at) pool.domains

domains_least : (pool : Pool) (best : ℕ) → IsLeastWith best (OfDomains pool) (least_of_domains pool best (numbered_items 0 pool.domains))
domains_least pool best =
    least_places (λ d so_far x. least_of_domain pool d so_far x) (λ d x. OfDomain pool d x) 0
    (λ d x k b e. (let same : d ≡ k = omega (arith, e) in subst (λ (n : ℕ). IsLeastWith b (OfDomain pool d x) (least_of_domain pool n b x)) same (domain_least pool d x b)))
    best pool.domains

-- of the units of a domain, of which the first has the index n
abbrev pub OfUnit : Pool → Moment → ℕ → ℕ → RtdsUnit → ℕ → Type 0
OfUnit pool end d n x at = IsAt (repl_end pool end (record { dom = domain d; n = n }) x.deadline) at

units_least : (pool : Pool) (end : Moment) (d n : ℕ) (P : ℕ → RtdsUnit → ℕ → Type 0)
    → ((i : ℕ) (x : RtdsUnit) (k best : ℕ) → k ≡ n + i → IsLeastWith best (P i x) (lesser_moment best (repl_end pool end (record { dom = domain d; n = k }) x.deadline)))
    → (best : ℕ) (units : List RtdsUnit) → IsLeastWith best (λ at. AtItem (λ i x. P i x at) units) (least_of_units pool end d n best units)
units_least pool end d n P each best [] = least_same (λ at. AtItem (λ i x. P i x at) []) (λ at none. absurd none) (λ at h. no_item (λ i x. P i x at) h) (least_none best)
units_least pool end d n P each best (x ∷ units) =
    least_same (λ at. AtItem (λ i x. P i x at) (x ∷ units))
    (λ at h. more_items (λ i x. P i x at) x units h)
    (λ at h. which_item (λ i x. P i x at) x units h.place h.item h.there h.has)
    (least_both (each 0 x n best (omega arith)) (units_least pool end d (suc n) (λ i. P (suc i)) (λ i y k b e. each (suc i) y k b (omega (arith, e))) _ units))

unit_least : (pool : Pool) (end : Moment) (d n : ℕ) (x : RtdsUnit) (k best : ℕ) → k ≡ 0 + n → IsLeastWith best (OfUnit pool end d n x) (lesser_moment best (repl_end pool end (record { dom = domain d; n = k }) x.deadline))
unit_least pool end d n x k best e =
    let same : n ≡ k = omega (arith, e) in
    subst (λ (i : ℕ). IsLeastWith best (OfUnit pool end d n x) (lesser_moment best (repl_end pool end (record { dom = domain d; n = i }) x.deadline))) same (least_one best (repl_end pool end (record { dom = domain d; n = n }) x.deadline))

abbrev pub OfUnits : Pool → Moment → ℕ → List RtdsUnit → ℕ → Type 0
OfUnits pool end d units at = AtItem (λ n x. OfUnit pool end d n x at) units

domain_units_least : (pool : Pool) (end : Moment) (d : ℕ) (units : List RtdsUnit) (best : ℕ) → IsLeastWith best (OfUnits pool end d units) (least_of_units pool end d 0 best units)
domain_units_least pool end d units best = units_least pool end d 0 (OfUnit pool end d) (unit_least pool end d) best units

-- of the timers of a scheduler with these records
abbrev pub OfTimers : Pool → Moment → Records → ℕ → Type 0
OfTimers pool end (Credit2Pool records) at = AtPlace (λ d (x : Credit2Domain). IsAt (refill_end end x) at) records.domains
OfTimers pool end (RtdsPool domains) at = AtPlace (λ d (units : List RtdsUnit). OfUnits pool end d units at) domains
OfTimers pool end (ArincPool records) at = ⊥
OfTimers pool end (NullPool kept) at = ⊥

timers_least : (pool : Pool) (end : Moment) (best : ℕ) (records : Records) → IsLeastWith best (OfTimers pool end records) (least_of_timers pool end best records)
unfolding least_of_timers
timers_least pool end best (Credit2Pool records) = least_places (λ d so_far (x : Credit2Domain). lesser_moment so_far (refill_end end x)) (λ d (x : Credit2Domain). IsAt (refill_end end x)) 0 (λ d x k b e. least_one b (refill_end end x)) best records.domains
timers_least pool end best (RtdsPool domains) =
    least_places (λ d so_far (units : List RtdsUnit). least_of_units pool end d 0 so_far units) (λ d (units : List RtdsUnit). OfUnits pool end d units) 0
    (λ d units k b e. (let same : d ≡ k = omega (arith, e) in subst (λ (n : ℕ). IsLeastWith b (OfUnits pool end d units) (least_of_units pool end n 0 b units)) same (domain_units_least pool end d units b)))
    best domains
timers_least pool end best (ArincPool records) = least_none best
timers_least pool end best (NullPool kept) = least_none best

abbrev pub OfScheduler : Pool → Option Moment → ℕ → Type 0
OfScheduler pool None at = ⊥
OfScheduler pool (Some end) at = OfTimers pool end pool.scheduler.records at

scheduler_least : (pool : Pool) (best : ℕ) → IsLeastWith best (OfScheduler pool (lowest_stall_end pool)) (least_of_scheduler pool best)
unfolding least_of_scheduler
scheduler_least pool best = by (lowest_stall_end pool)
  where
    by : (o : Option Moment) → IsLeastWith best (OfScheduler pool o) (elim o as (λ _. ℕ) [ None ↦ best | Some end ↦ least_of_timers pool end best pool.scheduler.records ])
    by None = least_none best
    by (Some end) = timers_least pool end best pool.scheduler.records

-- of the whole pool
abbrev pub OfParts : Pool → ℕ → Type 0
OfParts pool at = (OfCores pool at ⊎ OfDomains pool at) ⊎ OfScheduler pool (lowest_stall_end pool) at

pub parts_least : (pool : Pool) (best : ℕ) → IsLeastWith best (OfParts pool) (least_of_scheduler pool (least_of_domains pool (least_of_cores pool best (numbered_items 0 pool.resources)) (numbered_items 0 pool.domains)))
parts_least pool best = least_both (least_both (cores_least pool best) (domains_least pool _)) (scheduler_least pool _)
