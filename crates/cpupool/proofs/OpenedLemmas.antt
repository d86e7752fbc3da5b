-- What the tool keeps at the opening is its part of the state at the opening.
use Rattle.sched_base.specs.Numbers.{moment, domain as domain_number}
use Rattle.std.proofs.Common.{◌≡◌, ◌-◌, ℕ, suc, Bool, true, false, List, [], ◌∷◌, ◌++◌, Option, Some, None, length, map, refl, sym, ◌∙◌, ap, cond}
use Rattle.std.specs.Prelude.{◌==◌, is_some, option_map, replicate, slice_set}
use Rattle.std.specs.List.{list_any}
use Rattle.std.proofs.lemmas.List.{map-append}
use Rattle.sched_base.specs.declared.Cores.{Cores}
use Rattle.sched_base.specs.declared.Moment.{Moment}
use Rattle.sched_model.specs.declared.config.Config.{Config}
use Rattle.sched_model.specs.declared.config.DomConfig.{DomConfig}
use Rattle.sched_model.specs.declared.config.DomParams.{DomParams}
use Rattle.sched_model.specs.declared.config.ParamChange.TheVariants as changes
use Rattle.sched_model.specs.declared.config.PoolConfig.{PoolConfig}
use Rattle.sched_model.specs.declared.config.PoolParams.{PoolParams}
use Rattle.sched_model.specs.declared.config.PoolParams.TheVariants as pool_params
use Rattle.sched_model.specs.declared.machine.Machine.{Machine}
use Rattle.sched_model.specs.declared.work.Work.{Work}
use Rattle.sched_model.specs.declared.state.Domain.{Domain}
use Rattle.sched_model.specs.declared.state.Pool.{Pool}
use Rattle.sched_model.specs.declared.state.Records.{Records}
use Rattle.sched_model.specs.declared.state.Records.TheVariants.{Credit2Pool, RtdsPool, ArincPool, NullPool}
use Rattle.sched_model.specs.declared.state.Resource.{Resource}
use Rattle.sched_model.specs.Places.{put_at, numbers_from}
use Rattle.sched_model.specs.State.{has_core_bit}
use Rattle.sched_model.specs.Policy.{records_kind, empty_records, changed_records, joined_scheduler, joined_records}
use Rattle.sched_model.specs.Pool.{pool_with_domain, changed_pool, pool_with_queued_units, domain_unit_count}
use Rattle.sched_model.specs.Opening.{opening, pool_at_opening, pools_at_opening, free_core_at_opening, fresh_pool, pool_with_domains, pool_with_configured, pool_with_pins, joined_core, vcpu_at_opening, machine_core_count, domain_at_opening}
use Rattle.sched_laws.proofs.Records.{same_joined}
use Rattle.journal_core.specs.Parts.{Outline, UnderWay, core_to, pool_outline, first_answer, core_to_leave, domain_to_move, core_to_join, pool_under_way, state_under_way}
use Rattle.cpupool.specs.Tool.{Tool, tool_of, free_core_ends}
use Rattle.cpupool.specs.OpeningTool.{opened_tool}
use Rattle.cpupool.proofs.AlikeLemmas.{IsAlike, alike, chained, queued_alike}
use Rattle.cpupool.proofs.SubjectLemmas.{length-map as length_map, map_none}
use Rattle.cpupool.specs.OpeningPools.{params_kind, size_at_home, outline_at_opening, outlines_at_opening, free_ends_at_opening}
use Rattle.cpupool.proofs.AnswerLemmas.{no_answer, put_none}
use Rattle.cpupool.specs.Tool.{domain_size}

pinned_records : (records : Records) (d n t : ℕ) (cores : Cores) → changed_records records (changes.Pin (domain_number d) (Some n) cores) t ≡ records
pinned_records (Credit2Pool records) d n t cores = refl
pinned_records (RtdsPool domains) d n t cores = refl
pinned_records (ArincPool records) d n t cores = refl
pinned_records (NullPool kept) d n t cores = refl

-- sets of cores change neither
pinned_alike : (d n : ℕ) (pins : List Cores) (pool : Pool) → IsAlike (pool_with_pins d n pins pool) pool
pinned_alike d n [] pool = alike pool
pinned_alike d n (cores ∷ pins) pool =
    let next : Pool = changed_pool (changes.Pin (domain_number d) (Some n) cores) 0 pool in
    chained (pool_with_pins d (suc n) pins next) next pool (pinned_alike d (suc n) pins next) (record { kind = ap records_kind (pinned_records pool.scheduler.records d n 0 cores); resources = refl; domains = refl })

pub joined_kind : (records : Records) (params : DomParams) (d count t : ℕ) → records_kind (joined_records records params d count t) ≡ records_kind records
joined_kind = same_joined records_kind (λ a b. refl) (λ a b. refl)

-- a domain that joins
joined_alike : (g t d : ℕ) (joining : Domain) (params : DomParams) (pool : Pool) → IsAlike (pool_with_domain g t d joining params pool) (record pool { domains = put_at d joining pool.domains })
joined_alike g t d joining params pool =
    let count : ℕ = domain_unit_count g joining in
    let next : Pool = record pool { domains = put_at d joining pool.domains; scheduler = joined_scheduler d count params t pool.scheduler } in
    chained (pool_with_queued_units g d (numbers_from 0 count) next) next (record pool { domains = put_at d joining pool.domains })
    (queued_alike g d (numbers_from 0 count) next)
    (record { kind = joined_kind pool.scheduler.records params d count t; resources = refl; domains = refl })

configured_alike : (g d : ℕ) (joining : DomConfig) (pool : Pool) → IsAlike (pool_with_configured g d joining pool) (record pool { domains = put_at d (domain_at_opening joining) pool.domains })
configured_alike g d joining pool =
    let next : Pool = pool_with_domain g 0 d (domain_at_opening joining) joining.params pool in
    chained (pool_with_configured g d joining pool) next (record pool { domains = put_at d (domain_at_opening joining) pool.domains })
    (pinned_alike d 0 joining.pins next)
    (joined_alike g 0 d (domain_at_opening joining) joining.params pool)

-- the places of the domains whose home is the pool i, put there one after another
abbrev placed : ℕ → ℕ → List DomConfig → List (Option Domain) → List (Option Domain)
placed i d [] places = places
placed i d (joining ∷ domains) places = placed i (suc d) domains (cond (joining.home.0 == i) (put_at d (domain_at_opening joining) places) places)

one_alike : (g d : ℕ) (joining : DomConfig) (pool : Pool) (here : Bool)
    → IsAlike (cond here (pool_with_configured g d joining pool) pool) (record pool { domains = cond here (put_at d (domain_at_opening joining) pool.domains) pool.domains })
one_alike g d joining pool true = configured_alike g d joining pool
one_alike g d joining pool false = record { kind = refl; resources = refl; domains = refl }

domains_alike : (g i d : ℕ) (domains : List DomConfig) (pool : Pool) → IsAlike (pool_with_domains g i d domains pool) (record pool { domains = placed i d domains pool.domains })
domains_alike g i d [] pool = record { kind = refl; resources = refl; domains = refl }
domains_alike g i d (joining ∷ domains) pool =
    let next : Pool = cond (joining.home.0 == i) (pool_with_configured g d joining pool) pool in
    let rest = domains_alike g i (suc d) domains next in
    let one = one_alike g d joining pool (joining.home.0 == i) in
    record { kind = rest.kind ∙ one.kind; resources = rest.resources ∙ one.resources; domains = rest.domains ∙ ap (placed i (suc d) domains) one.domains }

-- a place behind others is changed
put_seam : {X : Type 0} (front : List X) (y x : X) (rest : List X) → slice_set (front ++ y ∷ rest) (length front) x ≡ (front ++ x ∷ []) ++ rest
put_seam [] y x rest = refl
put_seam (z ∷ front) y x rest = ap (λ xs. z ∷ xs) (put_seam front y x rest)

kept_seam : {X : Type 0} (front : List X) (y : X) (rest : List X) → front ++ y ∷ rest ≡ (front ++ y ∷ []) ++ rest
kept_seam [] y rest = refl
kept_seam (z ∷ front) y rest = ap (λ xs. z ∷ xs) (kept_seam front y rest)

longer : {X : Type 0} (front : List X) (y : X) → length (front ++ y ∷ []) ≡ suc (length front)
longer [] y = refl
longer (z ∷ front) y = ap suc (longer front y)

-- the sizes of the domains that are placed
placed_sizes : (i d : ℕ) (domains : List DomConfig) (front : List (Option Domain)) → length front ≡ d
    → map (option_map domain_size) (placed i d domains (front ++ replicate (length domains) None)) ≡ map (option_map domain_size) front ++ map (size_at_home i) domains
placed_sizes i d [] front at = map-append (option_map domain_size) front []
placed_sizes i d (joining ∷ domains) front at =
    let spare : List (Option Domain) = replicate (length domains) None in
    let sizes : List (Option Domain) → List (Option ℕ) = map (option_map domain_size) in
    let behind : Option Domain → Option ℕ → Type 0 = λ x n. sizes (placed i (suc d) domains ((front ++ x ∷ []) ++ spare)) ≡ sizes front ++ n ∷ map (size_at_home i) domains in
    let next : (x : Option Domain) → sizes (placed i (suc d) domains ((front ++ x ∷ []) ++ spare)) ≡ sizes front ++ option_map domain_size x ∷ map (size_at_home i) domains =
    λ x. placed_sizes i (suc d) domains (front ++ x ∷ []) (longer front x ∙ ap suc at)
    ∙ ap (λ xs. xs ++ map (size_at_home i) domains) (map-append (option_map domain_size) front (x ∷ []))
    ∙ sym (kept_seam (sizes front) (option_map domain_size x) (map (size_at_home i) domains)) in
    elim (joining.home.0 == i) as (λ b. sizes (placed i (suc d) domains (cond b (put_at d (domain_at_opening joining) (front ++ None ∷ spare)) (front ++ None ∷ spare))) ≡ sizes front ++ cond b (Some (length joining.guests)) None ∷ map (size_at_home i) domains) [
      | true ↦
          ap (λ k. sizes (placed i (suc d) domains (slice_set (front ++ None ∷ spare) k (Some (domain_at_opening joining))))) (sym at)
          ∙ ap (λ xs. sizes (placed i (suc d) domains xs)) (put_seam front None (Some (domain_at_opening joining)) spare)
          ∙ next (Some (domain_at_opening joining))
          ∙ ap (λ n. sizes front ++ Some n ∷ map (size_at_home i) domains) (length_map vcpu_at_opening joining.guests)
      | false ↦ ap (λ xs. sizes (placed i (suc d) domains xs)) (kept_seam front None spare) ∙ next None
    ]

-- the pool i with its cores, before its domains join
abbrev bare_pool : Config → PoolConfig → Pool
bare_pool config pool =
    record (fresh_pool config pool.params) {
      resources = map (λ r. cond (has_core_bit pool.cores r) (Some (joined_core (replicate config.granularity (moment 0)))) None) (numbers_from 0 (machine_core_count config));
    }

pool_alike : (config : Config) (i : ℕ) (pool : PoolConfig) → IsAlike (pool_at_opening config i pool) (record (bare_pool config pool) { domains = placed i 0 config.domains (replicate (length config.domains) None) })
pool_alike config i pool = domains_alike config.granularity i 0 config.domains (bare_pool config pool)

flags_there : {X : Type 0} (x : X) (test : ℕ → Bool) (ns : List ℕ) → map is_some (map (λ r. cond (test r) (Some x) None) ns) ≡ map test ns
flags_there x test [] = refl
flags_there x test (n ∷ ns) =
    let flags : Bool → List Bool → List Bool = λ b rest. is_some (cond b (Some x) None) ∷ rest in
    ap (flags (test n)) (flags_there x test ns) ∙ elim (test n) as (λ b. flags b (map test ns) ≡ b ∷ map test ns) [ true ↦ refl | false ↦ refl ]

kind_opened : (params : PoolParams) (domains cores : ℕ) → records_kind (empty_records params domains cores) ≡ params_kind params
kind_opened (pool_params.Credit2 limit) domains cores = refl
kind_opened pool_params.Rtds domains cores = refl
kind_opened (pool_params.Arinc653 frame) domains cores = refl
kind_opened pool_params.Null domains cores = refl

-- a pool at the opening
outline_opened : (config : Config) (i : ℕ) (pool : PoolConfig) → pool_outline (pool_at_opening config i pool) ≡ outline_at_opening (machine_core_count config) config.domains i pool
outline_opened config i pool =
    let same = pool_alike config i pool in
    let kind = same.kind ∙ kind_opened pool.params (length config.domains) (machine_core_count config) in
    let cores = ap (map is_some) same.resources ∙ flags_there (joined_core (replicate config.granularity (moment 0))) (has_core_bit pool.cores) (numbers_from 0 (machine_core_count config)) in
    let domains = ap (map (option_map domain_size)) same.domains ∙ placed_sizes i 0 config.domains [] refl in
    cc (kind, cores, domains)

-- the pools at the opening
pub outlines_opened : (config : Config) (i : ℕ) (pools : List PoolConfig) → map (option_map pool_outline) (pools_at_opening config i pools) ≡ outlines_at_opening (machine_core_count config) config.domains i pools
outlines_opened config i [] = refl
outlines_opened config i (pool ∷ pools) = cc (outline_opened config i pool, outlines_opened config (suc i) pools)

-- the cores that no pool has at the opening
pub free_opened : (config : Config) (ns : List ℕ) → map (option_map free_core_ends) (map (free_core_at_opening config) ns) ≡ map (free_ends_at_opening config.granularity config.pools) ns
free_opened config [] = refl
free_opened config (n ∷ ns) =
    let ends : Bool → List (Option (List Moment)) → List (Option (List Moment)) = λ b rest. option_map free_core_ends (cond b None (Some (record { target = None; stall_ends = replicate config.granularity (moment 0) }))) ∷ rest in
    let plain : Bool → Option (List Moment) = λ b. cond b None (Some (replicate config.granularity (moment 0))) in
    ap (ends (list_any (λ (pool : PoolConfig). has_core_bit pool.cores n) config.pools)) (free_opened config ns)
    ∙ elim (list_any (λ (pool : PoolConfig). has_core_bit pool.cores n) config.pools) as (λ b. ends b (map (free_ends_at_opening config.granularity config.pools) ns) ≡ plain b ∷ map (free_ends_at_opening config.granularity config.pools) ns) [ true ↦ refl | false ↦ refl ]

-- no core is leaving at the opening
cores_still : (x : Resource) → x.leaving ≡ false → (test : ℕ → Bool) (n : ℕ) (ns : List ℕ) → first_answer core_to_leave n (map (λ r. cond (test r) (Some x) None) ns) ≡ None
cores_still x stays test n [] = refl
cores_still x stays test n (k ∷ ns) =
    let rest : List (Option Resource) = map (λ r. cond (test r) (Some x) None) ns in
    let answer : Option UnderWay → Option UnderWay = λ o. elim o [ Some way ↦ Some way | None ↦ first_answer core_to_leave (suc n) rest ] in
    elim (test k) as (λ b. first_answer core_to_leave n (cond b (Some x) None ∷ rest) ≡ None) [
      | true ↦ ap (λ b. answer (cond b (Some (core_to n None)) None)) stays ∙ cores_still x stays test (suc n) ns
      | false ↦ cores_still x stays test (suc n) ns
    ]

-- no domain is moving where fresh ones are put
places_still : (i d : ℕ) (domains : List DomConfig) (places : List (Option Domain)) → first_answer domain_to_move 0 places ≡ None → first_answer domain_to_move 0 (placed i d domains places) ≡ None
places_still i d [] places still = still
places_still i d (joining ∷ domains) places still =
    places_still i (suc d) domains (cond (joining.home.0 == i) (put_at d (domain_at_opening joining) places) places)
    (elim (joining.home.0 == i) as (λ b. first_answer domain_to_move 0 (cond b (put_at d (domain_at_opening joining) places) places) ≡ None) [ true ↦ put_none domain_to_move (domain_at_opening joining) (λ n. refl) d 0 places still | false ↦ still ])

-- nothing is on its way from a pool at the opening
pool_still : (config : Config) (k i : ℕ) (pool : PoolConfig) → pool_under_way k (pool_at_opening config i pool) ≡ None
pool_still config k i pool =
    let same = pool_alike config i pool in
    let cores = ap (first_answer core_to_leave 0) same.resources ∙ cores_still (joined_core (replicate config.granularity (moment 0))) refl (has_core_bit pool.cores) 0 (numbers_from 0 (machine_core_count config)) in
    let domains = ap (first_answer domain_to_move 0) same.domains ∙ places_still i 0 config.domains (replicate (length config.domains) None) (no_answer domain_to_move 0 (length config.domains)) in
    let answer : Option UnderWay → Option UnderWay = λ o. elim o [ Some way ↦ Some way | None ↦ first_answer domain_to_move 0 (pool_at_opening config i pool).domains ] in
    ap answer cores ∙ domains

pools_still : (config : Config) (k i : ℕ) (pools : List PoolConfig) (spare : ℕ) → first_answer pool_under_way k (pools_at_opening config i pools ++ replicate spare None) ≡ None
pools_still config k i [] spare = no_answer pool_under_way k spare
pools_still config k i (pool ∷ pools) spare =
    let answer : Option UnderWay → Option UnderWay = λ o. elim o [ Some way ↦ Some way | None ↦ first_answer pool_under_way (suc k) (pools_at_opening config (suc i) pools ++ replicate spare None) ] in
    ap answer (pool_still config k i pool) ∙ pools_still config (suc k) (suc i) pools spare

free_still : (config : Config) (n : ℕ) (ns : List ℕ) → first_answer core_to_join n (map (free_core_at_opening config) ns) ≡ None
free_still config n [] = refl
free_still config n (k ∷ ns) =
    elim (list_any (λ (pool : PoolConfig). has_core_bit pool.cores k) config.pools) as (λ b. first_answer core_to_join n (cond b None (Some (record { target = None; stall_ends = replicate config.granularity (moment 0) })) ∷ map (free_core_at_opening config) ns) ≡ None) [
      | true ↦ free_still config (suc n) ns
      | false ↦ free_still config (suc n) ns
    ]

-- nothing is on its way at the opening
way_opened : (m : Machine) → state_under_way (opening m) ≡ None
way_opened m =
    let answer : Option UnderWay → Option UnderWay = λ o. elim o [ Some way ↦ Some way | None ↦ first_answer core_to_join 0 (opening m).free ] in
    ap answer (pools_still m.config 0 0 m.config.pools (16 - length m.config.pools)) ∙ free_still m.config 0 (numbers_from 0 (machine_core_count m.config))

-- what the tool keeps at the opening
pub tool_opened : (config : Config) (work : Work) → opened_tool config work ≡ tool_of (record { config = config; work = work }) (opening (record { config = config; work = work }))
tool_opened config work =
    let m : Machine = record { config = config; work = work } in
    let spare : ℕ = 16 - length config.pools in
    let pools = map-append (option_map pool_outline) (pools_at_opening config 0 config.pools) (replicate spare None)
    ∙ ap (λ xs. xs ++ map (option_map pool_outline) (replicate spare None)) (outlines_opened config 0 config.pools)
    ∙ ap (λ xs. outlines_at_opening (machine_core_count config) config.domains 0 config.pools ++ xs) (map_none pool_outline spare) in
    let free = free_opened config (numbers_from 0 (machine_core_count config)) in
    let way = way_opened m in
    let kept : List (Option Outline) → List (Option (List Moment)) → Option UnderWay → Tool = λ ps fs w. record (opened_tool config work) { part = record (opened_tool config work).part { pools = ps; free = fs; under_way = w } } in
    let seen_free : List (Option (List Moment)) = map (option_map free_core_ends) (opening m).free in
    let opened_pools : List (Option Outline) = outlines_at_opening (machine_core_count config) config.domains 0 config.pools ++ replicate spare None in
    let opened_cores : List (Option (List Moment)) = map (free_ends_at_opening config.granularity config.pools) (numbers_from 0 (machine_core_count config)) in
    sym (ap (λ ps. kept ps seen_free (state_under_way (opening m))) pools ∙ ap (λ fs. kept opened_pools fs (state_under_way (opening m))) free ∙ ap (kept opened_pools opened_cores) way)
