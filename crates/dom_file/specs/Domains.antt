-- The tables of the domains.
use Rattle.std.specs.Prelude.{ℕ, suc, ◌*◌, ◌==◌, min, codes, Bool, true, List, [], ◌∷◌, ◌++◌, length, slice_get, Some, None, Result, Ok, Err, if◌then◌else◌}
use Rattle.std.specs.List.{list_any}
use Rattle.std.specs.Str.{bytes_eq}
use Rattle.sched_base.specs.Numbers.{span, pool}
use Rattle.sched_model.specs.declared.config.SchedKind.{SchedKind}
use Rattle.sched_model.specs.declared.config.SchedKind.TheVariants as kinds
use Rattle.sched_model.specs.declared.config.DomConfig.{DomConfig}
use Rattle.sched_model.specs.declared.config.DomParams.{DomParams}
use Rattle.sched_model.specs.declared.config.DomParams.TheVariants as dom_params
use Rattle.toml.specs.Data.{Members, get_member}
use Rattle.dom_file.specs.declared.draft.PoolDraft.{PoolDraft}
use Rattle.dom_file.specs.declared.domain.HomePool.{HomePool}
use Rattle.dom_file.specs.declared.fault.TableName.TheVariants.{Domain}
use Rattle.dom_file.specs.declared.fault.DomCause.{DomCause}
use Rattle.dom_file.specs.declared.fault.DomCause.TheVariants.{Twice, NoSuch, Empty}
use Rattle.dom_file.specs.declared.fault.DomFault.{DomFault}
use Rattle.dom_file.specs.declared.head.Head.{Head}
use Rattle.dom_file.specs.Steps.{◌>>=◌, at}
use Rattle.dom_file.specs.Values.{required_value, name_of, truth_of, number_or_default}
use Rattle.dom_file.specs.Keys.{key_check}
use Rattle.dom_file.specs.Guests.{scripts_of}
use Rattle.dom_file.specs.Pins.{guest_unit_count, pins_in}

-- whether one of the domains has the name
abbrev pub has_domain_named : List DomConfig → List ℕ → Bool
has_domain_named domains name = list_any (λ d. bytes_eq d.name name) domains

-- a name that none of the earlier domains has
abbrev pub domain_name_in : List DomConfig → Members → Result (List ℕ) DomCause
domain_name_in domains table = do
  d ← required_value table (codes "name")
  name ← name_of d
  if has_domain_named domains name then Err Twice else Ok name

-- the number of the pool with the name, the first of the list having the number n
abbrev pub named_pool_number : ℕ → List PoolDraft → List ℕ → Result ℕ DomCause
named_pool_number n [] name = Err NoSuch
named_pool_number n (p ∷ pools) name = if bytes_eq p.name name then Ok n else named_pool_number (suc n) pools name

-- the number of the domain's home, which is the first pool where the table does not say
abbrev pub home_place_in : List PoolDraft → Members → Result ℕ DomCause
home_place_in pools table = elim (get_member (codes "pool") table) [ None ↦ Ok 0 | Some d ↦ name_of d >>= named_pool_number 0 pools ]

-- a domain's home has a processor
abbrev pub home_with_cores : List PoolDraft → ℕ → Result HomePool DomCause
home_with_cores pools n = elim (slice_get pools n) [
  | None ↦ Err NoSuch
  | Some p ↦ (if p.cores == 0 then Err Empty else Ok (record { pool = pool n; kind = p.kind }))
]

-- the domain's home
abbrev pub home_in : List PoolDraft → Members → Result HomePool DomCause
home_in pools table = home_place_in pools table >>= home_with_cores pools

-- the keys of a domain in a pool of this scheduler, besides those of every domain
abbrev pub own_keys : SchedKind → List (List ℕ)
own_keys kinds.Credit2 = codes "weight" ∷ codes "cap" ∷ []
own_keys kinds.Rtds = codes "period_us" ∷ codes "budget_us" ∷ codes "extratime" ∷ []
own_keys kind = []

-- all keys of a domain in a pool of this scheduler; format 2 alone has pins
abbrev pub known_domain_keys : ℕ → SchedKind → List (List ℕ)
known_domain_keys format kind = codes "name" ∷ codes "pool" ∷ codes "guests" ∷ own_keys kind ++ (if format == 1 then [] else codes "pins" ∷ [])

-- the period in microseconds
abbrev pub period_in : Members → Result ℕ DomCause
period_in table = number_or_default (codes "period_us") 10000 10 1000000000 table

-- the budget in microseconds, at most the period
abbrev pub budget_in : ℕ → Members → Result ℕ DomCause
budget_in period table = number_or_default (codes "budget_us") (min period 4000) 10 period table

-- whether the domain's units may run in time that is left over
abbrev pub extra_in : Members → Result Bool DomCause
extra_in table = elim (get_member (codes "extratime") table) [ None ↦ Ok true | Some d ↦ truth_of d ]

-- the parameters of a domain in a pool of this scheduler; the file's microseconds become nanoseconds
abbrev pub params_in : SchedKind → ℕ → Members → Result DomParams DomFault
params_in kinds.Credit2 index table = do
  weight ← at Domain index (codes "weight") (number_or_default (codes "weight") 256 1 65535 table)
  cap ← at Domain index (codes "cap") (number_or_default (codes "cap") 0 0 6400 table)
  Ok (dom_params.Credit2 weight cap)
params_in kinds.Rtds index table = do
  period ← at Domain index (codes "period_us") (period_in table)
  budget ← at Domain index (codes "budget_us") (budget_in period table)
  extra ← at Domain index (codes "extratime") (extra_in table)
  Ok (dom_params.Rtds (span (period * 1000)) (span (budget * 1000)) extra)
params_in kinds.Arinc653 index table = Ok dom_params.Arinc653
params_in kinds.Null index table = Ok dom_params.Null

-- the domain of a table that stands behind those of these domains
unfoldable pub domain_in : Head → List PoolDraft → List DomConfig → Members → Result DomConfig DomFault
domain_in head pools domains table = do
  name ← at Domain (length domains) (codes "name") (domain_name_in domains table)
  home ← at Domain (length domains) (codes "pool") (home_in pools table)
  guests ← at Domain (length domains) (codes "guests") (scripts_of table)
  pins ← at Domain (length domains) (codes "pins") (pins_in head (guest_unit_count head.granularity (length guests)) table)
  known ← key_check Domain (length domains) (known_domain_keys head.format home.kind) table
  params ← params_in home.kind (length domains) table
  Ok (record { name = name; home = home.pool; guests = guests; params = params; pins = pins })

-- these domains, and those of the tables behind theirs
abbrev pub domains_in : Head → List PoolDraft → List DomConfig → List Members → Result (List DomConfig) DomFault
domains_in head pools domains [] = Ok domains
domains_in head pools domains (table ∷ tables) = domain_in head pools domains table >>= λ d. domains_in head pools (domains ++ d ∷ []) tables
