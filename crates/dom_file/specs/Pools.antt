-- The tables of the pools.
use Rattle.std.specs.Prelude.{ℕ, pos, ◌&&◌, nat_lt, count_ones, codes, Bool, List, [], ◌∷◌, ◌++◌, length, Some, None, Result, Ok, Err, if◌then◌else◌}
use Rattle.std.specs.List.{list_any}
use Rattle.std.specs.Str.{bytes_eq}
use Rattle.sched_model.specs.declared.config.SchedKind.{SchedKind}
use Rattle.sched_model.specs.declared.config.SchedKind.TheVariants as kinds
use Rattle.toml.specs.Data.{Members, get_member}
use Rattle.dom_file.specs.declared.draft.ParamsDraft.{ParamsDraft}
use Rattle.dom_file.specs.declared.draft.ParamsDraft.TheVariants as drafts
use Rattle.dom_file.specs.declared.draft.PoolDraft.{PoolDraft}
use Rattle.dom_file.specs.declared.fault.TableName.TheVariants.{Pool}
use Rattle.dom_file.specs.declared.fault.DomCause.{DomCause}
use Rattle.dom_file.specs.declared.fault.DomCause.TheVariants.{Twice, NoSuch, Range}
use Rattle.dom_file.specs.declared.fault.DomFault.{DomFault}
use Rattle.dom_file.specs.declared.head.Head.{Head}
use Rattle.dom_file.specs.Steps.{◌>>=◌, at}
use Rattle.dom_file.specs.Values.{required_value, name_of, text_of, elements_of, number_or_default}
use Rattle.dom_file.specs.Keys.{key_check}
use Rattle.dom_file.specs.Cores.{cores_of, machine_core_set}
use Rattle.dom_file.specs.Frames.{frame_in}

-- whether one of the pools has the name
abbrev pub is_named : List PoolDraft → List ℕ → Bool
is_named pools name = list_any (λ pool. bytes_eq pool.name name) pools

-- a name that none of the earlier pools has
abbrev pub pool_name_in : List PoolDraft → Members → Result (List ℕ) DomCause
pool_name_in pools table = do
  d ← required_value table (codes "name")
  name ← name_of d
  if is_named pools name then Err Twice else Ok name

-- the scheduler of this name
abbrev pub scheduler_named : List ℕ → Result SchedKind DomCause
scheduler_named word =
    if bytes_eq word (codes "credit2") then Ok kinds.Credit2
    else if bytes_eq word (codes "rtds") then Ok kinds.Rtds
    else if bytes_eq word (codes "arinc653") then Ok kinds.Arinc653
    else if bytes_eq word (codes "null") then Ok kinds.Null
    else Err NoSuch

-- the pool's scheduler, and Credit2 where the table does not say
abbrev pub sched_in : Members → Result SchedKind DomCause
sched_in table = elim (get_member (codes "sched") table) [ None ↦ Ok kinds.Credit2 | Some d ↦ text_of d >>= scheduler_named ]

-- a pool of ARINC 653 has one core at most
abbrev pub core_count_check : SchedKind → ℕ → Result ℕ DomCause
core_count_check kinds.Arinc653 cores = if nat_lt 1 (count_ones cores) then Err (Range (pos (count_ones cores))) else Ok cores
core_count_check kind cores = Ok cores

-- the pool's cores, of which no earlier pool has any
abbrev pub cpus_in : Head → List PoolDraft → SchedKind → Members → Result ℕ DomCause
cpus_in head pools kind table = do
  d ← required_value table (codes "cpus")
  ds ← elements_of d
  cores ← cores_of head pools ds
  core_count_check kind cores

-- all keys of a pool with this scheduler
abbrev pub known_pool_keys : SchedKind → List (List ℕ)
known_pool_keys kinds.Credit2 = codes "name" ∷ codes "sched" ∷ codes "cpus" ∷ codes "ratelimit_us" ∷ []
known_pool_keys kinds.Arinc653 = codes "name" ∷ codes "sched" ∷ codes "cpus" ∷ codes "major_ns" ∷ codes "frame" ∷ []
known_pool_keys kind = codes "name" ∷ codes "sched" ∷ codes "cpus" ∷ []

-- the rate limit in microseconds: 0, or 100 to 500000
abbrev pub limit_in : Members → Result ℕ DomCause
limit_in table = do
  limit ← number_or_default (codes "ratelimit_us") 1000 0 500000 table
  if nat_lt 0 limit && nat_lt limit 100 then Err (Range (pos limit)) else Ok limit

-- the parameters of the pool's scheduler
abbrev pub params_in : SchedKind → ℕ → Members → Result ParamsDraft DomFault
params_in kinds.Credit2 index table = at Pool index (codes "ratelimit_us") (limit_in table) >>= λ limit. Ok (drafts.Credit2 limit)
params_in kinds.Rtds index table = Ok drafts.Rtds
params_in kinds.Arinc653 index table = frame_in index table >>= λ frame. Ok (drafts.Arinc653 frame)
params_in kinds.Null index table = Ok drafts.Null

-- the pool of a table that stands behind those of these pools
unfoldable pub pool_in : Head → List PoolDraft → Members → Result PoolDraft DomFault
pool_in head pools table = do
  name ← at Pool (length pools) (codes "name") (pool_name_in pools table)
  kind ← at Pool (length pools) (codes "sched") (sched_in table)
  cores ← at Pool (length pools) (codes "cpus") (cpus_in head pools kind table)
  known ← key_check Pool (length pools) (known_pool_keys kind) table
  params ← params_in kind (length pools) table
  Ok (record { name = name; kind = kind; cores = cores; params = params })

-- these pools, and those of the tables behind theirs
abbrev pub pools_in : Head → List PoolDraft → List Members → Result (List PoolDraft) DomFault
pools_in head pools [] = Ok pools
pools_in head pools (table ∷ tables) = pool_in head pools table >>= λ pool. pools_in head (pools ++ pool ∷ []) tables

-- the pool of a file that has no pools: Credit2, with all processors
abbrev pub default_pool : Head → PoolDraft
default_pool head = record { name = codes "Pool-0"; kind = kinds.Credit2; cores = machine_core_set head; params = drafts.Credit2 1000 }
