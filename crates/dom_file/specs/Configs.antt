-- The machine that a domain file describes, or the first fault in it.
use Rattle.std.specs.Prelude.{◌≡◌, ℕ, codes, List, [], ◌∷◌, Option, Some, None, Result, Ok, Err, if◌then◌else◌}
use Rattle.std.specs.Str.{is_utf8}
use Rattle.sched_model.specs.declared.config.Config.{Config}
use Rattle.toml.specs.Data.{Data, Members, get_member}
use Rattle.toml.specs.Parse.{parse_document}
use Rattle.dom_file.specs.declared.draft.PoolDraft.{PoolDraft}
use Rattle.dom_file.specs.declared.fault.TableName.TheVariants.{Top}
use Rattle.dom_file.specs.declared.fault.DomCause.{DomCause}
use Rattle.dom_file.specs.declared.fault.DomFault.{DomFault}
use Rattle.dom_file.specs.declared.fault.DomFault.TheVariants.{NoMemory, BadToml, Bad}
use Rattle.dom_file.specs.declared.head.Head.{Head}
use Rattle.dom_file.specs.Steps.{◌>>=◌, at, each}
use Rattle.dom_file.specs.Values.{table_of, array_of}
use Rattle.dom_file.specs.Heads.{head_of}
use Rattle.dom_file.specs.Pools.{pools_in, default_pool}
use Rattle.dom_file.specs.Domains.{domains_in}
use Rattle.dom_file.specs.Finish.{unit_count_check, finished_pools}

-- the tables of an array that has at least low and at most high
abbrev pub tables_of : ℕ → ℕ → Data → Result (List Members) DomCause
tables_of low high d = array_of low high d >>= each table_of

-- the tables of the pools, if the file has any
abbrev pub pool_tables_in : Members → Result (Option (List Members)) DomCause
pool_tables_in table = elim (get_member (codes "pool") table) [ None ↦ Ok None | Some d ↦ tables_of 1 16 d >>= λ tables. Ok (Some tables) ]

-- the tables of the domains
abbrev pub domain_tables_in : Members → Result (List Members) DomCause
domain_tables_in table = elim (get_member (codes "domain") table) [ None ↦ Ok [] | Some d ↦ tables_of 0 64 d ]

-- the pools of the tables, or the one of a file without pools
abbrev pub pools_of_tables : Head → Option (List Members) → Result (List PoolDraft) DomFault
pools_of_tables head None = Ok (default_pool head ∷ [])
pools_of_tables head (Some tables) = pools_in head [] tables

-- the machine of the tables of the pools and of the domains, or the first fault: of each pool, of each domain, of the units in all, of the units in the frames
abbrev pub machine_from : Head → Option (List Members) → List Members → Result Config DomFault
machine_from head pool_tables domain_tables = do
  drafts ← pools_of_tables head pool_tables
  domains ← domains_in head drafts [] domain_tables
  few ← at Top 0 (codes "domain") (unit_count_check head.granularity domains)
  pools ← finished_pools head.granularity domains [] drafts
  Ok (record { granularity = head.granularity; processors = head.processors; horizon = head.horizon; pools = pools; domains = domains })

-- the machine of a table, or the first fault: of the top table, and then of the other tables
unfoldable pub config_of : Members → Result Config DomFault
config_of table = do
  head ← head_of table
  pool_tables ← at Top 0 (codes "pool") (pool_tables_in table)
  domain_tables ← at Top 0 (codes "domain") (domain_tables_in table)
  machine_from head pool_tables domain_tables

-- the table that the bytes spell, if they are a TOML document, which is text in UTF-8
abbrev pub spelled_table : List ℕ → Option Members
spelled_table bytes = if is_utf8 bytes then parse_document bytes else None

-- the machine that the bytes of a domain file describe, or why there is none
unfoldable pub domains_of : List ℕ → Result Config DomFault
domains_of bytes = elim (spelled_table bytes) [ None ↦ Err BadToml | Some table ↦ config_of table ]

-- no table was read: the bytes are no document, or memory was wanted
abbrev pub IsNoTable : List ℕ → DomFault → Type 0
IsNoTable bytes NoMemory = Unit {0}
IsNoTable bytes BadToml = spelled_table bytes ≡ None
IsNoTable bytes (Bad table index key cause) = ⊥
