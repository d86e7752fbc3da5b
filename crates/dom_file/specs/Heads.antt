-- The keys of the top table that say what the machine is.
use Rattle.std.specs.Prelude.{◌≡◌, ℕ, ◌%◌, ◌==◌, pos, codes, List, [], ◌∷◌, Result, Ok, Err, if◌then◌else◌}
use Rattle.sched_base.specs.Numbers.{moment}
use Rattle.sched_base.specs.declared.Moment.{Moment}
use Rattle.sched_model.specs.CheckedMachine.{IsWithin, most_span}
use Rattle.toml.specs.Data.{Members}
use Rattle.dom_file.specs.declared.fault.TableName.TheVariants.{Top}
use Rattle.dom_file.specs.declared.fault.DomCause.{DomCause}
use Rattle.dom_file.specs.declared.fault.DomCause.TheVariants.{Range}
use Rattle.dom_file.specs.declared.fault.DomFault.{DomFault}
use Rattle.dom_file.specs.declared.head.Head.{Head}
use Rattle.dom_file.specs.Steps.{◌>>=◌, at}
use Rattle.dom_file.specs.Values.{required_value, number_of, number_or_default}
use Rattle.dom_file.specs.Keys.{key_check}

-- all keys of the top table
abbrev pub top_keys : List (List ℕ)
top_keys = codes "format" ∷ codes "granularity" ∷ codes "processors" ∷ codes "horizon_ns" ∷ codes "pool" ∷ codes "domain" ∷ []

-- 1, or 2 for a file that may pin units to cores
abbrev pub format_in : Members → Result ℕ DomCause
format_in table = required_value table (codes "format") >>= number_of 1 2

-- a core has 1, 2 or 4 processors, and 1 where the file does not say
abbrev pub granularity_in : Members → Result ℕ DomCause
granularity_in table = do
  g ← number_or_default (codes "granularity") 1 1 4 table
  if g == 3 then Err (Range (pos 3)) else Ok g

-- 1 to 64 processors, that fill cores of g processors
abbrev pub processors_in : ℕ → Members → Result ℕ DomCause
processors_in g table = do
  d ← required_value table (codes "processors")
  p ← number_of 1 64 d
  if p % g == 0 then Ok p else Err (Range (pos p))

-- the last moment of the run
abbrev pub horizon_in : Members → Result Moment DomCause
horizon_in table = do
  d ← required_value table (codes "horizon_ns")
  t ← number_of 1 most_span d
  Ok (moment t)

-- what the top table says of the whole machine; an unknown key is its first fault
unfoldable pub head_of : Members → Result Head DomFault
head_of table = do
  known ← key_check Top 0 top_keys table
  format ← at Top 0 (codes "format") (format_in table)
  granularity ← at Top 0 (codes "granularity") (granularity_in table)
  processors ← at Top 0 (codes "processors") (processors_in granularity table)
  horizon ← at Top 0 (codes "horizon_ns") (horizon_in table)
  Ok (record { format = format; granularity = granularity; processors = processors; horizon = horizon })

-- the numbers that the later checks lean on
pub record IsHead (head : Head) : Type 0 where
  pub granularity : IsWithin 1 4 head.granularity
  pub processors : IsWithin 1 64 head.processors
  pub whole_cores : head.processors % head.granularity ≡ 0
