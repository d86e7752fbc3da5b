-- Sets of cores, with bit r for core r.
use Rattle.std.specs.Prelude.{ℕ, ◌-◌, ◌/◌, ◌^◌, bit_or, Bool, List, [], ◌∷◌, Result, Ok, Err, if◌then◌else◌}
use Rattle.std.specs.List.{list_any}
use Rattle.sched_model.specs.State.{has_core_bit}
use Rattle.toml.specs.Data.{Data}
use Rattle.dom_file.specs.declared.draft.PoolDraft.{PoolDraft}
use Rattle.dom_file.specs.declared.fault.DomCause.{DomCause}
use Rattle.dom_file.specs.declared.fault.DomCause.TheVariants.{Twice}
use Rattle.dom_file.specs.declared.head.Head.{Head}
use Rattle.dom_file.specs.Steps.{◌>>=◌, each}
use Rattle.dom_file.specs.Values.{number_of}

-- the set and these cores
abbrev pub with_cores : ℕ → List ℕ → ℕ
with_cores set [] = set
with_cores set (core ∷ cores) = with_cores (bit_or set (2 ^ core)) cores

-- whether one of the pools has the core
abbrev pub is_core_taken : List PoolDraft → ℕ → Bool
is_core_taken pools core = list_any (λ pool. has_core_bit pool.cores core) pools

-- the core of a processor that the machine has; none of the pools may have it
abbrev pub core_of : Head → List PoolDraft → Data → Result ℕ DomCause
core_of head pools d = do
  p ← number_of 0 (head.processors - 1) d
  let core = p / head.granularity in if is_core_taken pools core then Err Twice else Ok core

-- the set of the cores of these processors
abbrev pub cores_of : Head → List PoolDraft → List Data → Result ℕ DomCause
cores_of head pools ds = do
  cores ← each (core_of head pools) ds
  Ok (with_cores 0 cores)

-- the set of all cores of the machine
abbrev pub machine_core_set : Head → ℕ
machine_core_set head = 2 ^ (head.processors / head.granularity) - 1
