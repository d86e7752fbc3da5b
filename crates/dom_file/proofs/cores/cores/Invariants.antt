use Rattle.std.proofs.Common.{◌≡◌, drop, map, Ok}
use Rattle.toml.specs.View.{view}
use Rattle.dom_file.specs.Steps.{◌>>=◌, each}
use Rattle.dom_file.specs.Cores.{core_of, cores_of, with_cores}
use Rattle.dom_file.proofs.cores.cores.Given as goal

-- the cores so far, and those of the values that are left, are those of all values
abbrev pub invariant-loop-value : goal.invariant-loop-value
invariant-loop-value l =
    cores_of l.head l.pools (map view l.values) ≡ (each (core_of l.head l.pools) (map view (drop l.value-index l.values)) >>= λ cores. Ok (with_cores l.cores cores))
