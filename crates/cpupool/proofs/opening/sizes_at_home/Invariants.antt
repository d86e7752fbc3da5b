use Rattle.std.proofs.Common.{◌≡◌, take}
use Rattle.std.specs.Prelude.{map}
use Rattle.cpupool.specs.OpeningPools.{size_at_home}
use Rattle.cpupool.proofs.opening.sizes_at_home.Given as goal

abbrev pub invariant-loop-d : goal.invariant-loop-d
invariant-loop-d l = l.sizes ≡ map (size_at_home l.pool.0) (take l.d-index l.domains)
