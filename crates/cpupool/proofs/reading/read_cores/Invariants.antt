use Rattle.std.proofs.Common.{◌≡◌, take}
use Rattle.std.specs.Prelude.{map, is_some}
use Rattle.cpupool.proofs.reading.read_cores.Given as goal

abbrev pub invariant-loop-core : goal.invariant-loop-core
invariant-loop-core g l = l.flags ≡ map is_some (take l.core-index l.cores)
