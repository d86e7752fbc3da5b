use Rattle.std.proofs.Common.{◌≡◌, take}
use Rattle.std.specs.Prelude.{map, option_map}
use Rattle.cpupool.specs.Tool.{free_core_ends}
use Rattle.cpupool.proofs.reading.read_free.Given as goal

abbrev pub invariant-loop-core : goal.invariant-loop-core
invariant-loop-core l = l.all ≡ map (option_map free_core_ends) (take l.core-index l.free)
