use Rattle.std.proofs.Common.{◌≡◌, take, map}
use Rattle.pool_records.specs.Cores.{fresh_processor}
use Rattle.pool_records.proofs.leaving.fresh_processors.Given as goal

abbrev pub invariant-loop-end : goal.invariant-loop-end
invariant-loop-end l = l.processors ≡ map fresh_processor (take l.end-index l.end-items)
