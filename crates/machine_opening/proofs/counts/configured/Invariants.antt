use Rattle.std.proofs.Common.{◌≡◌, ◌≤◌, take}
use Rattle.machine_parts.specs.Counts.{configured_of}
use Rattle.machine_opening.proofs.counts.configured.Given as goal

abbrev pub invariant-loop-pool : goal.invariant-loop-pool
invariant-loop-pool l = (l.count ≡ configured_of l.kind (take l.pool-index l.pools)) × (l.count ≤ l.pool-index)
