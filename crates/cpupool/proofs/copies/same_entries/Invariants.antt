use Rattle.std.proofs.Common.{◌≡◌, take}
use Rattle.cpupool.proofs.copies.same_entries.Given as goal

abbrev pub invariant-loop-e : goal.invariant-loop-e
invariant-loop-e l = l.all.items ≡ take l.e-index l.e-items
