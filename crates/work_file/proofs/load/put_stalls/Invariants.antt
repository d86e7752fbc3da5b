use Rattle.std.proofs.Common.{◌≡◌, ◌<◌, ◌^◌, ◌++◌}
use Rattle.work_file.specs.Load.{stalls_text, after_stalls}
use Rattle.work_file.proofs.load.put_stalls.Given as goal

abbrev pub invariant-loop-k : goal.invariant-loop-k
invariant-loop-k l = (l.out.items ≡ l.fn.out.items ++ stalls_text l.processors l.k l.fn.draws.state) × (l.draws.state ≡ after_stalls l.k l.fn.draws.state) × (l.draws.state < 2 ^ 31)
