use Rattle.std.proofs.Common.{◌≡◌, ◌<◌, ◌^◌, ◌++◌}
use Rattle.work_file.specs.Load.{domains_text, after_domains}
use Rattle.work_file.proofs.load.put_domains.Given as goal

abbrev pub invariant-loop-i : goal.invariant-loop-i
invariant-loop-i l = (l.out.items ≡ l.fn.out.items ++ domains_text l.processors l.i l.fn.draws.state) × (l.draws.state ≡ after_domains l.i l.fn.draws.state) × (l.draws.state < 2 ^ 31)
