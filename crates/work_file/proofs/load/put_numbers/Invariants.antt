use Rattle.std.proofs.Common.{◌≡◌, ◌++◌}
use Rattle.work_file.specs.Load.{numbers_text}
use Rattle.work_file.proofs.load.put_numbers.Given as goal

abbrev pub invariant-loop-n : goal.invariant-loop-n
invariant-loop-n l = l.out.items ≡ l.fn.out.items ++ numbers_text l.n
