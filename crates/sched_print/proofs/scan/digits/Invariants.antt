use Rattle.std.proofs.Common.{◌≡◌, ◌<◌, ◌≤◌, length}
use Rattle.sched_print.specs.Readers.{digits_at}
use Rattle.sched_print.proofs.scan.digits.Given as goal

abbrev pub invariant-loop-rest : goal.invariant-loop-rest
invariant-loop-rest l = (digits_at l.high l.n l.rest ≡ digits_at l.high l.fn.first l.fn.bytes) × (l.n < l.high) × (l.fn.first ≤ l.n)

abbrev pub decreases-loop-rest : goal.decreases-loop-rest
decreases-loop-rest l = length l.rest
