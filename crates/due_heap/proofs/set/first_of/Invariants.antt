use Rattle.std.proofs.Common.{ℕ}
use Rattle.std.specs.Prelude.{◌&&◌, not}
use Rattle.due_heap.specs.Words.{IsFirstAmong, has_core_bit}
use Rattle.due_heap.proofs.set.first_of.Given as goal

abbrev pub invariant-loop-id : goal.invariant-loop-id
invariant-loop-id l = IsFirstAmong l.moments (λ (id : ℕ). has_core_bit l.set id && not (has_core_bit l.rest id)) l.first

abbrev pub decreases-loop-id : goal.decreases-loop-id
decreases-loop-id l = l.rest
