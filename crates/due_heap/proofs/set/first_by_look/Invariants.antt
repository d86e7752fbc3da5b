use Rattle.due_heap.proofs.Told.{AreLookedAt}
use Rattle.due_heap.proofs.set.first_by_look.Given as goal

abbrev pub invariant-loop-id : goal.invariant-loop-id
invariant-loop-id l = AreLookedAt l.moments l.t.0 l.rest

abbrev pub decreases-loop-id : goal.decreases-loop-id
decreases-loop-id l = l.rest
