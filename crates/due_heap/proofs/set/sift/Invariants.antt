use Rattle.due_heap.proofs.Told.{AreComeBut, IsBoundBut}
use Rattle.due_heap.proofs.set.sift.Given as goal

-- of the ids that are no longer to be looked at, those that have come are known, and the bound holds of the others
abbrev pub invariant-loop-id : goal.invariant-loop-id
invariant-loop-id l = record {
  come : AreComeBut l.moments l.t.0 l.set l.rest l.sifted.come;
  soon : IsBoundBut l.moments l.t.0 l.set l.rest l.sifted.soon l.sifted.next;
}

abbrev pub decreases-loop-id : goal.decreases-loop-id
decreases-loop-id l = l.rest
