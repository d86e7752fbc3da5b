use Rattle.std.proofs.Common.{◌-◌, ℕ, set, sym, subst, arith}
use Rattle.due_heap.proofs.Tree.{IsRightFrom, right_from}
use Rattle.due_heap.proofs.play_all.Goals as goal

pub loop-k-preserved : goal.loop-k-preserved
loop-k-preserved c =
    let more = c.loop-k-test.true in
    let inside = c.loop-k.invariant.inside in
    let k = c.loop-k.k - 1 in
    record {
      inside = omega (arith, inside);
      right = subst (λ (w : ℕ). IsRightFrom k c.args.moments.now (set c.loop-k.winners k w)) (sym c.play.ensures)
          (right_from k c.args.moments.now c.loop-k.winners (omega (arith, more)) (omega (arith, more, inside))
          (subst (λ (j : ℕ). IsRightFrom j c.args.moments.now c.loop-k.winners) (omega (arith, more)) c.loop-k.invariant.right));
    }
