use Rattle.std.proofs.Common.{ℕ, subst, sym, arith}
use Rattle.due_heap.proofs.Descent.{IsOnWay, way_down, way_first}
use Rattle.due_heap.proofs.leftmost.Goals as goal

pub loop-k-preserved : goal.loop-k-preserved
loop-k-preserved c =
    let tree = c.loop-k.invariant.0 in
    let size = tree.size in
    let inner = c.loop-k-test.true in (
      tree,
      subst (λ (k : ℕ). IsOnWay c.args.t.0 c.args.moments.now c.args.winners.now tree k) (sym c.below-k.ensures)
          (way_down c.args.t.0 c.args.moments.now c.args.winners.now tree c.loop-k.k c.loop-k.invariant.1 (omega (arith, size, inner))),
    )

pub returns-clause-first : goal.returns-clause-first
returns-clause-first c id before =
    let tree = c.loop-k.invariant.0 in
    let size = tree.size in
    let leaf = c.loop-k-test.false in
    way_first c.args.t.0 c.args.moments.now c.args.winners.now tree c.loop-k.k c.loop-k.invariant.1 (omega (arith, size, leaf)) id before
