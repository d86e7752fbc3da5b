use Rattle.std.proofs.Common.{◌≡◌, ◌+◌, ◌-◌, ◌/◌, ◌<◌, ℕ, length, set, sym, subst, ◌∙◌, arith, rules}
use Rattle.due_heap.specs.Winners.{node_winner}
use Rattle.due_heap.proofs.Tree.{winner-inner, winner-leaf, winner-set_same}
use Rattle.due_heap.proofs.Rise.{IsRising, rise_begins, rise_on, rise_ends, rise_rests}
use Rattle.due_heap.proofs.settle.Goals as goal

pub loop-k-init : goal.loop-k-init
loop-k-init c =
    let n = length c.args.winners.now in
    let rising = rise_begins c.args.id c.args.moments.now c.args.winners.now c.requires.id c.requires.but in
    let size = rising.size in
    let id = c.requires.id in
    let own : (n + c.args.id) - n ≡ c.args.id = omega arith in (
      c.requires.but.before,
      rising,
      sym (winner-leaf c.args.winners.now (n + c.args.id) (omega arith) ∙ own),
      omega (arith, size, id),
      omega (arith, size, id),
    )

pub loop-k-preserved : goal.loop-k-preserved
loop-k-preserved c =
    let before = c.loop-k.invariant.0 in
    let rising = c.loop-k.invariant.1 in
    let size = rising.size in
    let inner = rising.inner in
    let above = c.loop-k-test.true in
    let low : c.loop-k.k / 2 < length c.loop-k.winners = omega (arith, size, inner) in
    let kept : length (set c.loop-k.winners (c.loop-k.k / 2) c.play_beside-first.result) ≡ length c.loop-k.winners = search rules in (
      before,
      subst (λ (w : ℕ). IsRising c.args.id c.args.moments.now before (set c.loop-k.winners (c.loop-k.k / 2) w) (c.loop-k.k / 2 / 2)) (sym c.play_beside-first.ensures)
          (rise_on c.args.id c.args.moments.now before c.loop-k.winners (c.loop-k.k / 2) rising (omega (arith, above))),
      sym (winner-set_same c.loop-k.winners (c.loop-k.k / 2) c.play_beside-first.result low),
      omega (arith, above),
      omega (arith, low, kept),
    )

pub returns-then-first-id : goal.returns-then-first-id
returns-then-first-id c =
    let rising = c.loop-k.invariant.1 in
    let size = rising.size in
    let inner = rising.inner in
    let above = c.loop-k-test.true in
    let stays : node_winner c.loop-k.winners (c.loop-k.k / 2) ≡ c.play_beside-first.result =
    winner-inner c.loop-k.winners (c.loop-k.k / 2) (omega (arith, size, inner)) ∙ c.if-winners-k.true
    in
    rise_rests c.args.id c.args.moments.now c.loop-k.invariant.0 c.loop-k.winners (c.loop-k.k / 2) rising (omega (arith, above))
    (stays ∙ c.play_beside-first.ensures) (λ e. c.if-first-id.true (sym stays ∙ e))

pub returns : goal.returns
returns c =
    let test = c.loop-k-test.false in
    rise_ends c.args.id c.args.moments.now c.loop-k.invariant.0 c.loop-k.winners (c.loop-k.k / 2) c.loop-k.invariant.1 (omega (arith, test))
