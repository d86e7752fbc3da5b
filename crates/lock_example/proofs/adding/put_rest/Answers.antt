use Rattle.std.proofs.Common.{◌≡◌, ◌+◌, ℕ, [], ◌∷◌, length, length-append, ap, ◌∙◌, subst, arith}
use Rattle.lock_moves.specs.SeatSight.{KnowsBelow}
use Rattle.lock_example.specs.Example.{adding_machine, two_entries}
use Rattle.lock_example.specs.Holders.{AreFrom}
use Rattle.lock_example.proofs.Holding.{from_front}
use Rattle.lock_example.proofs.adding.put_rest.Goals as goal

pub put_last-requires-clause-number : goal.put_last-requires-clause-number
put_last-requires-clause-number c = let i = c.loop-last.invariant in
    let f = from_front 1 c.pop.new.self.items c.in-Some.last (subst (AreFrom 1) c.in-Some.ensures.items i.2) in
    let len = ap length c.in-Some.ensures.items ∙ length-append c.pop.new.self.items (c.in-Some.last ∷ []) in omega (arith, f.1, len, i.1)

pub put_last-requires-clause-below : goal.put_last-requires-clause-below
put_last-requires-clause-below c = let i = c.loop-last.invariant in
    let f = from_front 1 c.pop.new.self.items c.in-Some.last (subst (AreFrom 1) c.in-Some.ensures.items i.2) in
    let len = ap length c.in-Some.ensures.items ∙ length-append c.pop.new.self.items (c.in-Some.last ∷ []) in
    let same : 1 + length c.loop-last.held.items ≡ c.in-Some.last.lock + 1 = omega (arith, f.1, len) in
    subst (λ (n : ℕ). KnowsBelow adding_machine n two_entries c.loop-last.seat.view) same i.3

pub loop-last-preserved : goal.loop-last-preserved
loop-last-preserved c = let i = c.loop-last.invariant in let s = c.put_last.ensures.stands in
    let f = from_front 1 c.pop.new.self.items c.in-Some.last (subst (AreFrom 1) c.in-Some.ensures.items i.2) in
    let len = ap length c.in-Some.ensures.items ∙ length-append c.pop.new.self.items (c.in-Some.last ∷ []) in (
      record { table = s.table; input = s.input; front = s.front; shares = s.shares ∙ i.0.shares },
      omega (arith, len, i.1),
      f.0,
      subst (λ (n : ℕ). KnowsBelow adding_machine n two_entries c.put_last.new.seat.view) f.1 c.put_last.ensures.below,
    )
