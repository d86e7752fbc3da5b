use Rattle.std.proofs.Common.{◌+◌, ◌≤◌, ℕ, [], ◌∷◌, length, length-append, sym, ap, ◌∙◌, subst, arith}
use Rattle.lock_example.specs.Holders.{AreFrom}
use Rattle.lock_example.proofs.Holding.{from_none, from_snoc}
use Rattle.lock_example.proofs.adding.take_rest.Goals as goal

pub loop-lock-init : goal.loop-lock-init
loop-lock-init g c = (c.requires.stands, c.requires.below, ap (λ l. length l + 1) c.requires.empty, from_none 1 c.args.held.now.items c.requires.empty, c.requires.room)

pub loop-lock-preserved : goal.loop-lock-preserved
loop-lock-preserved g c = let i = c.loop-lock.invariant in let s = c.take_next.ensures.stands in let items = c.push_reserved.ensures.items in
    let len = length-append c.loop-lock.held.items (c.take_next.result ∷ []) in (
      record { table = s.table; input = s.input; front = s.front; shares = s.shares ∙ i.0.shares },
      c.take_next.ensures.below,
      ap (λ l. length l + 1) items ∙ omega (arith, len, i.2),
      subst (AreFrom 1) (sym items) (from_snoc 1 c.loop-lock.held.items c.take_next.result (c.take_next.ensures.lock ∙ omega (arith, i.2)) i.3),
      subst (λ (n : ℕ). 16 ≤ n) (sym c.push_reserved.ensures.capacity) i.4,
    )
