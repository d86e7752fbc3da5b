use Rattle.std.proofs.Common.{◌∷◌, ◌≤◌, [], ℕ, length, length-append, sym, ap, ◌∙◌, subst, arith}
use Rattle.lock_example.specs.Counters.{AreNew}
use Rattle.lock_example.proofs.Checks.{new-snoc}
use Rattle.lock_example.proofs.input.parts.Goals as goal

pub loop-lock-preserved : goal.loop-lock-preserved
loop-lock-preserved c = let items = c.push_reserved.ensures.items in
    let i = c.loop-lock.invariant in let len = length-append c.loop-lock.parts.items (c.new.result ∷ []) in (
      ap length items ∙ omega (arith, len, i.0),
      subst AreNew (sym items) (new-snoc c.loop-lock.parts.items c.new.result (i.0 ∙ sym c.new.ensures.lock) c.new.ensures.count i.1),
      subst (λ (n : ℕ). 17 ≤ n) (sym c.push_reserved.ensures.capacity) i.2,
    )
