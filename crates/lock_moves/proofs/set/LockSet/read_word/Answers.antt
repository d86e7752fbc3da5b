use Rattle.std.proofs.Common.{rules, ℕ, ◌<◌, sym, ap, subst}
use Rattle.lock_moves.proofs.Naming.{looks}
use Rattle.lock_moves.proofs.set.LockSet.read_word.Goals as goal

pub load-found-requires : goal.load-found-requires
load-found-requires g c = (
  search rules,
  search rules,
  looks g.V.Part.part g.V.Part.suits _ _ _ _ _ _ _ (subst (λ (z : ℕ). 0 < z) (sym (ap (λ z. z.0.seen.shares) c.seated-me.ensures.2)) c.seat.invariant.2),
)
