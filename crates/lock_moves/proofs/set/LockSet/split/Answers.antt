use Rattle.std.proofs.Common.{rules, ℕ, ◌<◌, sym, ap, ◌∙◌, subst}
use Rattle.lock_moves.proofs.Sharing.{splits}
use Rattle.lock_moves.proofs.set.LockSet.split.Goals as goal

pub split_seat-new-requires : goal.split_seat-new-requires
split_seat-new-requires g c = (
  search rules,
  search rules,
  splits g.V.Part.part g.V.Part.suits _ _ _ _ _ (subst (λ (z : ℕ). 1 < z) (sym (ap (λ z. z.0.seen.shares) c.seated-me.ensures.2 ∙ ap (λ z. z.view.shares) c.seat.view_is)) c.requires.two),
)
