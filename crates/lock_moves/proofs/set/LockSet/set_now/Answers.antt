use Rattle.std.proofs.Common.{rules, ℕ, ◌<◌, sym, ap, subst}
use Rattle.lock_moves.specs.SeatSight.{Seen, Holds}
use Rattle.lock_moves.specs.Rests.{first_of_views}
use Rattle.lock_moves.proofs.Naming.{sets_now_at}
use Rattle.lock_moves.proofs.set.LockSet.set_now.Goals as goal

pub store-requires : goal.store-requires
store-requires g c = (
  search rules,
  search rules,
  sets_now_at g.V.Part.part g.V.Part.suits _ _ _ _ _ _ (first_of_views c.seat.inside.badge.views) c.args.t.0 c.seated-me.ensures.2 c.seat.invariant.1
      (subst (λ (z : Seen). (k : ℕ) → k < 18 → Holds k z) (sym (ap (λ z. z.view) c.seat.view_is)) c.requires.all) c.seat.invariant.2,
)
