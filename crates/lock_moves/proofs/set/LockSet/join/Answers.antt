use Rattle.std.proofs.Common.{rules, arith, ◌≡◌, ℕ, ◌<◌, sym, ap, ◌∙◌, subst}
use Rattle.lock_moves.specs.SeatSight.{View}
use Rattle.lock_moves.specs.Rests.{first_of_views}
use Rattle.lock_moves.proofs.Naming.{finds_beside}
use Rattle.lock_moves.proofs.Sharing.{joins}
use Rattle.lock_moves.proofs.set.LockSet.join.Goals as goal

pub join_seat-requires : goal.join_seat-requires
join_seat-requires g c = let is : first_of_views c.seat.inside.badge.views ≡ c.into_seat.result.me.0 = ap first_of_views c.into_seat.ensures.2 in (
  search rules,
  search rules,
  search rules,
  search rules,
  joins g.V.Part.part g.V.Part.suits _ _ _ _ _ _ _ (sym (ap (λ (z : View). z.seen.held) is) ∙ (ap (λ z. z.view.held) c.seat.view_is ∙ c.requires.nothing))
      (subst (λ (z : ℕ). 0 < z) (sym (ap (λ z. z.0.seen.shares) c.seated-me.ensures.2)) c.into.invariant.2)
      (subst (λ (z : ℕ). 0 < z) (ap (λ (z : View). z.seen.shares) is) c.seat.invariant.2),
)

pub load-requires : goal.load-requires
load-requires g c =
    let all = ap (λ z. z.0.seen.shares) c.join_seat.ensures.2 in
    let mine = ap (λ z. z.0.seen.shares) c.seated-me.ensures.2 in
    let some = c.into.invariant.2 in (
      search rules,
      search rules,
      finds_beside g.V.Part.part g.V.Part.suits _ _ _ _ _ _ _ (omega (arith, all, mine, some)),
    )
