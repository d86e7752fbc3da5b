use Rattle.std.proofs.Common.{rules, ℕ, ◌<◌, [], ◌∷◌, sym, ap, ◌∙◌, subst}
use Rattle.lock_moves.specs.SeatSight.{Seen, Holds, view_moved_name}
use Rattle.lock_moves.specs.Sets.{HasName}
use Rattle.lock_moves.specs.Rests.{first_of_views}
use Rattle.lock_moves.specs.Words.{name_number}
use Rattle.lock_moves.proofs.Named.{name_below}
use Rattle.lock_moves.proofs.Naming.{moves_at}
use Rattle.lock_moves.proofs.set.LockSet.rename.Goals as goal

pub store-requires : goal.store-requires
store-requires g c = let at = ap (λ z. z.view) (sym c.seat.view_is) in let n : ℕ = name_number c.args.name in let low = name_below c.args.seat.now.view.input c.args.name c.requires.name in
    let z = subst (λ (v : Seen). HasName c.args.from.0 n v) at c.requires.from in let to : ℕ = c.args.to.0 in (
      search rules,
      search rules,
      moves_at g.V.Part.part g.V.Part.suits _ _ _ _ _ _ (first_of_views c.seat.inside.badge.views) n c.args.from.0 to z.0 _ (search rules) c.seated-me.ensures.2 low (search rules) c.seat.invariant.1
          (subst (Holds 17) at c.requires.book) (subst (Holds to) at c.requires.to)
          z.1 z.2 c.seat.invariant.2,
    )

pub into_badge-requires : goal.into_badge-requires
into_badge-requires g c = ap (λ z. z.1) (c.store.ensures.2 (name_number c.args.name) (search rules)) ∙ ap (λ z. z.1) c.seated-me.ensures.2

pub invariant_of-seat : goal.invariant_of-seat
invariant_of-seat g c = let is = c.store.ensures.2 (name_number c.args.name) (search rules) in let first = ap first_of_views c.into_badge.ensures.2 in
    let view = first ∙ (ap (λ z. z.0) is ∙ ap (λ z. view_moved_name (name_number c.args.name) c.args.to.0 z.0) c.seated-me.ensures.2) in (
      c.into_badge.ensures.2 ∙ ap (λ v. v ∷ []) (sym first),
      ap (λ v. v.out) view ∙ c.seat.invariant.1,
      subst (λ (z : ℕ). 0 < z) (sym (ap (λ v. v.seen.shares) view)) c.seat.invariant.2,
    )
