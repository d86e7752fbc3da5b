use Rattle.std.proofs.Common.{rules, ℕ, ◌<◌, [], ◌∷◌, sym, ap, ◌∙◌, subst}
use Rattle.journal_core.specs.Books.{Chronicle}
use Rattle.lock_moves.specs.SeatSight.{Seen, Holds, after_naming, view_naming}
use Rattle.lock_moves.specs.Rests.{first_of_views}
use Rattle.lock_moves.specs.Plays.{Next}
use Rattle.lock_moves.proofs.Named.{core_below}
use Rattle.lock_moves.proofs.Staging.{stages_raised_at, stage_fits}
use Rattle.lock_moves.proofs.set.LockSet.set_stage.Goals as goal

pub fetch_add-requires : goal.fetch_add-requires
fetch_add-requires g c = let at = ap (λ z. z.view) (sym c.seat.view_is) in let low = core_below c.args.seat.now.view.input c.args.r.0 c.requires.core in
    let next = subst (λ (z : Seen × Chronicle). Next z.0.front z.1.history) (λ i. (at i, sym c.b.view_is i)) c.requires.held in (
      search rules,
      search rules,
      stages_raised_at g.V.Part.part g.V.Part.suits _ _ _ _ _ _ (first_of_views c.seat.inside.badge.views) c.args.r.0 _ (search rules) c.seated-me.ensures.2 low c.seat.invariant.1 (ap (λ (v : Seen). v.named) (sym at) ∙ c.requires.nobody)
          (subst (Holds 17) at c.requires.book) (stage_fits _ _ c.args.r.0 _ next c.tell.ensures.fits c.tell.ensures.few) c.seat.invariant.2,
    )

pub into_badge-requires : goal.into_badge-requires
into_badge-requires g c = ap (λ z. z.1) (c.fetch_add.ensures.2 c.args.r.0 (search rules)) ∙ ap (λ z. z.1) c.seated-me.ensures.2

pub invariant_of-seat : goal.invariant_of-seat
invariant_of-seat g c = let is = c.fetch_add.ensures.2 c.args.r.0 (search rules) in let first = ap first_of_views c.into_badge.ensures.2 in
    let view = first ∙ (ap (λ z. z.0) is ∙ ap (λ z. view_naming c.args.r.0 z.0) c.seated-me.ensures.2) in (
      c.into_badge.ensures.2 ∙ ap (λ v. v ∷ []) (sym first),
      ap (λ v. v.out) view ∙ c.seat.invariant.1,
      subst (λ (z : ℕ). 0 < z) (sym (ap (λ v. v.seen.shares) view)) c.seat.invariant.2,
    )

pub returns : goal.returns
returns g c = let is = c.fetch_add.ensures.2 c.args.r.0 (search rules) in
    let view = ap (λ l. (first_of_views l).seen) c.into_badge.ensures.2 ∙ (ap (λ z. z.0.seen) is ∙ (ap (λ z. after_naming c.args.r.0 z.0.seen) c.seated-me.ensures.2 ∙ ap (λ z. after_naming c.args.r.0 z.view) c.seat.view_is)) in
    let table = c.into_badge.ensures.0 ∙ (c.fetch_add.ensures.0 ∙ (c.seated-me.ensures.0 ∙ ap (λ z. z.table) c.seat.view_is)) in
    let id = c.into_badge.ensures.1 ∙ (c.fetch_add.ensures.1 ∙ (c.seated-me.ensures.1 ∙ ap (λ z. z.id) c.seat.view_is)) in
    λ i. record { table = table i; id = id i; view = view i }
