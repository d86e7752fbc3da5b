use Rattle.std.proofs.Common.{rules, ◌≡◌, ℕ, List, [], ◌∷◌, sym, refl, ap, ◌∙◌, subst}
use Rattle.atomic_table.specs.Table.{Me, rest}
use Rattle.journal_core.specs.Books.{Chronicle}
use Rattle.lock_moves.specs.declared.content.Content.{Content}
use Rattle.lock_moves.specs.declared.content.Content.TheVariants.{Out, Ledger}
use Rattle.lock_moves.specs.SeatSight.{View, Holds, with_out}
use Rattle.lock_moves.specs.Rests.{first_of_views}
use Rattle.lock_moves.proofs.Taking.{fetches_at}
use Rattle.lock_moves.proofs.Committing.{Follows, commits_at, follows}
use Rattle.lock_moves.proofs.set.LockSet.commit.Goals as goal

pub load-requires : goal.load-requires
load-requires g c = let h = subst (Holds 17) (ap (λ z. z.view) (sym c.seat.view_is)) c.requires.held in (
  search rules,
  search rules,
  fetches_at g.V.Part.part g.V.Part.suits _ _ _ _ _ _ (first_of_views c.seat.inside.badge.views) 17 c.seated-me.ensures.2 c.seat.invariant.1 h c.seat.invariant.2,
)

pub exchange-empty-requires : goal.exchange-empty-requires
exchange-empty-requires g c = let p = ap (λ z. z.1) c.load.ensures.2 in (
  search rules,
  (Out, p ∙ sym (ap (λ (z : List (ℕ × Content g.row.V.Denot)). (17, Out) ∷ rest z) p)),
)

pub store-requires : goal.store-requires
store-requires g c = let v : View = first_of_views c.seat.inside.badge.views in let book : Chronicle = c.b.inside.book in
    let h = subst (Holds 17) (ap (λ z. z.view) (sym c.seat.view_is)) c.requires.held in
    let view : c.load.new.seat.me.0 ≡ with_out 18 v = ap (λ z. z.0) c.load.ensures.2 ∙ ap (λ (z : Me (Content g.row.V.Denot) View). with_out 18 z.0) c.seated-me.ensures.2 in
    let slots : rest c.load.new.seat.me.1 ≡ [] = ap (λ z. rest z.1) c.load.ensures.2 in
    let on : Follows v.seen book = follows c.args.seat.now.view v.seen c.args.b book (ap (λ z. z.view) (sym c.seat.view_is)) (sym c.b.view_is) c.requires.input c.requires.limit c.requires.next c.requires.kept c.requires.placed c.requires.decided c.requires.names c.tell.ensures.run in (
      search rules,
      search rules,
      commits_at g.V.Part.part g.V.Part.suits _ _ _ _ _ _ (with_out 18 v) book h.0 (c.exchange-empty.ensures.3 ∙ (λ i. (view i, (17, Ledger book) ∷ slots i))) refl h.1 c.seat.invariant.2 on,
    )
