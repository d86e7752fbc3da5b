use Rattle.std.proofs.Common.{rules, ◌≡◌, ◌<◌, ℕ, List, [], ◌∷◌, sym, refl, ap, ◌∙◌, subst}
use Rattle.atomic_table.specs.Table.{Me, rest}
use Rattle.lock_moves.specs.declared.content.Content.{Content}
use Rattle.lock_moves.specs.declared.content.Content.TheVariants.{Out, Ledger}
use Rattle.lock_moves.specs.SeatSight.{Known, View, AllBelow, book_known, view_took_book, with_out, Seen, find_lock}
use mathlib.Core.List.{IsPrefix}
use Rattle.journal_core.specs.Books.{Chronicle}
use Rattle.lock_moves.specs.Plays.{Current}
use Rattle.lock_moves.specs.Rests.{first_of_views}
use Rattle.lock_moves.proofs.Finding.{find-head, ledger_out}
use Rattle.lock_moves.proofs.Taking.{settles_at}
use Rattle.lock_moves.proofs.Writing.{tries_book}
use Rattle.lock_moves.proofs.set.LockSet.try_book.Goals as goal

pub compare_exchange-found-requires : goal.compare_exchange-found-requires
compare_exchange-found-requires g c = let at = c.seat.view_is in let rests = c.seat.invariant in let is = c.seated-me.ensures.2 in (
  search rules,
  search rules,
  tries_book g.V.Part.part g.V.Part.suits _ _ _ _ _ _
      (subst (λ (z : List (ℕ × Known)). AllBelow 17 z) (sym (ap (λ z. z.view.held) at) ∙ sym (ap (λ z. z.0.seen.held) is)) c.requires.order)
      (ap (λ z. z.0.out) is ∙ rests.1)
      (subst (λ (z : ℕ). 0 < z) (sym (ap (λ z. z.0.seen.shares) is)) rests.2),
)

pub exchange-content-requires : goal.exchange-content-requires
exchange-content-requires g c = let t = c.compare_exchange-found.ensures.2.0 c.if-found-ne0.false in let p = ap (λ z. z.1) t.2 in (
  search rules,
  (Ledger t.0, p ∙ sym (ap (λ (z : List (ℕ × Content g.row.V.Denot)). (17, Ledger t.0) ∷ rest z) p)),
)

pub load-requires : goal.load-requires
load-requires g c = let t = c.compare_exchange-found.ensures.2.0 c.if-found-ne0.false in let is = c.seated-me.ensures.2 in let rests = c.seat.invariant in
    let v : View = first_of_views c.seat.inside.badge.views in let w : View = view_took_book t.0.history t.1 v in
    let view : c.compare_exchange-found.new.seat.me.0 ≡ w = ap (λ z. z.0) t.2 ∙ ap (λ (z : Me (Content g.row.V.Denot) View). view_took_book t.0.history t.1 z.0) is in
    let slots : rest c.compare_exchange-found.new.seat.me.1 ≡ [] = ap (λ z. rest z.1) t.2 ∙ ap (λ z. z.1) is in (
      search rules,
      search rules,
      settles_at g.V.Part.part g.V.Part.suits _ _ _ _ _ _ w 17 (c.exchange-content.ensures.3 ∙ (λ i. (view i, (17, Out) ∷ slots i))) refl (book_known, find-head 17 (book_known) v.seen.held) rests.2,
    )

pub returns : goal.returns
returns g c = let t = c.compare_exchange-found.ensures.2.0 c.if-found-ne0.false in let same : c.in-Ledger.book ≡ t.0 = ledger_out 17 t.0 c.in-Ledger.book c.exchange-content.result c.compare_exchange-found.new.seat.me.1 _ _ (ap (λ z. z.1) t.2) c.exchange-content.ensures.2 c.in-Ledger.is in
    let was : c.seated-me.result.me.0.seen ≡ c.args.seat.now.view = ap (λ z. z.0.seen) c.seated-me.ensures.2 ∙ ap (λ z. z.view) c.seat.view_is in
    let after : with_out 0 c.compare_exchange-found.new.seat.me.0 ≡ first_of_views c.into_badge-2.result.views = sym (ap first_of_views c.into_badge-2.ensures.2 ∙ (ap (λ z. z.0) c.load.ensures.2 ∙ ap (λ (z : Me (Content g.row.V.Denot) View). with_out 0 z.0) c.exchange-content.ensures.3)) in (
      (t.1, search rules),
      ap (λ (b : Chronicle). b.input) same ∙ (t.3 ∙ ap (λ (v : Seen). v.input) was),
      ap (λ (b : Chronicle). b.limit) same ∙ (t.4 ∙ ap (λ (v : Seen). v.limit) was),
      subst (λ (z : Seen × Chronicle). IsPrefix z.0.front z.1.history) (λ i. (was i, sym same i)) t.5,
      subst (λ (z : View). Current z.seen) after t.6,
      (λ k x f. sym (ap (λ (z : View). z.seen.now) after) ∙ ap (λ z. z.0.seen.now) t.2 ∙ t.7 k x (ap (λ (v : Seen). find_lock k v.held) was ∙ f) ∙ ap (λ (v : Seen). v.now) was),
      λ whole. ap (λ (b : Chronicle). b.history) same ∙ t.8 (ap (λ (v : Seen). v.shares) was ∙ whole) ∙ ap (λ (v : Seen). v.front) was,
    )
