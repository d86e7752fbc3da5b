use Rattle.std.proofs.Common.{rules, ◌≡◌, ◌<◌, ℕ, List, [], ◌∷◌, sym, refl, ap, ◌∙◌, subst}
use Rattle.atomic_table.specs.Table.{Me, rest}
use Rattle.lock_moves.specs.declared.content.Content.{Content}
use Rattle.lock_moves.specs.declared.content.Content.TheVariants.{Out, Value}
use Rattle.lock_moves.specs.SeatSight.{Known, Seen, View, AllBelow, find_lock, known_part, view_took, with_out}
use Rattle.lock_moves.specs.Rests.{first_of_views}
use Rattle.lock_moves.specs.Plays.{Lists, IsPartOfSome}
use Rattle.lock_moves.proofs.Finding.{find-head, value_out}
use Rattle.lock_moves.proofs.Taking.{tries, settles_at}
use Rattle.lock_moves.proofs.set.LockSet.try_lock.Goals as goal

pub compare_exchange-found-requires : goal.compare_exchange-found-requires
compare_exchange-found-requires g c = let at = c.seat.view_is in let rests = c.seat.invariant in let is = c.seated-me.ensures.2 in (
  search rules,
  search rules,
  tries g.V.Part.part g.V.Part.suits _ _ _ _ _ _ _ c.requires.number
      (subst (λ (z : List (ℕ × Known)). AllBelow c.args.lock.0 z) (sym (ap (λ z. z.view.held) at) ∙ sym (ap (λ z. z.0.seen.held) is)) c.requires.order)
      (ap (λ z. z.0.out) is ∙ rests.1)
      (subst (λ (z : ℕ). 0 < z) (sym (ap (λ z. z.0.seen.shares) is)) rests.2),
)

pub exchange-content-requires : goal.exchange-content-requires
exchange-content-requires g c = let t = c.compare_exchange-found.ensures.2.0 c.if-found-ne0.false in let p = ap (λ z. z.1) t.3 in (
  search rules,
  (Value t.0, p ∙ sym (ap (λ (z : List (ℕ × Content g.row.V.Denot)). (c.args.lock.0, Value t.0) ∷ rest z) p)),
)

pub load-requires : goal.load-requires
load-requires g c = let t = c.compare_exchange-found.ensures.2.0 c.if-found-ne0.false in let is = c.seated-me.ensures.2 in let rests = c.seat.invariant in
    let v : View = first_of_views c.seat.inside.badge.views in let k : ℕ = c.args.lock.0 in let w : View = view_took k (g.V.Part.part t.0) t.1 t.2 v in
    let view : c.compare_exchange-found.new.seat.me.0 ≡ w = ap (λ z. z.0) t.3 ∙ ap (λ (z : Me (Content g.row.V.Denot) View). view_took k (g.V.Part.part t.0) t.1 t.2 z.0) is in
    let slots : rest c.compare_exchange-found.new.seat.me.1 ≡ [] = ap (λ z. rest z.1) t.3 ∙ ap (λ z. z.1) is in (
      search rules,
      search rules,
      settles_at g.V.Part.part g.V.Part.suits _ _ _ _ _ _ w k (c.exchange-content.ensures.3 ∙ (λ i. (view i, (k, Out) ∷ slots i))) refl (known_part (g.V.Part.part t.0) t.1, find-head k (known_part (g.V.Part.part t.0) t.1) v.seen.held) rests.2,
    )

pub returns : goal.returns
returns g c = let t = c.compare_exchange-found.ensures.2.0 c.if-found-ne0.false in let same : c.in-Value.value ≡ t.0 = value_out c.args.lock.0 t.0 c.in-Value.value c.exchange-content.result c.compare_exchange-found.new.seat.me.1 _ _ (ap (λ z. z.1) t.3) c.exchange-content.ensures.2 c.in-Value.is in
    let was : c.seated-me.result.me.0.seen ≡ c.args.seat.now.view = ap (λ z. z.0.seen) c.seated-me.ensures.2 ∙ ap (λ z. z.view) c.seat.view_is in
    let after : with_out 0 c.compare_exchange-found.new.seat.me.0 ≡ first_of_views c.into_badge-2.result.views = sym (ap first_of_views c.into_badge-2.ensures.2 ∙ (ap (λ z. z.0) c.load.ensures.2 ∙ ap (λ (z : Me (Content g.row.V.Denot) View). with_out 0 z.0) c.exchange-content.ensures.3)) in
    let now : (first_of_views c.into_badge-2.result.views).seen.now ≡ t.2 = sym (ap (λ (z : View). z.seen.now) after) ∙ ap (λ z. z.0.seen.now) t.3 in (
      refl,
      (t.1, t.2, search rules, subst (λ (y : g.row.V.Denot). Lists (g.V.Part.part y) t.1) (sym same) t.4),
      subst (λ (y : g.row.V.Denot). g.V.Part.suits c.args.seat.now.view.input (first_of_views c.into_badge-2.result.views).seen.now y) (sym same)
          (subst (λ (n : ℕ). g.V.Part.suits c.args.seat.now.view.input n t.0) (sym now) (subst (λ (v : Seen). g.V.Part.suits v.input t.2 t.0) was t.5)),
      (λ j x f. now ∙ (t.6 j x (ap (λ (v : Seen). find_lock j v.held) was ∙ f) ∙ ap (λ (v : Seen). v.now) was)),
      subst (λ (y : g.row.V.Denot). IsPartOfSome c.args.lock.0 (g.V.Part.part y) c.args.seat.now.view) (sym same) (subst (IsPartOfSome c.args.lock.0 (g.V.Part.part t.0)) was t.7),
    )
