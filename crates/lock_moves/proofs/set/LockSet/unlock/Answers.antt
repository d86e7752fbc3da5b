use Rattle.std.proofs.Common.{rules, ◌≡◌, ℕ, suc, List, [], ◌∷◌, sym, refl, ap, ◌∙◌, subst}
use Rattle.atomic_table.specs.Table.{Me, rest}
use Rattle.lock_moves.specs.declared.content.Content.{Content}
use Rattle.lock_moves.specs.declared.content.Content.TheVariants.{Out, Value}
use Rattle.lock_moves.specs.SeatSight.{View, Seen, with_out}
use Rattle.lock_moves.specs.Sets.{Taken, IsAsKnown}
use Rattle.lock_moves.specs.Rests.{first_of_views}
use Rattle.lock_moves.proofs.Taking.{fetches_at, puts_at}
use Rattle.lock_moves.proofs.set.LockSet.unlock.Goals as goal

pub load-requires : goal.load-requires
load-requires g c = let h = subst (λ (z : Taken g.row.V.Denot × Seen). IsAsKnown z.0.lock (g.V.Part.part z.0.value) z.1) (λ i. (sym c.h.view_is i, ap (λ z. z.view) (sym c.seat.view_is) i)) c.requires.known in (
  search rules,
  search rules,
  fetches_at g.V.Part.part g.V.Part.suits _ _ _ _ _ _ (first_of_views c.seat.inside.badge.views) _ c.seated-me.ensures.2 c.seat.invariant.1 (h.0, h.1) c.seat.invariant.2,
)

pub exchange-empty-requires : goal.exchange-empty-requires
exchange-empty-requires g c = let p = ap (λ z. z.1) c.load.ensures.2 in (
  search rules,
  (Out, p ∙ sym (ap (λ (z : List (ℕ × Content g.row.V.Denot)). (c.h.inside.lock.0, Out) ∷ rest z) p)),
)

pub store-requires : goal.store-requires
store-requires g c = let k : ℕ = c.h.inside.lock.0 in let v : View = first_of_views c.seat.inside.badge.views in
    let h = subst (λ (z : Taken g.row.V.Denot × Seen). IsAsKnown z.0.lock (g.V.Part.part z.0.value) z.1) (λ i. (sym c.h.view_is i, ap (λ z. z.view) (sym c.seat.view_is) i)) c.requires.known in
    let fit : g.V.Part.suits v.seen.input v.seen.now c.h.inside.value = subst (λ (z : Taken g.row.V.Denot × Seen). g.V.Part.suits z.1.input z.1.now z.0.value) (λ i. (sym c.h.view_is i, ap (λ z. z.view) (sym c.seat.view_is) i)) c.requires.suits in
    let view : c.load.new.seat.me.0 ≡ with_out (suc k) v = ap (λ z. z.0) c.load.ensures.2 ∙ ap (λ (z : Me (Content g.row.V.Denot) View). with_out (suc k) z.0) c.seated-me.ensures.2 in
    let slots : rest c.load.new.seat.me.1 ≡ [] = ap (λ z. rest z.1) c.load.ensures.2 in (
      search rules,
      search rules,
      puts_at g.V.Part.part g.V.Part.suits _ _ _ _ _ _ (with_out (suc k) v) k c.h.inside.value h.0 (c.exchange-empty.ensures.3 ∙ (λ i. (view i, (k, Value c.h.inside.value) ∷ slots i))) (search rules) refl h.1 h.2 h.3 fit c.seat.invariant.2,
    )
