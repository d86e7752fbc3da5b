use Rattle.std.proofs.Common.{rules, ◌≡◌, ◌<◌, ℕ, List, [], ◌∷◌, sym, refl, ap, ◌∙◌, subst}
use Rattle.std.specs.declared.snapshot.Snapshot.{Snapshot}
use Rattle.journal_core.specs.Books.{Chronicle}
use Rattle.lock_moves.specs.SeatSight.{View, Holds, committed_on, view_committed_on}
use Rattle.lock_moves.specs.Plays.{Current}
use Rattle.lock_moves.specs.Rests.{first_of_views}
use Rattle.lock_moves.proofs.Committing.{Follows, follows, goes_on_at}
use Rattle.lock_moves.proofs.set.LockSet.commit_on.Goals as goal

pub compare_exchange_with-requires : goal.compare_exchange_with-requires
compare_exchange_with-requires g c = let v : View = first_of_views c.seat.inside.badge.views in let told : Snapshot Chronicle = c.of.result in
    let h = subst (Holds 17) (ap (λ z. z.view) (sym c.seat.view_is)) c.requires.held in
    let on : Follows v.seen c.b.inside.book = follows c.args.seat.now.view v.seen c.args.b.now c.b.inside.book (ap (λ z. z.view) (sym c.seat.view_is)) (sym c.b.view_is) c.requires.input c.requires.limit c.requires.next c.requires.kept c.requires.placed c.requires.decided c.requires.names c.tell.ensures.run in (
      search rules,
      search rules,
      goes_on_at g.V.Part.part g.V.Part.suits _ _ _ _ _ _ v told h.0 c.seated-me.ensures.2 c.seat.invariant.1 h.1 c.seat.invariant.2 (subst (Follows v.seen) (sym c.of.ensures) on),
    )

pub into_badge-requires : goal.into_badge-requires
into_badge-requires g c = ap (λ z. z.1) (c.compare_exchange_with.ensures.2 c.of.result refl).0 ∙ ap (λ z. z.1) c.seated-me.ensures.2

pub invariant_of-seat : goal.invariant_of-seat
invariant_of-seat g c = let is = (c.compare_exchange_with.ensures.2 c.of.result refl).0 in let first = ap first_of_views c.into_badge.ensures.2 in
    let view = first ∙ (ap (λ z. z.0) is ∙ ap (λ z. view_committed_on c.of.result.value.history z.0) c.seated-me.ensures.2) in (
      c.into_badge.ensures.2 ∙ ap (λ v. v ∷ []) (sym first),
      ap (λ v. v.out) view,
      subst (λ (z : ℕ). 0 < z) (sym (ap (λ v. v.seen.shares) view)) c.seat.invariant.2,
    )

pub returns-clause-on : goal.returns-clause-on
returns-clause-on g c = let is = (c.compare_exchange_with.ensures.2 c.of.result refl).0 in let book : c.of.result.value ≡ c.args.b.now = c.of.ensures ∙ c.b.view_is in
    let was = ap (λ z. z.0.seen) c.seated-me.ensures.2 ∙ ap (λ z. z.view) c.seat.view_is in
    let view = ap (λ l. (first_of_views l).seen) c.into_badge.ensures.2 ∙ (ap (λ z. z.0.seen) is ∙ (λ i. committed_on (book i).history (was i))) in
    let table = c.into_badge.ensures.0 ∙ (c.compare_exchange_with.ensures.0 ∙ (c.seated-me.ensures.0 ∙ ap (λ z. z.table) c.seat.view_is)) in
    let id = c.into_badge.ensures.1 ∙ (c.compare_exchange_with.ensures.1 ∙ (c.seated-me.ensures.1 ∙ ap (λ z. z.id) c.seat.view_is)) in
    λ i. record { table = table i; id = id i; view = view i }

pub returns-clause-current : goal.returns-clause-current
returns-clause-current g c = subst (λ (l : List View). Current (first_of_views l).seen) (sym c.into_badge.ensures.2) (c.compare_exchange_with.ensures.2 c.of.result refl).1
