use Rattle.std.proofs.Common.{rules, ℕ, ◌<◌, [], ◌∷◌, sym, ap, ◌∙◌, subst}
use mathlib.Core.List.{IsPrefix}
use Rattle.lock_moves.specs.SeatSight.{Seen, has_loaded, view_has_loaded}
use Rattle.lock_moves.specs.Rests.{first_of_views}
use Rattle.lock_moves.proofs.Named.{core_below}
use Rattle.lock_moves.proofs.Staging.{loads_stage}
use Rattle.lock_moves.proofs.set.LockSet.read_stage.Goals as goal

pub load-found-requires : goal.load-found-requires
load-found-requires g c = let low = core_below c.args.seat.now.view.input c.args.r.0 c.requires.core in (
  search rules,
  search rules,
  loads_stage g.V.Part.part g.V.Part.suits _ _ _ _ _ _ _ (subst (λ (z : ℕ). 0 < z) (sym (ap (λ z. z.0.seen.shares) c.seated-me.ensures.2)) c.seat.invariant.2) c.args.r.0 (search rules) low,
)

pub into_badge-requires : goal.into_badge-requires
into_badge-requires g c = ap (λ z. z.1) (c.load-found.ensures.2 c.args.r.0 (search rules) (core_below c.args.seat.now.view.input c.args.r.0 c.requires.core)).0 ∙ ap (λ z. z.1) c.seated-me.ensures.2

pub invariant_of-seat : goal.invariant_of-seat
invariant_of-seat g c = let is = (c.load-found.ensures.2 c.args.r.0 (search rules) (core_below c.args.seat.now.view.input c.args.r.0 c.requires.core)).0 in let first = ap first_of_views c.into_badge.ensures.2 in
    let view = first ∙ (ap (λ z. z.0) is ∙ ap (λ z. view_has_loaded c.args.r.0 c.load-found.result z.0) c.seated-me.ensures.2) in (
      c.into_badge.ensures.2 ∙ ap (λ v. v ∷ []) (sym first),
      ap (λ v. v.out) view ∙ c.seat.invariant.1,
      subst (λ (z : ℕ). 0 < z) (sym (ap (λ v. v.seen.shares) view)) c.seat.invariant.2,
    )

pub returns-clause-kept : goal.returns-clause-kept
returns-clause-kept g c = let is = (c.load-found.ensures.2 c.args.r.0 (search rules) (core_below c.args.seat.now.view.input c.args.r.0 c.requires.core)).0 in
    let view = ap (λ l. (first_of_views l).seen) c.into_badge.ensures.2 ∙ (ap (λ z. z.0.seen) is ∙ (ap (λ z. has_loaded c.args.r.0 c.load-found.result z.0.seen) c.seated-me.ensures.2 ∙ ap (λ z. has_loaded c.args.r.0 c.load-found.result z.view) c.seat.view_is)) in
    let table = c.into_badge.ensures.0 ∙ (c.load-found.ensures.0 ∙ (c.seated-me.ensures.0 ∙ ap (λ z. z.table) c.seat.view_is)) in
    let id = c.into_badge.ensures.1 ∙ (c.load-found.ensures.1 ∙ (c.seated-me.ensures.1 ∙ ap (λ z. z.id) c.seat.view_is)) in
    λ i. record { table = table i; id = id i; view = view i }

pub returns-clause-counts : goal.returns-clause-counts
returns-clause-counts g c = let t = (c.load-found.ensures.2 c.args.r.0 (search rules) (core_below c.args.seat.now.view.input c.args.r.0 c.requires.core)).1 in
    let was = ap (λ z. z.0.seen) c.seated-me.ensures.2 ∙ ap (λ z. z.view) c.seat.view_is in (
      t.0,
      subst (λ (v : Seen). IsPrefix v.front t.0) was t.1,
      t.2,
    )
