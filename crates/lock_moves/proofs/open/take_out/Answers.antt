use Rattle.std.proofs.Common.{◌≡◌, ◌+◌, [], ◌∷◌, ◌++◌, List, sym, ap, ◌∙◌, subst}
use Rattle.std.specs.Slots.{slots_items}
use mathlib.Core.Option.{some, some-injective}
use lib.ListN.{get_elem?}
use Rattle.lock_moves.specs.declared.content.Content.{Content}
use Rattle.lock_moves.specs.declared.content.Content.TheVariants.{Value}
use Rattle.lock_moves.specs.TableContent.{AreFirst}
use Rattle.lock_moves.proofs.Closing.{emptied_more, first_more}
use Rattle.lock_moves.proofs.open.take_out.Goals as goal

pub unreachable-requires : goal.unreachable-requires
unreachable-requires g c = let i = c.loop-k.invariant in let x = c.requires.values c.loop-k.k c.loop-k-test.true in
    c.in_default.not-Value x.0 (some-injective c.take.result (Value x.0) (sym c.take.ensures.value ∙ (ap (λ (xs : List (Content g.row.V.Denot)). get_elem? xs c.loop-k.k) i.2 ∙ x.1)))

pub loop-k-preserved : goal.loop-k-preserved
loop-k-preserved g c = let i = c.loop-k.invariant in let o = c.take.ensures.others in let k = c.loop-k.k in let x = c.in-Value.value in
    let contents : List (Content g.row.V.Denot) = slots_items c.args.closed.now.slots in let items : List g.row.V.Denot = c.loop-k.values.items in
    let here = subst (λ (xs : List (Content g.row.V.Denot)). get_elem? xs k ≡ some (Value x)) i.2 c.in-Value.ensures.value in
    let pushed : items ++ x ∷ [] ≡ c.push_reserved.new.self.items = sym c.push_reserved.ensures.items in (
      o.2 ∙ i.0,
      emptied_more k _ _ o.1 c.loop-k-test.true i.1,
      o.0 ∙ i.2,
      subst (λ (xs : List g.row.V.Denot). AreFirst (k + 1) contents xs) pushed (first_more contents items k x i.3 here),
      c.push_reserved.ensures.capacity ∙ i.4,
      i.5,
    )
