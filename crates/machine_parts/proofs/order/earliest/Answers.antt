use Rattle.std.proofs.Common.{◌≡◌, ℕ, List, drop, get_or, ap, subst, sym, arith, ◌∷◌}
use Rattle.std.specs.Prelude.{Option, Some, None}
use Rattle.std.proofs.Math.Seq.{drop-length}
use Rattle.sched_model.specs.declared.action.Action.{Action}
use Rattle.composition_laws.specs.WholeFirst.{IsEarliest}
use Rattle.machine_parts.specs.Ranks.{IsSmall}
use Rattle.machine_parts.proofs.Ranking.{nothing_more, one_before, one_more}
use Rattle.machine_parts.proofs.order.earliest.Goals as goal

pub loop-i-init : goal.loop-i-init
loop-i-init c = record { inside = omega arith; found = λ i. ap (λ (rest : List (Option Action)). get_or rest i None) (drop-length c.args.firsts.now) }

-- nothing stands at the next place
pub loop-i-preserved : goal.loop-i-preserved
loop-i-preserved c = record {
  inside = omega (arith, c.loop-i.invariant.inside);
  found = subst (λ (rest : List (Option Action)). IsEarliest rest c.loop-i.found)
      (one_before c.args.firsts.now c.loop-i.i None None c.loop-i-test.true c.loop-i.invariant.inside c.in_default.is)
      (nothing_more (drop c.loop-i.i c.args.firsts.now) c.loop-i.found c.loop-i.invariant.found);
}

-- an action does
pub loop-i-preserved-in-Some : goal.loop-i-preserved-in-Some
loop-i-preserved-in-Some c =
    let first : Action = c.in-Some.action in
    record {
      inside = omega (arith, c.loop-i.invariant.inside);
      found = subst (λ (rest : List (Option Action)). IsEarliest rest (Some c.earlier_of.result))
          (one_before c.args.firsts.now c.loop-i.i None (Some first) c.loop-i-test.true c.loop-i.invariant.inside c.in-Some.is)
          (subst (λ (o : Option Action). IsEarliest (Some first ∷ drop c.loop-i.i c.args.firsts.now) o) (sym c.earlier_of.ensures.earlier)
          (one_more (Some first) (drop c.loop-i.i c.args.firsts.now) c.loop-i.found
          (λ x is. let same : first ≡ x = cc in subst IsSmall same c.earlier_of.ensures.small) c.earlier_of.ensures.other c.loop-i.invariant.found));
    }

pub returns : goal.returns
returns c =
    let start : c.loop-i.i ≡ 0 = omega (arith, c.loop-i-test.false) in
    subst (λ (i : ℕ). IsEarliest (drop i c.args.firsts.now) c.loop-i.found) start c.loop-i.invariant.found
