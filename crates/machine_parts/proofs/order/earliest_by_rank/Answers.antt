use Rattle.std.proofs.Common.{◌≡◌, ◌-◌, ◌≤◌, ℕ, List, get_or, ap, refl, subst, sym, arith}
use Rattle.std.specs.Prelude.{Option, Some, None}
use Rattle.std.proofs.Math.Seq.{drop-length}
use Rattle.sched_model.specs.declared.action.Action.{Action}
use Rattle.machine_parts.proofs.Ranking.{IsLeastFrom, least_none, least_passes, least_stays, least_taken}
use Rattle.machine_parts.proofs.order.earliest_by_rank.Goals as goal

pub loop-i-init : goal.loop-i-init
loop-i-init c = record { inside = omega arith; found = (λ i. ap (λ (rest : List (Option Action)). get_or rest i None) (drop-length c.args.firsts.now), refl) }

-- nothing stands at the next place
pub loop-i-preserved : goal.loop-i-preserved
loop-i-preserved c = record {
  inside = omega (arith, c.loop-i.invariant.inside);
  found = least_passes c.loop-i.i c.args.firsts.now c.loop-i.least c.loop-i.found c.loop-i-test.true c.loop-i.invariant.inside c.in_default.is c.loop-i.invariant.found;
}

-- an action does, of no greater rank
pub loop-i-preserved-then-rank-least : goal.loop-i-preserved-then-rank-least
loop-i-preserved-then-rank-least c =
    let action : Action = c.in-Some.action in
    let rank = c.rank_of_action-rank in
    record {
      inside = omega (arith, c.loop-i.invariant.inside);
      found = subst (λ (r : ℕ). IsLeastFrom (c.loop-i.i - 1) c.args.firsts.now r (Some (c.loop-i.i - 1, action))) (sym rank.ensures.rank)
          (least_taken c.loop-i.i c.args.firsts.now action c.loop-i-test.true c.loop-i.invariant.inside c.in-Some.is rank.ensures.small c.loop-i.least c.loop-i.found
          (subst (λ (r : ℕ). r ≤ c.loop-i.least) rank.ensures.rank c.if-rank-least.true) c.loop-i.invariant.found);
    }

-- or of a greater one
pub loop-i-preserved-else-rank-least : goal.loop-i-preserved-else-rank-least
loop-i-preserved-else-rank-least c =
    let action : Action = c.in-Some.action in
    let rank = c.rank_of_action-rank in
    let past = c.if-rank-least.false in
    let is = rank.ensures.rank in
    record {
      inside = omega (arith, c.loop-i.invariant.inside);
      found = least_stays c.loop-i.i c.args.firsts.now action c.loop-i-test.true c.loop-i.invariant.inside c.in-Some.is rank.ensures.small c.loop-i.least c.loop-i.found
          (omega (arith, past, is)) c.loop-i.invariant.found;
    }

pub returns-clause-none : goal.returns-clause-none
returns-clause-none c =
    let start : c.loop-i.i ≡ 0 = omega (arith, c.loop-i-test.false) in
    least_none c.args.firsts.now c.loop-i.least c.loop-i.found (subst (λ (i : ℕ). IsLeastFrom i c.args.firsts.now c.loop-i.least c.loop-i.found) start c.loop-i.invariant.found)
