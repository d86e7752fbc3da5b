use Rattle.std.proofs.Common.{◌≡◌, ◌-◌, ℕ, List, drop, get_or, ap, refl, subst, sym, arith}
use Rattle.std.specs.Prelude.{Option, None}
use Rattle.std.proofs.Math.Seq.{drop-length}
use Rattle.sched_base.specs.declared.Moment.{Moment}
use Rattle.core_state.specs.Firsts.{earlier_of_both}
use Rattle.composition_laws.specs.WholeNext.{IsSoonest}
use Rattle.machine_parts.proofs.Ranking.{one_before}
use Rattle.machine_parts.proofs.Soonest.{sooner_more}
use Rattle.machine_parts.proofs.order.soonest.Goals as goal

pub loop-i-init : goal.loop-i-init
loop-i-init c = record { inside = omega arith; found = λ i. ap (λ (rest : List (Option Moment)). get_or rest i None) (drop-length c.args.moments.now) }

-- one moment more, or a place without one
pub loop-i-preserved : goal.loop-i-preserved
loop-i-preserved c =
    let moments : List (Option Moment) = c.args.moments.now in
    let here : Option Moment = get_or moments (c.loop-i.i - 1) None in
    record {
      inside = omega (arith, c.loop-i.invariant.inside);
      found = subst (λ (o : Option Moment). IsSoonest (drop (c.loop-i.i - 1) moments) o) (sym c.earlier-least.ensures)
          (subst (λ (rest : List (Option Moment)). IsSoonest rest (earlier_of_both here c.loop-i.least))
          (one_before moments c.loop-i.i None here c.loop-i-test.true c.loop-i.invariant.inside refl)
          (sooner_more here (drop c.loop-i.i moments) c.loop-i.least c.loop-i.invariant.found));
    }

pub returns : goal.returns
returns c =
    let start : c.loop-i.i ≡ 0 = omega (arith, c.loop-i-test.false) in
    subst (λ (i : ℕ). IsSoonest (drop i c.args.moments.now) c.loop-i.least) start c.loop-i.invariant.found
