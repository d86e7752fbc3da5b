use Rattle.std.proofs.Common.{◌≡◌, ℕ, ◌+◌, ◌-◌, ◌≤◌, Bool, true, false, drop, length, sym, ◌∙◌, ap, subst, arith, rules}
use Rattle.std.specs.Prelude.{Some, None}
use Rattle.sched_base.specs.declared.UnitId.{UnitId}
use Rattle.arrival_queue.specs.Filters.{has_core_bit}
use Rattle.arrival_queue.specs.Tables.{first_unit}
use Rattle.arrival_queue.proofs.Behind.{none_left, same_stop, unit_behind, unit_here}
use Rattle.arrival_queue.proofs.Walking.{Apart-left, stand, stand_live, stand_next, stand_unit}
use Rattle.arrival_queue.proofs.walks.first_from.Goals as goal

pub loop-at-init : goal.loop-at-init
loop-at-init g c =
    let p : UnitId → Bool = λ u. has_core_bit c.args.allowed.0 u.dom.0 in
    let stop = c.requires.stop in
    record {
      later = omega arith;
      walk = record {
        place = stop.place;
        low = stop.low;
        far = omega arith;
        is = stop.is;
        passed = λ k e. same_stop p c.args.ring.now.first stop.place k (Apart-left c.args.ring.now.first c.args.ring.now.second c.requires.apart) (sym stop.is ∙ e);
      };
    }

pub unit-u-requires : goal.unit-u-requires
unit-u-requires g c =
    let walk = c.loop-at.invariant.walk in
    record { live = stand_live c.args.ring.now walk.place c.in-Some.n (stand c.args.ring.now walk.place c.loop-at.at c.in-Some.n c.requires.apart walk.is c.in-Some.is) }

pub next-at-requires : goal.next-at-requires
next-at-requires g c =
    let walk = c.loop-at.invariant.walk in
    record { live = stand_live c.args.ring.now walk.place c.in-Some.n (stand c.args.ring.now walk.place c.loop-at.at c.in-Some.n c.requires.apart walk.is c.in-Some.is) }

pub returns-then-has_domain-clause-unit : goal.returns-then-has_domain-clause-unit
returns-then-has_domain-clause-unit g c = λ k e. (
    let walk = c.loop-at.invariant.walk in
    let p : UnitId → Bool = λ u. has_core_bit c.args.allowed.0 u.dom.0 in
    let there = stand c.args.ring.now walk.place c.loop-at.at c.in-Some.n c.requires.apart walk.is c.in-Some.is in
    let is = c.unit-u.ensures ∙ stand_unit c.args.ring.now walk.place c.in-Some.n there in
    let holds : p there.x.unit ≡ true = subst (λ (u : UnitId). p u ≡ true) is (sym c.if-has_domain.ensures) in
    ap (λ (u : UnitId). Some u) is ∙ unit_here p c.args.ring.now.first walk.place c.in-Some.n there holds ∙ walk.passed k e)

pub returns-then-has_domain-clause-cost : goal.returns-then-has_domain-clause-cost
returns-then-has_domain-clause-cost g c =
    let walk = c.loop-at.invariant.walk in
    let later = c.loop-at.invariant.later in
    omega (arith, later, walk.far, walk.low)

pub loop-at-preserved : goal.loop-at-preserved
loop-at-preserved g c =
    let walk = c.loop-at.invariant.walk in
    let p : UnitId → Bool = λ u. has_core_bit c.args.allowed.0 u.dom.0 in
    let ring = c.args.ring.now in
    let there = stand ring walk.place c.loop-at.at c.in-Some.n c.requires.apart walk.is c.in-Some.is in
    let is = c.unit-u.ensures ∙ stand_unit ring walk.place c.in-Some.n there in
    let fails : p there.x.unit ≡ false = subst (λ (u : UnitId). p u ≡ false) is (sym c.if-has_domain.ensures) in
    let later = c.loop-at.invariant.later in
    record {
      later = omega (arith, later, c.next-at.ensures.step);
      walk = record {
        place = walk.place + 1;
        low = omega (arith, there.low);
        far = omega (arith, later, walk.far, c.next-at.ensures.step);
        is = c.next-at.ensures.node ∙ stand_next ring walk.place c.in-Some.n there;
        passed = λ k e. unit_behind p ring.first walk.place c.in-Some.n there fails ∙ walk.passed k e;
      };
    }

pub loop-at-smaller : goal.loop-at-smaller
loop-at-smaller g c =
    let walk = c.loop-at.invariant.walk in
    let there = stand c.args.ring.now walk.place c.loop-at.at c.in-Some.n c.requires.apart walk.is c.in-Some.is in
    let later = c.loop-at.invariant.later in
    omega (arith, later, walk.far, there.low, c.next-at.ensures.step)

pub returns-clause-unit : goal.returns-clause-unit
returns-clause-unit g c = λ k e. (
    let walk = c.loop-at.invariant.walk in
    let p : UnitId → Bool = λ u. has_core_bit c.args.allowed.0 u.dom.0 in
    let none : c.loop-at.at ≡ None = search rules in
    none_left p (drop walk.place c.args.ring.now.first) (sym none ∙ walk.is) ∙ walk.passed k e)

pub returns-clause-cost : goal.returns-clause-cost
returns-clause-cost g c =
    let walk = c.loop-at.invariant.walk in
    let later = c.loop-at.invariant.later in
    omega (arith, later, walk.far, walk.low)
