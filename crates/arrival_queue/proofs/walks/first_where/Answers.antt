use Rattle.std.proofs.Common.{◌≡◌, ℕ, ◌+◌, ◌-◌, Bool, true, false, drop, sym, ◌∙◌, ap, subst, arith}
use Rattle.std.specs.Prelude.{Some}
use Rattle.sched_base.specs.declared.UnitId.{UnitId}
use Rattle.unit_ring.specs.Lists.{first_in}
use Rattle.arrival_queue.specs.Filters.{has_core_bit}
use Rattle.arrival_queue.specs.Tables.{first_unit}
use Rattle.arrival_queue.proofs.Walking.{stand, stand_live, stand_next, stand_unit, unit_more, unit_found}
use Rattle.arrival_queue.proofs.walks.first_where.Goals as goal

pub unit-u-requires : goal.unit-u-requires
unit-u-requires g c =
    let k = c.loop-at.steps - c.first-at.new.steps in
    record { live = stand_live c.args.ring.now k c.in-Some.n (stand c.args.ring.now k c.loop-at.at c.in-Some.n c.requires c.loop-at.invariant.stands c.in-Some.is) }

pub next-at-requires : goal.next-at-requires
next-at-requires g c =
    let k = c.loop-at.steps - c.first-at.new.steps in
    record { live = stand_live c.args.ring.now k c.in-Some.n (stand c.args.ring.now k c.loop-at.at c.in-Some.n c.requires c.loop-at.invariant.stands c.in-Some.is) }

pub returns-then-has_domain-clause-unit : goal.returns-then-has_domain-clause-unit
returns-then-has_domain-clause-unit g c =
    let k = c.loop-at.steps - c.first-at.new.steps in
    let p : UnitId → Bool = λ u. has_core_bit c.args.allowed.0 u.dom.0 in
    let there = stand c.args.ring.now k c.loop-at.at c.in-Some.n c.requires c.loop-at.invariant.stands c.in-Some.is in
    let is = c.unit-u.ensures ∙ stand_unit c.args.ring.now k c.in-Some.n there in
    let holds : p there.x.unit ≡ true = subst (λ (u : UnitId). p u ≡ true) is (sym c.if-has_domain.ensures) in
    ap (λ (u : UnitId). Some u) is ∙ unit_found p c.args.ring.now.first k c.in-Some.n there holds c.loop-at.invariant.passed

pub loop-at-preserved : goal.loop-at-preserved
loop-at-preserved g c =
    let k = c.loop-at.steps - c.first-at.new.steps in
    let p : UnitId → Bool = λ u. has_core_bit c.args.allowed.0 u.dom.0 in
    let ring = c.args.ring.now in
    let there = stand ring k c.loop-at.at c.in-Some.n c.requires c.loop-at.invariant.stands c.in-Some.is in
    let is = c.unit-u.ensures ∙ stand_unit ring k c.in-Some.n there in
    let fails : p there.x.unit ≡ false = subst (λ (u : UnitId). p u ≡ false) is (sym c.if-has_domain.ensures) in
    let later = c.loop-at.invariant.later in
    let step : c.next-at.new.steps - c.first-at.new.steps ≡ k + 1 = omega (arith, later, c.next-at.ensures.step) in
    record {
      later = omega (arith, later, c.next-at.ensures.step);
      within = omega (arith, step, there.low);
      stands = c.next-at.ensures.node ∙ stand_next ring k c.in-Some.n there ∙ sym (ap (λ (j : ℕ). first_in (drop j ring.first)) step);
      passed = ap (λ (j : ℕ). first_unit p (drop j ring.first)) step ∙ unit_more p ring.first k c.in-Some.n there fails c.loop-at.invariant.passed;
    }
