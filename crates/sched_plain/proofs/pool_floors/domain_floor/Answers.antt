use Rattle.std.proofs.Common.{◌∙◌, sym, arith}
use Rattle.sched_plain.proofs.FloorBounds.{domain_bound}
use Rattle.sched_plain.proofs.pool_floors.domain_floor.Goals as goal

pub returns-then-any_vcpu_wakes : goal.returns-then-any_vcpu_wakes
returns-then-any_vcpu_wakes c =
    domain_bound c.args.granularity c.args.t.0 c.args.pool.now c.args.d 4 (λ above. sym c.is_enabled_in.ensures ∙ c.if-is_enabled_in.false) (λ above. absurd (omega (arith, above))) (λ above. absurd (omega (arith, above))) (λ above. absurd (omega (arith, above)))

pub returns-then-any_unit_renews : goal.returns-then-any_unit_renews
returns-then-any_unit_renews c =
    domain_bound c.args.granularity c.args.t.0 c.args.pool.now c.args.d 7 (λ above. sym c.is_enabled_in.ensures ∙ c.if-is_enabled_in.false) (λ above. c.any_vcpu_wakes.ensures c.if-any_vcpu_wakes.false) (λ above. absurd (omega (arith, above)))
    (λ above. absurd (omega (arith, above)))

pub returns-then-is_enabled_in-2 : goal.returns-then-is_enabled_in-2
returns-then-is_enabled_in-2 c =
    domain_bound c.args.granularity c.args.t.0 c.args.pool.now c.args.d 8 (λ above. sym c.is_enabled_in.ensures ∙ c.if-is_enabled_in.false) (λ above. c.any_vcpu_wakes.ensures c.if-any_vcpu_wakes.false)
    (λ above. c.any_unit_renews.ensures c.if-any_unit_renews.false) (λ above. absurd (omega (arith, above)))

pub returns-else-is_enabled_in-2 : goal.returns-else-is_enabled_in-2
returns-else-is_enabled_in-2 c =
    domain_bound c.args.granularity c.args.t.0 c.args.pool.now c.args.d 13 (λ above. sym c.is_enabled_in.ensures ∙ c.if-is_enabled_in.false) (λ above. c.any_vcpu_wakes.ensures c.if-any_vcpu_wakes.false)
    (λ above. c.any_unit_renews.ensures c.if-any_unit_renews.false) (λ above. sym c.is_enabled_in-else-any_unit_renews.ensures ∙ c.if-is_enabled_in-2.false)
