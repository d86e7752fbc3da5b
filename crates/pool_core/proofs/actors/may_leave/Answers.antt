use Rattle.std.proofs.Common.{◌∙◌, ◌/◌, ℕ, sym, ap}
use Rattle.sched_model.specs.Places.{test_at}
use Rattle.core_state.specs.Ends.{may_core_part}
use Rattle.pool_core.proofs.ByActor.{and_then, and_stop}
use Rattle.pool_core.proofs.actors.may_leave.Goals as goal

pub returns-then-parts : goal.returns-then-parts
returns-then-parts c guests s =
    and_then (test_at c.args.cores.now.resources (c.args.p.0 / c.args.cores.now.granularity) may_core_part) _ c.is_held_at.result
    (ap (λ (k : ℕ). test_at c.args.cores.now.resources (c.args.p.0 / k) may_core_part) (sym c.granularity.ensures) ∙ sym c.parts.ensures ∙ c.if-parts.true) c.is_held_at.ensures

pub returns-else-parts : goal.returns-else-parts
returns-else-parts c guests s =
    c.if-parts.false
    ∙ and_stop (test_at c.args.cores.now.resources (c.args.p.0 / c.args.cores.now.granularity) may_core_part) _
    (ap (λ (k : ℕ). test_at c.args.cores.now.resources (c.args.p.0 / k) may_core_part) (sym c.granularity.ensures) ∙ sym c.parts.ensures ∙ c.if-parts.false)
