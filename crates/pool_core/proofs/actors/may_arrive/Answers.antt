use Rattle.std.proofs.Common.{◌∙◌, ◌/◌, ℕ, sym, ap}
use Rattle.sched_model.specs.Places.{test_at}
use Rattle.pool_laws.specs.ReadyMoments.{may_gather}
use Rattle.pool_core.proofs.ByActor.{and_then, and_stop}
use Rattle.pool_core.proofs.actors.may_arrive.Goals as goal

pub returns-then-gathers : goal.returns-then-gathers
returns-then-gathers c guests s =
    and_then (test_at c.args.cores.now.resources (c.args.p.0 / c.args.cores.now.granularity) may_gather) _ c.is_free_at.result
    (ap (λ (k : ℕ). test_at c.args.cores.now.resources (c.args.p.0 / k) may_gather) (sym c.granularity.ensures) ∙ sym c.gathers.ensures ∙ c.if-gathers.true) c.is_free_at.ensures

pub returns-else-gathers : goal.returns-else-gathers
returns-else-gathers c guests s =
    c.if-gathers.false
    ∙ and_stop (test_at c.args.cores.now.resources (c.args.p.0 / c.args.cores.now.granularity) may_gather) _
    (ap (λ (k : ℕ). test_at c.args.cores.now.resources (c.args.p.0 / k) may_gather) (sym c.granularity.ensures) ∙ sym c.gathers.ensures ∙ c.if-gathers.false)
