use Rattle.std.proofs.Common.{sym, subst}
use Rattle.std.specs.Prelude.{Option}
use Rattle.sched_model.specs.declared.state.Pool.{Pool}
use Rattle.plain_pool.specs.Ready.{IsLeastWith}
use Rattle.plain_pool.proofs.Leasts.{least_none}
use Rattle.sched_plain.specs.Soonest.{IsReadyAt}
use Rattle.sched_plain.proofs.soonest.of_pool.Goals as goal

pub returns-in-None : goal.returns-in-None
returns-in-None c g whole = subst (λ (o : Option Pool). IsLeastWith c.args.best (IsReadyAt g o) c.args.best) (sym c.in-None.is) (least_none c.args.best)

pub returns-in-Some : goal.returns-in-Some
returns-in-Some c g whole =
    subst (λ (o : Option Pool). IsLeastWith c.args.best (IsReadyAt g o) c.least_ready.result) (sym c.in-Some.is) (c.least_ready.ensures g (whole c.in-Some.pool c.in-Some.is))
