use Rattle.std.proofs.Common.{sym, subst}
use Rattle.sched_model.specs.declared.action.Actor.{Actor}
use Rattle.pool_laws.specs.Actors.{IsFirstBy}
use Rattle.pool_core.specs.Seen.{pool_of}
use Rattle.pool_core.proofs.actors.enabled_for.Goals as goal

pub returns-in-Dom : goal.returns-in-Dom
returns-in-Dom g c =
    subst (λ (a : Actor). IsFirstBy c.args.guests.now.granularity c.args.t.0 (pool_of c.args.guests.now c.args.cores.now (g.P.Policy.seen c.args.policy.now)) a c.first_of_domain.result) (sym c.in-Dom.is)
    (c.first_of_domain.ensures c.args.cores.now (g.P.Policy.seen c.args.policy.now))
