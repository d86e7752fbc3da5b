use Rattle.std.proofs.Common.{true, refl}
use Rattle.std.specs.Prelude.{None, slice_set}
use Rattle.sched_model.specs.declared.action.Action.TheVariants.{Arrive}
use Rattle.sched_model.specs.declared.event.Event.TheVariants as event
use Rattle.sched_model.specs.declared.state.Pool.{Pool}
use Rattle.settle_laws.proofs.Spared.{spared_arrive}
use Rattle.pool_core.specs.Seen.{pool_of}
use Rattle.pool_core.proofs.Acting.{acted}
use Rattle.pool_core.proofs.ActedWorks.{works_arrive}
use Rattle.pool_core.proofs.events.arrive.Goals as goal

pub returns : goal.returns
returns c s may =
    let pool : Pool = pool_of c.args.guests.now c.args.cores.now s in
    let k = c.args.guests.now.granularity in
    let t = c.args.t.0 in
    let p = c.args.p.0 in
    acted t c.args.guests.now c.arrive.new.guests c.args.cores.now c.arrive.new.cores s s (Arrive c.args.p) (slice_set c.args.cores.now.works p None) (event.Arrive c.args.p) (record { spares = true; came = None })
    may refl (c.arrive.ensures.pool s) c.arrive.ensures.rest may.kept.linked.scheduler_latest refl c.arrive.ensures.works
    (works_arrive k t c.args.cores.now.works pool may.kept.pool.known may.kept.linked.works p)
    (λ spares before. spared_arrive k t pool before p)
