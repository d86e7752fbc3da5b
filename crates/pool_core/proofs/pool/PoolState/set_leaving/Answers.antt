use Rattle.std.proofs.Common.{refl, arith}
use Rattle.sched_model.specs.declared.state.Pool.{Pool}
use Rattle.sched_model.specs.Places.{change_at}
use Rattle.core_state.specs.Seen.{leaving_core}
use Rattle.policy_laws.proofs.Kept.{leaves}
use Rattle.pool_core.specs.Seen.{pool_of}
use Rattle.pool_core.proofs.Coming.{cores_kept}
use Rattle.pool_core.proofs.Works.{works_core}
use Rattle.pool_core.proofs.Spared.{unsettled}
use Rattle.pool_core.proofs.pool.PoolState.set_leaving.Goals as goal

pub invariant_of-self : goal.invariant_of-self
invariant_of-self g c = unsettled c.self.inside.mark (
    let s = c.self.inside.policy in
    let pool : Pool = pool_of c.self.inside.guests c.self.inside.cores s in
    let k = c.self.inside.guests.granularity in
    cores_kept c.self.inside.mark.latest.0 c.self.inside.mark.latest.0 c.self.inside.guests c.self.inside.cores c.set_leaving.new.self s c.self.inside.cores.works (change_at c.args.r.0 leaving_core c.self.inside.cores.resources)
    c.self.invariant.kept (omega arith) c.self.invariant.kept.linked.early c.set_leaving.ensures
    (works_core k c.args.r.0 leaving_core c.self.inside.cores.works pool (λ x at. refl) c.self.invariant.kept.linked.works)
    (leaves k c.self.inside.mark.latest.0 c.args.r.0 pool c.self.invariant.kept.pool))
