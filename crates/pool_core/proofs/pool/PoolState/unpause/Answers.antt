use Rattle.std.proofs.Common.{refl, sym, subst}
use Rattle.sched_model.specs.declared.state.Pool.{Pool}
use Rattle.sched_model.specs.Pool.{unpaused_pool}
use Rattle.policy_laws.proofs.Kept.{later, unpauses}
use Rattle.pool_core.specs.Seen.{IsNow, Seen, pool_of}
use Rattle.pool_core.proofs.Commanding.{commanded, works_unpause}
use Rattle.pool_core.proofs.Spared.{unsettled_at}
use Rattle.pool_core.proofs.pool.PoolState.unpause.Goals as goal

pub invariant_of-self : goal.invariant_of-self
invariant_of-self g c = unsettled_at c.args.t c.unsettled-self-inside.ensures (
    let s = c.self.inside.policy in
    let pool : Pool = pool_of c.self.inside.guests c.self.inside.cores s in
    let k = c.self.inside.guests.granularity in
    let now : IsNow (record { pool = pool; granularity = k; spare = c.self.inside.guests.spare; latest = c.self.inside.mark.latest.0; in_use = c.self.inside.in_use }) c.args.t.0 = subst (λ (x : Seen). IsNow x c.args.t.0) (sym c.self.view_is) c.requires.now in
    commanded c.self.inside.mark.latest.0 c.args.t.0 c.self.inside.guests c.unpause.new.guests c.self.inside.cores c.self.inside.cores s (c.unpause.new.policy) c.unpause.new.guests.domains c.self.inside.cores.resources (unpaused_pool k c.args.d.0 pool)
    c.self.invariant.kept now.after now.early c.unpause.ensures.pool c.unpause.ensures.guests refl c.unpause.ensures.room
    (works_unpause k c.args.d.0 c.self.inside.cores.works pool c.self.invariant.kept.linked.works)
    (unpauses k c.args.t.0 c.args.d.0 pool (later k c.self.inside.mark.latest.0 c.args.t.0 pool now.after c.self.invariant.kept.pool)))
