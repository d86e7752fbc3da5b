use Rattle.std.proofs.Common.{sym, subst}
use Rattle.sched_model.specs.declared.state.Pool.{Pool}
use Rattle.sched_model.specs.Pool.{paused_pool}
use Rattle.policy_laws.proofs.Kept.{later, pauses}
use Rattle.pool_core.specs.Seen.{IsNow, Seen, pool_of}
use Rattle.pool_core.proofs.Commanding.{commanded, works_pause}
use Rattle.pool_core.proofs.Spared.{unsettled_at}
use Rattle.pool_core.proofs.pool.PoolState.pause.Goals as goal

pub invariant_of-self : goal.invariant_of-self
invariant_of-self g c = unsettled_at c.args.t c.unsettled-self-inside.ensures (
    let s = c.self.inside.policy in
    let pool : Pool = pool_of c.self.inside.guests c.self.inside.cores s in
    let k = c.self.inside.guests.granularity in
    let now : IsNow (record { pool = pool; granularity = k; spare = c.self.inside.guests.spare; latest = c.self.inside.mark.latest.0; in_use = c.self.inside.in_use }) c.args.t.0 = subst (λ (x : Seen). IsNow x c.args.t.0) (sym c.self.view_is) c.requires.now in
    commanded c.self.inside.mark.latest.0 c.args.t.0 c.self.inside.guests c.pause.new.guests c.self.inside.cores c.pause.new.cores s (c.pause.new.policy) c.pause.new.guests.domains c.pause.new.cores.resources (paused_pool c.args.d.0 pool)
    c.self.invariant.kept now.after now.early c.pause.ensures.pool c.pause.ensures.guests c.pause.ensures.cores c.pause.ensures.room
    (works_pause k c.args.d.0 c.self.inside.cores.works pool c.self.invariant.kept.linked.works)
    (pauses k c.args.t.0 c.args.d.0 pool (later k c.self.inside.mark.latest.0 c.args.t.0 pool now.after c.self.invariant.kept.pool)))
