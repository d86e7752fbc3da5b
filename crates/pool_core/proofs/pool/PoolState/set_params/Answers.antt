use Rattle.std.proofs.Common.{sym, subst}
use Rattle.sched_model.specs.declared.state.Pool.{Pool}
use Rattle.pool_core.specs.Seen.{IsNow, Seen, pool_of}
use Rattle.pool_core.proofs.Commanding.{changed_kept}
use Rattle.pool_core.proofs.Spared.{unsettled_at}
use Rattle.pool_core.proofs.pool.PoolState.set_params.Goals as goal

pub invariant_of-self : goal.invariant_of-self
invariant_of-self g c = unsettled_at c.args.t c.unsettled-self-inside.ensures (
    let s = c.self.inside.policy in
    let pool : Pool = pool_of c.self.inside.guests c.self.inside.cores s in
    let k = c.self.inside.guests.granularity in
    let now : IsNow (record { pool = pool; granularity = k; spare = c.self.inside.guests.spare; latest = c.self.inside.mark.latest.0; in_use = c.self.inside.in_use }) c.args.t.0 = subst (λ (x : Seen). IsNow x c.args.t.0) (sym c.self.view_is) c.requires.now in
    changed_kept c.self.inside.mark.latest.0 c.args.t.0 c.self.inside.guests c.self.inside.cores c.set_params.new.cores s (c.set_params.new.policy) c.args.change.now c.self.invariant.kept now.after now.early c.set_params.ensures.pool c.set_params.ensures.cores c.set_params.ensures.spare c.set_params.ensures.latest)
