use Rattle.std.proofs.Common.{◌≡◌, true, sym, subst}
use Rattle.sched_model.specs.declared.state.Pool.{Pool}
use Rattle.pool_laws.specs.CoreLooks.{IsSettled}
use Rattle.pool_laws.proofs.Settled.{settled_again}
use Rattle.core_state.specs.Seen.{Seen as CoresSeen}
use Rattle.pool_core.specs.CoreLooks.{pool_but}
use Rattle.pool_core.specs.Seen.{Seen, pool_of}
use Rattle.pool_core.proofs.Acting.{settled_kept}
use Rattle.pool_core.proofs.Asking.{may_ask}
use Rattle.pool_core.proofs.Spared.{unwanted_all}
use Rattle.pool_core.proofs.pool.PoolState.look.Goals as goal

pub settle-requires-clause-asks : goal.settle-requires-clause-asks
settle-requires-clause-asks g c = may_ask c.self.inside.guests.granularity c.self.inside.mark.latest.0 (pool_of c.self.inside.guests c.self.inside.cores (c.self.inside.policy)) c.self.invariant.kept.pool

pub settle-requires-clause-settled : goal.settle-requires-clause-settled
settle-requires-clause-settled g c = λ is.
    let pool : Pool = pool_of c.self.inside.guests c.self.inside.cores (c.self.inside.policy) in
    unwanted_all c.self.inside.mark.latest.0 (pool_but c.args.came pool)
    (subst (λ (x : Seen). c.args.settled ≡ true → IsSettled x.latest (pool_but c.args.came x.pool)) (sym c.self.view_is) c.requires is)

pub invariant_of-self : goal.invariant_of-self
invariant_of-self g c =
    let s = c.self.inside.policy in
    let pool : Pool = pool_of c.self.inside.guests c.self.inside.cores s in
    record {
      kept = settled_kept c.self.inside.mark.latest.0 c.self.inside.guests c.self.inside.cores c.settle.new.cores s c.self.invariant.kept c.settle.ensures;
      settled = λ e. subst (λ (x : CoresSeen). IsSettled c.self.inside.mark.latest.0 (pool_of c.self.inside.guests x s)) (sym c.settle.ensures) (settled_again c.self.inside.mark.latest.0 pool);
    }
