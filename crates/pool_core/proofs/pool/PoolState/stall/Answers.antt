use Rattle.std.proofs.Common.{◌/◌, ◌%◌, ℕ, ap, ◌∙◌, arith}
use Rattle.sched_model.specs.declared.state.Pool.{Pool}
use Rattle.sched_model.specs.Places.{change_at}
use Rattle.core_state.specs.Seen.{Seen as CoresSeen, stalled_to, with_sibling}
use Rattle.policy_laws.proofs.Kept.{stalls}
use Rattle.pool_core.specs.Seen.{pool_of}
use Rattle.pool_core.proofs.Coming.{cores_kept, works_stalled}
use Rattle.pool_core.proofs.Spared.{unsettled}
use Rattle.pool_core.proofs.pool.PoolState.stall.Goals as goal

pub invariant_of-self : goal.invariant_of-self
invariant_of-self g c = unsettled c.self.inside.mark (
    let s = c.self.inside.policy in
    let pool : Pool = pool_of c.self.inside.guests c.self.inside.cores s in
    let k = c.self.inside.guests.granularity in
    let cores : CoresSeen = c.self.inside.cores in
    let p = c.args.p.0 in
    let end = c.stall.result in
    cores_kept c.self.inside.mark.latest.0 c.self.inside.mark.latest.0 c.self.inside.guests cores c.stall.new.self s cores.works (change_at (p / k) (with_sibling (p % k) (stalled_to end)) cores.resources)
    c.self.invariant.kept (omega arith) c.self.invariant.kept.linked.early
    (c.stall.ensures.after ∙ ap (λ (i : ℕ). record cores { resources = change_at (p / i) (with_sibling (p % i) (stalled_to end)) cores.resources }) c.self.invariant.kept.linked.granularity)
    (works_stalled k p end cores.works pool c.self.invariant.kept.linked.works)
    (stalls k c.self.inside.mark.latest.0 p end.0 pool c.self.invariant.kept.pool))
