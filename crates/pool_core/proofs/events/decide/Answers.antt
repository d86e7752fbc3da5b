use Rattle.std.proofs.Common.{◌≤◌, sym, ap, ◌∙◌, arith}
use Rattle.std.specs.Prelude.{None}
use Rattle.sched_model.specs.declared.action.Action.TheVariants.{Decide}
use Rattle.sched_model.specs.declared.state.Pool.{Pool}
use Rattle.core_state.specs.Seen.{Seen as CoresSeen}
use Rattle.pool_core.specs.Seen.{pool_of}
use Rattle.pool_core.proofs.Acting.{acted, unmoved}
use Rattle.pool_core.proofs.ActedWorks.{works_decide}
use Rattle.policy_laws.proofs.Readies.{units_ready}
use Rattle.pool_core.proofs.Spared.{decided_settled}
use Rattle.pool_core.proofs.events.decide.Goals as goal

pub returns : goal.returns
returns g c =
    let s = g.P.Policy.seen c.args.policy.now in
    let s2 = g.P.Policy.seen c.decide.new.policy in
    let guests = c.args.guests.now in
    let cores : CoresSeen = c.args.cores.now in
    let pool : Pool = pool_of guests cores s in
    let k = guests.granularity in
    let t = c.args.t.0 in
    let kept = c.requires.kept in
    let keeps = c.keeps.ensures in
    let latest : s2.latest ≤ t = (let e = c.decide.ensures.latest in omega (arith, e)) in
    acted t guests guests cores c.decide.new.cores s s2 (Decide c.args.r) cores.works c.decide.new.out (record { spares = c.frees_nothing-spares.result; came = None })
    c.requires c.decide.ensures.event c.decide.ensures.pool
    (unmoved t guests cores c.decide.new.cores s kept (ap (λ (x : CoresSeen). x.granularity) c.decide.ensures.cores))
    latest c.decide.ensures.room (ap (λ (x : CoresSeen). x.works) c.decide.ensures.cores)
    (works_decide k t cores.works pool kept.pool.known kept.linked.works c.args.r.0)
    (λ spares before. decided_settled k t c.args.r pool kept.pool.known (units_ready k t pool kept.pool keeps.cut) keeps.once (sym c.frees_nothing-spares.ensures ∙ spares) before)
