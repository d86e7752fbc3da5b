use Rattle.std.proofs.Common.{◌≡◌, ◌≤◌, true, false, refl, ap, arith}
use Rattle.std.specs.Prelude.{None}
use Rattle.sched_model.specs.declared.action.Action.TheVariants.{Refill}
use Rattle.sched_ops.specs.Seen.{Seen as SchedulerSeen}
use Rattle.pool_core.specs.Seen.{pool_of}
use Rattle.pool_core.proofs.Acting.{acted, unmoved}
use Rattle.pool_core.proofs.events.refill.Goals as goal

pub returns : goal.returns
returns g c guests cores may =
    let s = g.P.Policy.seen c.args.policy.now in
    let s2 = g.P.Policy.seen c.timer.new.self in
    let t = c.args.t.0 in
    let latest : s2.latest ≤ t = (let e = ap (λ (x : SchedulerSeen). x.latest) c.timer.ensures.after in omega (arith, e)) in
    acted t guests guests cores cores s s2 (Refill c.args.d) cores.works c.timer.result (record { spares = false; came = None })
    may c.timer.ensures.event (ap (λ (x : SchedulerSeen). pool_of guests cores x) c.timer.ensures.after)
    (unmoved t guests cores cores s may.kept refl)
    latest (ap (λ (x : SchedulerSeen). x.spare) c.timer.ensures.after) refl may.kept.linked.works
    (λ spares before. absurd (let clash : false ≡ true = spares in cc))
