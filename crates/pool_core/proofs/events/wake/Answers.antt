use Rattle.std.proofs.Common.{◌≡◌, ◌≤◌, ◌*◌, ℕ, true, refl, sym, subst, arith, length}
use Rattle.sched_base.specs.declared.UnitId.{UnitId}
use Rattle.std.specs.Prelude.{Option}
use Rattle.sched_model.specs.declared.action.Action.TheVariants.{Wake}
use Rattle.sched_model.specs.declared.event.Event.TheVariants as event
use Rattle.sched_model.specs.declared.state.Pool.{Pool}
use Rattle.sched_model.specs.CheckedMachine.{IsGranularity}
use Rattle.sched_model.specs.Pool.{after_in}
use Rattle.pool_laws.specs.CoreLooks.{IsSettled}
use Rattle.unit_state.specs.Seen.{is_due_among}
use Rattle.pool_core.specs.CoreLooks.{pool_but}
use Rattle.pool_core.specs.Seen.{pool_of}
use Rattle.pool_core.specs.Wakes.{woken_works}
use Rattle.pool_core.proofs.Acting.{acted, wake_due, wake_still}
use Rattle.pool_core.proofs.ActedWorks.{works_wake}
use Rattle.pool_core.proofs.Spared.{woken_but}
use Rattle.pool_core.proofs.events.wake.Goals as goal

pub wake-came-requires-clause-due : goal.wake-came-requires-clause-due
wake-came-requires-clause-due g c =
    wake_due c.args.guests.now.granularity c.args.t.0 c.args.v (pool_of c.args.guests.now c.args.cores.now (g.P.Policy.seen c.args.policy.now)) c.requires.enabled

pub returns : goal.returns
returns g c =
    let s = g.P.Policy.seen c.args.policy.now in
    let pool : Pool = pool_of c.args.guests.now c.args.cores.now s in
    let k = c.args.guests.now.granularity in
    let t = c.args.t.0 in
    let kept = c.requires.kept in
    let same = kept.linked.granularity in
    let granularity : IsGranularity k = subst IsGranularity same c.keeps-2.ensures.granularity in
    let places : length c.args.cores.now.resources * k ≤ 64 = subst (λ (i : ℕ). length c.args.cores.now.resources * i ≤ 64) same c.keeps-2.ensures.places in
    let due : is_due_among t c.args.guests.now.domains c.args.v ≡ true = wake_due k t c.args.v pool c.requires.enabled in
    let latest : (g.P.Policy.seen c.wake-came.new.policy).latest ≤ t = (let l = kept.linked.scheduler_latest in let e = c.wake-came.ensures.room.latest in omega (arith, l, e)) in
    acted t c.args.guests.now c.wake-came.new.guests c.args.cores.now c.wake-came.new.cores s (g.P.Policy.seen c.wake-came.new.policy) (Wake c.args.v) (woken_works k t c.args.v pool c.args.cores.now.works)
    (event.Wake c.args.v) (record { spares = true; came = c.wake-came.result })
    c.requires refl c.wake-came.ensures.pool c.wake-came.ensures.rest latest c.wake-came.ensures.room.spare c.wake-came.ensures.works
    (works_wake k t c.args.v c.args.cores.now.works pool kept.pool.some granularity places c.keeps-2.ensures.works kept.pool.known (wake_still t c.args.v c.args.guests.now c.keeps.ensures due) kept.linked.works)
    (λ spares before. subst (λ (came : Option UnitId). IsSettled t (pool_but came (after_in k t pool (Wake c.args.v)))) (sym c.wake-came.ensures.came) (woken_but k t pool c.args.v before))
