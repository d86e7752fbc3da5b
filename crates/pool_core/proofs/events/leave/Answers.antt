use Rattle.sched_base.specs.Numbers.{processor}
use Rattle.std.proofs.Common.{◌≡◌, ◌≤◌, ◌*◌, ℕ, true, refl, ap, subst, ◌∙◌, length, arith}
use Rattle.std.specs.Prelude.{Option, None, slice_set}
use Rattle.sched_base.specs.declared.VcpuId.{VcpuId}
use Rattle.sched_model.specs.declared.action.Action.TheVariants.{Leave}
use Rattle.sched_model.specs.declared.event.Event.TheVariants as event
use Rattle.sched_model.specs.declared.state.Pool.{Pool}
use Rattle.sched_model.specs.CheckedMachine.{IsGranularity}
use Rattle.sched_model.specs.Pool.{taken_at}
use Rattle.settle_laws.proofs.Spared.{spared_leave}
use Rattle.pool_core.specs.ProcessorEvents.{parted_with, work_of}
use Rattle.pool_core.specs.PoolState.{AreWorks}
use Rattle.pool_core.specs.Seen.{pool_of}
use Rattle.pool_core.proofs.Acting.{acted}
use Rattle.pool_core.proofs.ActedWorks.{few_processors, may_leave, works_parted}
use Rattle.pool_core.proofs.events.leave.Goals as goal

pub returns : goal.returns
returns c s may =
    let pool : Pool = pool_of c.args.guests.now c.args.cores.now s in
    let k = c.args.guests.now.granularity in
    let t = c.args.t.0 in
    let p = c.args.p.0 in
    let leaves = may_leave k t p pool may.kept.pool.some may.kept.pool.known may.enabled in
    let same = may.kept.linked.granularity in
    let granularity : IsGranularity k = subst IsGranularity same c.keeps.ensures.granularity in
    let places : length c.args.cores.now.resources * k ≤ 64 = subst (λ (i : ℕ). length c.args.cores.now.resources * i ≤ 64) same c.keeps.ensures.places in
    let inside = few_processors k p c.args.cores.now.resources leaves.core granularity places leaves.at in
    let count = c.keeps.ensures.works in
    let taken : c.leave-v.result ≡ taken_at k pool p = c.leave-v.ensures.taken s in
    let after : Pool = parted_with k t p (taken_at k pool p) pool in
    let parted : pool_of c.leave-v.new.guests c.leave-v.new.cores s ≡ after = c.leave-v.ensures.pool s ∙ ap (λ (o : Option VcpuId). parted_with k t p o pool) taken in
    let works : AreWorks k (slice_set c.args.cores.now.works p (work_of after.domains (taken_at k pool p))) after =
    works_parted k t p c.args.cores.now.works pool leaves.processor (taken_at k pool p) may.kept.pool.known may.kept.linked.works (omega (arith, inside, count)) leaves.there leaves.only in
    acted t c.args.guests.now c.leave-v.new.guests c.args.cores.now c.leave-v.new.cores s s (Leave (processor p)) (slice_set c.args.cores.now.works p (work_of after.domains (taken_at k pool p)))
    (event.Leave (processor p) c.leave-v.result) (record { spares = true; came = None })
    may (ap (event.Leave (processor p)) taken) (parted ∙ leaves.after) c.leave-v.ensures.rest may.kept.linked.scheduler_latest refl
    (c.leave-v.ensures.works ∙ ap (λ (o : Option VcpuId). slice_set c.args.cores.now.works p (work_of c.leave-v.new.guests.domains o)) taken ∙ ap (λ (x : Pool). slice_set c.args.cores.now.works p (work_of x.domains (taken_at k pool p))) parted)
    (subst (AreWorks k (slice_set c.args.cores.now.works p (work_of after.domains (taken_at k pool p)))) leaves.after works)
    (λ spares before. spared_leave k t pool before p)
