use Rattle.std.proofs.Common.{true, refl, ap}
use Rattle.std.specs.Prelude.{None}
use Rattle.sched_model.specs.declared.action.Action.TheVariants.{Slice}
use Rattle.sched_model.specs.declared.event.Event.TheVariants as event
use Rattle.core_state.specs.Seen.{Seen as CoresSeen}
use Rattle.settle_laws.proofs.Spared.{spared_slice}
use Rattle.pool_core.specs.Seen.{pool_of}
use Rattle.pool_core.proofs.Acting.{acted, unmoved}
use Rattle.pool_core.proofs.ActedWorks.{works_slice}
use Rattle.pool_core.proofs.events.slice.Goals as goal

pub returns : goal.returns
returns c t guests s may =
    let cores : CoresSeen = c.args.cores.now in
    acted t guests guests cores c.set_pending.new.self s s (Slice c.args.r) cores.works (event.Slice c.args.r) (record { spares = true; came = None })
    may refl (ap (λ (x : CoresSeen). pool_of guests x s) c.set_pending.ensures)
    (unmoved t guests cores c.set_pending.new.self s may.kept (ap (λ (x : CoresSeen). x.granularity) c.set_pending.ensures))
    may.kept.linked.scheduler_latest refl (ap (λ (x : CoresSeen). x.works) c.set_pending.ensures)
    (works_slice guests.granularity t cores.works (pool_of guests cores s) may.kept.pool.known may.kept.linked.works c.args.r.0)
    (λ spares before. spared_slice guests.granularity t (pool_of guests cores s) before c.args.r.0)
