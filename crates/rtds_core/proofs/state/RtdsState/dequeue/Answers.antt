use Rattle.std.proofs.Common.{◌≡◌, ◌∙◌, ap, sym, subst, List, Option, Bool, true}
use Rattle.std.specs.Bool.{OnTrue}
use Rattle.sched_base.specs.declared.UnitId.{UnitId}
use Rattle.sched_base.specs.declared.Moment.{Moment}
use Rattle.sched_model.specs.Places.{has_listed_unit}
use Rattle.sched_ops.specs.Seen.{Seen, with_scheduler, scheduler_without_unit}
use Rattle.rtds_queue.specs.Lists.{Lists, after_remove, holds}
use Rattle.rtds_core.specs.Best.{queue_of}
use Rattle.rtds_core.specs.RtdsParts.{IsKept}
use Rattle.rtds_core.proofs.Changed.{IsLow, low_unit}
use Rattle.rtds_core.proofs.Queues.{IsOrdered, queue_removed}
use Rattle.rtds_core.proofs.Keeping.{waiting_known, low_queued}
use Rattle.rtds_core.proofs.Steps.{tells_waiting, kept_removed}
use Rattle.rtds_core.proofs.Calls.{seen_queue}
use Rattle.rtds_core.proofs.state.RtdsState.dequeue.Goals as goal

pub disarm-requires : goal.disarm-requires
disarm-requires c =
    let i = c.self.inside in
    let waits : has_listed_unit (queue_of i.queues) c.args.u ≡ true = subst (λ (s : Seen). has_listed_unit s.scheduler.queue c.args.u ≡ true) (sym c.self.view_is) c.requires.waits in
    let known = waiting_known i.domains i.queues c.args.u c.self.invariant.queued waits in
    (low_unit i.domains i.affinity c.args.u known.0 c.self.invariant.shape known.1).id

pub invariant_of-self : goal.invariant_of-self
invariant_of-self c =
    let i = c.self.inside in
    let order : IsOrdered i.queues = record { order = c.law_order.ensures.order; ranks = c.law_order.ensures.ranks; units = c.law_order.ensures.units } in
    let waits : has_listed_unit (queue_of i.queues) c.args.u ≡ true = subst (λ (s : Seen). has_listed_unit s.scheduler.queue c.args.u ≡ true) (sym c.self.view_is) c.requires.waits in
    let known = waiting_known i.domains i.queues c.args.u c.self.invariant.queued waits in
    let here : holds i.queues c.args.u ≡ true = sym (tells_waiting i.domains i.affinity i.queues i.masks i.alarms i.spare i.latest c.args.u known.0 c.self.invariant known.1) ∙ waits in
    let gone : c.remove.new.self ≡ after_remove i.queues c.args.u = subst (λ (b : Bool). OnTrue b (c.remove.new.self ≡ after_remove i.queues c.args.u)) (c.remove.ensures.answer ∙ here) c.remove.ensures.gone in
    subst (λ (q : Lists). IsKept i.domains i.affinity q i.masks c.disarm.new.self i.spare i.latest) (sym gone)
    (subst (λ (dues : List (Option Moment)). IsKept i.domains i.affinity (after_remove i.queues c.args.u) i.masks dues i.spare i.latest) (sym c.disarm.ensures)
    (kept_removed i.domains i.affinity i.queues i.masks i.alarms i.spare i.latest c.args.u order waits c.self.invariant))

pub returns : goal.returns
returns c =
    let i = c.self.inside in
    let order : IsOrdered i.queues = record { order = c.law_order.ensures.order; ranks = c.law_order.ensures.ranks; units = c.law_order.ensures.units } in
    let waits : has_listed_unit (queue_of i.queues) c.args.u ≡ true = subst (λ (s : Seen). has_listed_unit s.scheduler.queue c.args.u ≡ true) (sym c.self.view_is) c.requires.waits in
    let known = waiting_known i.domains i.queues c.args.u c.self.invariant.queued waits in
    let here : holds i.queues c.args.u ≡ true = sym (tells_waiting i.domains i.affinity i.queues i.masks i.alarms i.spare i.latest c.args.u known.0 c.self.invariant known.1) ∙ waits in
    let gone : c.remove.new.self ≡ after_remove i.queues c.args.u = subst (λ (b : Bool). OnTrue b (c.remove.new.self ≡ after_remove i.queues c.args.u)) (c.remove.ensures.answer ∙ here) c.remove.ensures.gone in
    let low : IsLow c.args.u = low_unit i.domains i.affinity c.args.u known.0 c.self.invariant.shape known.1 in
    ap (λ (us : List UnitId). seen_queue i.domains i.affinity i.spare i.latest us)
    (ap queue_of gone ∙ queue_removed i.queues c.args.u order low.byte (low_queued i.domains i.affinity i.queues c.self.invariant.shape c.self.invariant.queued) here)
    ∙ ap (λ (s : Seen). with_scheduler (scheduler_without_unit c.args.u s.scheduler) s) c.self.view_is
