use Rattle.std.proofs.Common.{◌≡◌, ◌∙◌, ap, sym, subst, List, Option, Some, None}
use Rattle.std.specs.Prelude.{◌==◌}
use Rattle.sched_base.specs.declared.UnitId.{UnitId}
use Rattle.sched_base.specs.declared.Moment.{Moment}
use Rattle.sched_model.specs.EligibleUnits.{rtds_unit_at}
use Rattle.sched_model.specs.Policy.{scheduler_with_queued}
use Rattle.sched_model.specs.declared.state.RtdsUnit.{RtdsUnit}
use Rattle.sched_ops.specs.Seen.{Seen, with_scheduler}
use Rattle.sched_ops.specs.Conditions.{IsAway}
use Rattle.rtds_queue.specs.Lists.{Lists, lists_after_arrival}
use Rattle.rtds_queue.specs.declared.RtdsKey.{RtdsKey}
use Rattle.rtds_core.specs.Best.{queue_of, key_by}
use Rattle.rtds_core.specs.RtdsParts.{IsKept, seen_of}
use Rattle.rtds_core.proofs.Changed.{low_unit, member_record}
use Rattle.rtds_core.proofs.Queues.{IsOrdered, queue_put}
use Rattle.rtds_core.proofs.Keeping.{room_left}
use Rattle.rtds_core.proofs.Steps.{tells_waiting, kept_put}
use Rattle.rtds_core.proofs.Calls.{off_record, seen_queue}
use Rattle.rtds_core.proofs.state.RtdsState.enqueue.Goals as goal

pub arm-requires : goal.arm-requires
arm-requires c =
    let i = c.self.inside in
    let at : rtds_unit_at i.domains c.args.u ≡ Some c.in-Some.x.now = rw c.as_slice.ensures at (sym c.in-Some.ensures) in
    (low_unit i.domains i.affinity c.args.u c.in-Some.x.now c.self.invariant.shape at).id

pub put-requires-clause-place : goal.put-requires-clause-place
put-requires-clause-place c =
    let i = c.self.inside in
    let at : rtds_unit_at i.domains c.args.u ≡ Some c.in-Some.x.now = rw c.as_slice.ensures at (sym c.in-Some.ensures) in
    (low_unit i.domains i.affinity c.args.u c.in-Some.x.now c.self.invariant.shape at).place

pub put-requires-clause-absent : goal.put-requires-clause-absent
put-requires-clause-absent c =
    let i = c.self.inside in
    let at : rtds_unit_at i.domains c.args.u ≡ Some c.in-Some.x.now = rw c.as_slice.ensures at (sym c.in-Some.ensures) in
    let away : IsAway (seen_of i.domains i.affinity i.queues i.spare i.latest).scheduler c.args.u = subst (λ (s : Seen). IsAway s.scheduler c.args.u) (sym c.self.view_is) c.requires.away in
    sym (tells_waiting i.domains i.affinity i.queues i.masks i.alarms i.spare i.latest c.args.u c.in-Some.x.now c.self.invariant at) ∙ away.waits_not

pub put-requires-clause-room : goal.put-requires-clause-room
put-requires-clause-room c =
    let i = c.self.inside in
    let order : IsOrdered i.queues = record { order = c.law_order.ensures.order; ranks = c.law_order.ensures.ranks; units = c.law_order.ensures.units } in
    let at : rtds_unit_at i.domains c.args.u ≡ Some c.in-Some.x.now = rw c.as_slice.ensures at (sym c.in-Some.ensures) in
    let away : IsAway (seen_of i.domains i.affinity i.queues i.spare i.latest).scheduler c.args.u = subst (λ (s : Seen). IsAway s.scheduler c.args.u) (sym c.self.view_is) c.requires.away in
    room_left i.domains i.affinity i.queues i.masks i.alarms i.spare i.latest c.args.u c.in-Some.x.now c.self.invariant order at away.waits_not

pub invariant_of-self : goal.invariant_of-self
invariant_of-self c =
    let i = c.self.inside in
    let order : IsOrdered i.queues = record { order = c.law_order.ensures.order; ranks = c.law_order.ensures.ranks; units = c.law_order.ensures.units } in
    let x : RtdsUnit = c.in-Some.x.now in
    let at : rtds_unit_at i.domains c.args.u ≡ Some x = rw c.as_slice.ensures at (sym c.in-Some.ensures) in
    let away : IsAway (seen_of i.domains i.affinity i.queues i.spare i.latest).scheduler c.args.u = subst (λ (s : Seen). IsAway s.scheduler c.args.u) (sym c.self.view_is) c.requires.away in
    let kept = kept_put i.domains i.affinity i.queues i.masks i.alarms i.spare i.latest c.args.u x order at (off_record i.domains c.args.u x at away.off) away.waits_not c.self.invariant in
    let queues : c.put.new.self ≡ lists_after_arrival i.queues c.args.u (key_by x) (x.left == 0) = c.put.ensures ∙ ap (λ (k : RtdsKey). lists_after_arrival i.queues c.args.u k (x.left == 0)) c.key_of.ensures in
    subst (λ (q : Lists). IsKept i.domains i.affinity q i.masks c.arm.new.self i.spare i.latest) (sym queues)
    (subst (λ (dues : List (Option Moment)). IsKept i.domains i.affinity (lists_after_arrival i.queues c.args.u (key_by x) (x.left == 0)) i.masks dues i.spare i.latest) (sym c.arm.ensures) kept)

pub returns-in-Some : goal.returns-in-Some
returns-in-Some c =
    let i = c.self.inside in
    let order : IsOrdered i.queues = record { order = c.law_order.ensures.order; ranks = c.law_order.ensures.ranks; units = c.law_order.ensures.units } in
    ap (λ (us : List UnitId). seen_queue i.domains i.affinity i.spare i.latest us) (ap queue_of c.put.ensures ∙ queue_put i.queues c.args.u c.key_of.result (c.in-Some.x.now.left == 0) order)
    ∙ ap (λ (s : Seen). with_scheduler (scheduler_with_queued c.args.u s.scheduler) s) c.self.view_is

pub returns-in_default : goal.returns-in_default
returns-in_default c =
    let i = c.self.inside in
    let away : IsAway (seen_of i.domains i.affinity i.queues i.spare i.latest).scheduler c.args.u = subst (λ (s : Seen). IsAway s.scheduler c.args.u) (sym c.self.view_is) c.requires.away in
    let known = member_record i.domains i.affinity c.args.u c.self.invariant.shape away.member in
    let none : rtds_unit_at i.domains c.args.u ≡ None = rw c.as_slice.ensures at (sym c.in_default.ensures) in
    let f : ◌≡◌ {A = Option RtdsUnit} None (Some known.0) = sym none ∙ known.1 in
    absurd (cc)
