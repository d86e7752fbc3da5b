use Rattle.std.proofs.Common.{◌≡◌, ◌≤◌, ◌∙◌, ap, sym, subst, List, Option, Some, None, arith, refl, true}
use Rattle.std.specs.Option.{IfSome}
use Rattle.sched_base.specs.declared.UnitId.{UnitId}
use Rattle.sched_model.specs.declared.state.RtdsUnit.{RtdsUnit}
use Rattle.sched_model.specs.EligibleUnits.{rtds_unit_at}
use Rattle.sched_model.specs.Rtds.{unit_after_replenish, change_unit}
use Rattle.sched_ops.specs.Seen.{Seen, seen_at}
use Rattle.sched_ops.specs.Timers.{is_due, after_timer}
use Rattle.sched_ops.specs.declared.timer.Timer.TheVariants.{Repl}
use Rattle.rtds_queue.specs.Lists.{holds}
use Rattle.rtds_core.specs.Best.{queue_of}
use Rattle.rtds_core.specs.RtdsParts.{seen_of, renewed_if, rearmed_dues}
use Rattle.rtds_core.proofs.Changed.{shared_fits, low_unit}
use Rattle.rtds_core.proofs.Queues.{IsOrdered}
use Rattle.rtds_core.proofs.Steps.{kept_later, tells_waiting}
use Rattle.rtds_core.proofs.Chosen.{replenished_holds, kept_replenished, queue_replenished}
use Rattle.rtds_core.proofs.Calls.{kept_as, replenished_of, seen_queue}
use Rattle.rtds_core.proofs.state.RtdsState.replenish.Goals as goal
use Rattle.sched_laws.proofs.RtdsUnits.{rtds_unit-same}

pub replenish-requires-clause-fits : goal.replenish-requires-clause-fits
replenish-requires-clause-fits c =
    let i = c.self.inside in
    let t = c.args.t.0 in
    let past : i.latest ≤ t = subst (λ (s : Seen). s.latest ≤ t) (sym c.self.view_is) c.requires.now.after in
    let later = kept_later i.domains i.affinity i.queues i.masks i.alarms i.spare i.latest t past c.requires.now.early c.self.invariant in
    let places = c.self.invariant.shape.places in
    let most = c.self.invariant.shape.few in
    shared_fits t i.domains (omega (arith, places, most)) later.fits

pub renew-requires-clause-id : goal.renew-requires-clause-id
renew-requires-clause-id c =
    let i = c.self.inside in
    let t = c.args.t.0 in
    let past : i.latest ≤ t = subst (λ (s : Seen). s.latest ≤ t) (sym c.self.view_is) c.requires.now.after in
    let later = kept_later i.domains i.affinity i.queues i.masks i.alarms i.spare i.latest t past c.requires.now.early c.self.invariant in
    let is = replenished_of i.domains i.affinity i.queues i.masks i.alarms i.spare t c.args.u (subst (λ (s : Seen). is_due t s.scheduler (Repl c.args.u) ≡ true) (sym c.self.view_is) c.requires.due) in
    (low_unit i.domains i.affinity c.args.u is.unit c.self.invariant.shape is.at).id

pub renew-requires-clause-waits : goal.renew-requires-clause-waits
renew-requires-clause-waits c =
    let i = c.self.inside in
    let t = c.args.t.0 in
    let past : i.latest ≤ t = subst (λ (s : Seen). s.latest ≤ t) (sym c.self.view_is) c.requires.now.after in
    let later = kept_later i.domains i.affinity i.queues i.masks i.alarms i.spare i.latest t past c.requires.now.early c.self.invariant in
    let is = replenished_of i.domains i.affinity i.queues i.masks i.alarms i.spare t c.args.u (subst (λ (s : Seen). is_due t s.scheduler (Repl c.args.u) ≡ true) (sym c.self.view_is) c.requires.due) in
    let unit : c.copied-unit.result ≡ Some (unit_after_replenish t is.unit) =
    c.copied-unit.ensures ∙ c.rtds_unit.ensures ∙ ap (λ (ds : List (Option (List RtdsUnit))). rtds_unit_at ds c.args.u) (c.as_slice.ensures ∙ c.replenish.ensures) ∙ rtds_unit-same c.args.u (unit_after_replenish t) i.domains is.unit is.at in
    subst (λ (o : Option RtdsUnit). IfSome o (λ (x : RtdsUnit). x.burned ≡ None → holds i.queues c.args.u ≡ true)) (sym unit)
    (λ off. sym (tells_waiting i.domains i.affinity i.queues i.masks i.alarms i.spare t c.args.u is.unit later is.at) ∙ replenished_holds i.domains i.affinity i.queues i.masks i.alarms i.spare t c.args.u is later off)

pub invariant_of-self : goal.invariant_of-self
invariant_of-self c =
    let i = c.self.inside in
    let t = c.args.t.0 in
    let past : i.latest ≤ t = subst (λ (s : Seen). s.latest ≤ t) (sym c.self.view_is) c.requires.now.after in
    let later = kept_later i.domains i.affinity i.queues i.masks i.alarms i.spare i.latest t past c.requires.now.early c.self.invariant in
    let is = replenished_of i.domains i.affinity i.queues i.masks i.alarms i.spare t c.args.u (subst (λ (s : Seen). is_due t s.scheduler (Repl c.args.u) ≡ true) (sym c.self.view_is) c.requires.due) in
    let unit : c.copied-unit.result ≡ Some (unit_after_replenish t is.unit) =
    c.copied-unit.ensures ∙ c.rtds_unit.ensures ∙ ap (λ (ds : List (Option (List RtdsUnit))). rtds_unit_at ds c.args.u) (c.as_slice.ensures ∙ c.replenish.ensures) ∙ rtds_unit-same c.args.u (unit_after_replenish t) i.domains is.unit is.at in
    let order : IsOrdered i.queues = record { order = c.law_order.ensures.order; ranks = c.law_order.ensures.ranks; units = c.law_order.ensures.units } in
    let queues : c.renew.new.queues ≡ renewed_if (Some (unit_after_replenish t is.unit)) c.args.u i.queues = c.renew.ensures.queues ∙ ap (λ (o : Option RtdsUnit). renewed_if o c.args.u i.queues) unit in
    let alarms : c.renew.new.alarms ≡ rearmed_dues (Some (unit_after_replenish t is.unit)) c.args.u i.alarms = c.renew.ensures.alarms ∙ ap (λ (o : Option RtdsUnit). rearmed_dues o c.args.u i.alarms) unit in
    kept_as (change_unit c.args.u (unit_after_replenish t) i.domains) c.replenish.new.domains i.affinity i.affinity (renewed_if (Some (unit_after_replenish t is.unit)) c.args.u i.queues) c.renew.new.queues i.masks (rearmed_dues (Some (unit_after_replenish t is.unit)) c.args.u i.alarms) c.renew.new.alarms i.spare t
    c.replenish.ensures refl queues alarms (kept_replenished i.domains i.affinity i.queues i.masks i.alarms i.spare t c.args.u is order later)

pub returns-clause-after : goal.returns-clause-after
returns-clause-after c =
    let i = c.self.inside in
    let t = c.args.t.0 in
    let past : i.latest ≤ t = subst (λ (s : Seen). s.latest ≤ t) (sym c.self.view_is) c.requires.now.after in
    let later = kept_later i.domains i.affinity i.queues i.masks i.alarms i.spare i.latest t past c.requires.now.early c.self.invariant in
    let is = replenished_of i.domains i.affinity i.queues i.masks i.alarms i.spare t c.args.u (subst (λ (s : Seen). is_due t s.scheduler (Repl c.args.u) ≡ true) (sym c.self.view_is) c.requires.due) in
    let unit : c.copied-unit.result ≡ Some (unit_after_replenish t is.unit) =
    c.copied-unit.ensures ∙ c.rtds_unit.ensures ∙ ap (λ (ds : List (Option (List RtdsUnit))). rtds_unit_at ds c.args.u) (c.as_slice.ensures ∙ c.replenish.ensures) ∙ rtds_unit-same c.args.u (unit_after_replenish t) i.domains is.unit is.at in
    let order : IsOrdered i.queues = record { order = c.law_order.ensures.order; ranks = c.law_order.ensures.ranks; units = c.law_order.ensures.units } in
    let queues : c.renew.new.queues ≡ renewed_if (Some (unit_after_replenish t is.unit)) c.args.u i.queues = c.renew.ensures.queues ∙ ap (λ (o : Option RtdsUnit). renewed_if o c.args.u i.queues) unit in
    ap (λ (ds : List (Option (List RtdsUnit))). seen_of ds i.affinity c.renew.new.queues i.spare t) c.replenish.ensures
    ∙ ap (λ (us : List UnitId). seen_queue (change_unit c.args.u (unit_after_replenish t) i.domains) i.affinity i.spare t us) (ap queue_of queues ∙ queue_replenished i.domains i.affinity i.queues i.masks i.alarms i.spare t c.args.u is order later)
    ∙ ap (λ (s : Seen). seen_at t (after_timer t s.scheduler (Repl c.args.u)) s) c.self.view_is
