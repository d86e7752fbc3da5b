use Rattle.std.proofs.Common.{◌≡◌, ◌≤◌, ◌<◌, ◌-◌, ◌∙◌, ap, sym, subst, List, Option, None, length, replicate, arith}
use Rattle.sched_base.specs.declared.Cores.{Cores}
use Rattle.sched_ops.specs.Seen.{Seen}
use Rattle.sched_ops.specs.Conditions.{AreDomParams}
use Rattle.sched_model.specs.declared.config.SchedKind.TheVariants as kinds
use Rattle.sched_model.specs.Policy.{records_kind}
use Rattle.sched_model.specs.Places.{at_place, put_at}
use Rattle.sched_base.specs.CoreSets.{every_core}
use Rattle.rtds_core.specs.RtdsParts.{IsKept}
use Rattle.rtds_core.proofs.Steps.{kept_later}
use Rattle.rtds_core.proofs.Calls.{kept_with}
use Rattle.rtds_core.proofs.state.RtdsState.join.Goals as goal

pub invariant_of-self : goal.invariant_of-self
invariant_of-self c =
    let i = c.self.inside in
    let past : i.latest ≤ c.args.t.0 = subst (λ (s : Seen). s.latest ≤ c.args.t.0) (sym c.self.view_is) c.requires.now.after in
    let place : c.args.d.0 < length i.affinity = subst (λ (s : Seen). c.args.d.0 < length s.scheduler.affinity) (sym c.self.view_is) c.requires.place in
    let absent : at_place i.affinity c.args.d.0 ≡ None = subst (λ (s : Seen). at_place s.scheduler.affinity c.args.d.0 ≡ None) (sym c.self.view_is) c.requires.absent in
    let room : c.args.units ≤ i.spare = subst (λ (s : Seen). c.args.units ≤ s.spare) (sym c.self.view_is) c.requires.room in
    let params : AreDomParams kinds.Rtds c.args.params.now = subst (λ (s : Seen). AreDomParams (records_kind s.scheduler.records) c.args.params.now) (sym c.self.view_is) c.requires.params in
    let later = kept_later i.domains i.affinity i.queues i.masks i.alarms i.spare i.latest c.args.t.0 past c.requires.now.early c.self.invariant in
    let joined = kept_with i.domains c.join_records.new.domains i.affinity i.queues i.masks c.set_masks.new.masks i.alarms i.spare c.args.t.0 c.args.d.0 c.args.units c.args.params.now params c.join_records.ensures place absent c.requires.few room c.set_masks.ensures later in
    let sets : c.set_place.new.places ≡ put_at c.args.d.0 (replicate c.args.units every_core) i.affinity = c.set_place.ensures ∙ ap (λ (xs : List Cores). put_at c.args.d.0 xs i.affinity) c.copies.ensures in
    subst (λ (affinity : List (Option (List Cores))). IsKept c.join_records.new.domains affinity i.queues c.set_masks.new.masks i.alarms (i.spare - c.args.units) c.args.t.0) (sym sets) joined

pub set_masks-requires-clause-domain : goal.set_masks-requires-clause-domain
set_masks-requires-clause-domain c =
    let i = c.self.inside in
    let place : c.args.d.0 < length i.affinity = subst (λ (s : Seen). c.args.d.0 < length s.scheduler.affinity) (sym c.self.view_is) c.requires.place in
    let few = c.self.invariant.shape.few in
    omega (arith, place, few)

pub join_records-requires-clause-params : goal.join_records-requires-clause-params
join_records-requires-clause-params c = subst (λ (s : Seen). AreDomParams (records_kind s.scheduler.records) c.args.params.now) (sym c.self.view_is) c.requires.params
