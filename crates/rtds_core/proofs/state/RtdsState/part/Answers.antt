use Rattle.std.proofs.Common.{◌≡◌, ◌<◌, ◌+◌, ◌∙◌, ap, sym, subst, List, Option, true, length, ℕ}
use Rattle.std.specs.Prelude.{is_some}
use Rattle.sched_base.specs.declared.Cores.{Cores}
use Rattle.sched_laws.proofs.EachPlace.{place_below}
use Rattle.sched_laws.proofs.Lists.{some_is}
use Rattle.sched_model.specs.Places.{at_place, clear_at}
use Rattle.sched_model.specs.declared.state.RtdsUnit.{RtdsUnit}
use Rattle.sched_ops.specs.Seen.{Seen}
use Rattle.sched_ops.specs.Conditions.{HasNoneBusy, has_joined_domain}
use Rattle.rtds_core.specs.RtdsParts.{IsKept, seen_of, size}
use Rattle.rtds_core.proofs.Queues.{IsOrdered}
use Rattle.rtds_core.proofs.Calls.{on_record}
use Rattle.rtds_core.proofs.Joining.{kept_parted}
use Rattle.rtds_core.proofs.state.RtdsState.part.Goals as goal

pub invariant_of-self : goal.invariant_of-self
invariant_of-self c =
    let i = c.self.inside in
    let order : IsOrdered i.queues = record { order = c.law_order.ensures.order; ranks = c.law_order.ensures.ranks; units = c.law_order.ensures.units } in
    let joined : is_some (at_place i.affinity c.args.d.0) ≡ true = subst (λ (s : Seen). has_joined_domain s.scheduler c.args.d.0 ≡ true) (sym c.self.view_is) c.requires.joined in
    let there = some_is (at_place i.affinity c.args.d.0) joined in
    let place : c.args.d.0 < length i.affinity = place_below i.affinity c.args.d.0 there.0 there.1 in
    let idle : HasNoneBusy (seen_of i.domains i.affinity i.queues i.spare i.latest).scheduler c.args.d.0 = subst (λ (s : Seen). HasNoneBusy s.scheduler c.args.d.0) (sym c.self.view_is) c.requires.idle in
    let parted = kept_parted i.domains i.affinity i.queues i.masks i.masks i.alarms i.spare i.latest c.args.d.0 place idle.waiting (λ u x same at. on_record i.domains u x at (idle.on u same)) order c.self.invariant in
    let count : c.count_units-units.result ≡ size (at_place i.affinity c.args.d.0) = c.count_units-units.ensures ∙ ap (λ (xs : List (Option (List Cores))). size (at_place xs c.args.d.0)) c.as_slice.ensures in
    subst (λ (n : ℕ). IsKept c.set_place-2.new.places c.set_place.new.places i.queues i.masks i.alarms (i.spare + n) i.latest) (sym count)
    (subst (λ (ds : List (Option (List RtdsUnit))). IsKept ds c.set_place.new.places i.queues i.masks i.alarms (i.spare + size (at_place i.affinity c.args.d.0)) i.latest) (sym c.set_place-2.ensures)
    (subst (λ (affinity : List (Option (List Cores))). IsKept (clear_at c.args.d.0 i.domains) affinity i.queues i.masks i.alarms (i.spare + size (at_place i.affinity c.args.d.0)) i.latest) (sym c.set_place.ensures) parted))
