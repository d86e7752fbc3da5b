use Rattle.std.proofs.Common.{◌≡◌, ◌∙◌, ap, sym, subst, List}
use Rattle.std.specs.Prelude.{Option, Some}
use Rattle.sched_model.specs.declared.state.RtdsUnit.{RtdsUnit}
use Rattle.sched_model.specs.declared.state.Resource.{Resource}
use Rattle.sched_model.specs.Places.{at_place}
use Rattle.sched_model.specs.State.{has_core_bit}
use Rattle.sched_ops.specs.Conditions.{IsOwnOf}
use Rattle.sched_ops.specs.Seen.{Seen}
use Rattle.sched_ops.specs.WantedCores.{is_core_wanted}
use Rattle.sched_ops.proofs.Wanting.{wanted_by}
use Rattle.rtds_core.specs.RtdsParts.{seen_of}
use Rattle.rtds_core.specs.WantedCores.{decides_anew}
use Rattle.rtds_core.proofs.Queues.{IsOrdered}
use Rattle.rtds_core.proofs.Ahead.{decided_anew}
use Rattle.rtds_core.proofs.state.RtdsState.wanted.Goals as goal

pub returns : goal.returns
returns c r =
    let i = c.self.inside in
    let home = c.args.home in
    let t = c.args.t.0 in
    let order : IsOrdered i.queues = record { order = c.law_order.ensures.order; ranks = c.law_order.ensures.ranks; units = c.law_order.ensures.units } in
    let seen : Seen = seen_of i.domains i.affinity i.queues i.spare i.latest in
    let own : (x : Resource) → at_place c.args.cores.now r ≡ Some x → IsOwnOf seen.scheduler x.cur = λ x at. subst (λ (s : Seen). IsOwnOf s.scheduler x.cur) (sym c.self.view_is) (c.requires.asks r x at).own in
    wanted_by (λ core cur since answer. answer ≡ decides_anew c.as_slice.result.now i.queues i.masks cur core home) t home.0 seen.scheduler r (at_place c.args.cores.now r) (has_core_bit c.wanted.result.0 r)
    (λ x answer at asked is.
    is
    ∙ ap (λ (ds : List (Option (List RtdsUnit))). decides_anew ds i.queues i.masks x.cur (record { 0 = r }) home) c.as_slice.ensures
    ∙ decided_anew i.domains i.affinity i.queues i.masks i.spare i.latest c.self.invariant.shape c.self.invariant.queued c.self.invariant.sets order t home.0 r x.cur x.since.0 (own x at))
    (c.wanted.ensures r)
    ∙ ap (λ (s : Seen). is_core_wanted t home.0 s.scheduler r (at_place c.args.cores.now r)) c.self.view_is
