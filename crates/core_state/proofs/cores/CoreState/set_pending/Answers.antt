use Rattle.std.proofs.Common.{◌∙◌, ◌+◌, ◌*◌, ◌≤◌, ℕ, List, ap, length, refl, subst, sym}
use Rattle.std.specs.Prelude.{Option, None, slice_set}
use Rattle.sched_base.specs.declared.Moment.{Moment}
use Rattle.sched_model.specs.Places.{change_at}
use Rattle.sched_model.specs.declared.state.Resource.{Resource}
use Rattle.core_state.specs.CoreState.{AgreesBut, AreArmed}
use Rattle.core_state.specs.Ends.{arrival_among}
use Rattle.sched_model.specs.Pool.{pending_core}
use Rattle.core_state.specs.Seen.{changed_core}
use Rattle.core_state.proofs.ChangeLemmas.{core_change, changed_kept, seen_is, seen_of}
use Rattle.core_state.proofs.Pending.{arrivals_but, pending_armed}
use Rattle.core_state.proofs.Counting.{same_counted}
use Rattle.core_state.proofs.cores.CoreState.set_pending.Goals as goal

pub rearm_arrivals-requires : goal.rearm_arrivals-requires
rearm_arrivals-requires c =
    let in_self = c.self.inside in
    let kept = c.self.invariant.0 in
    record {
      granularity = kept.cores.granularity;
      places = subst (λ (n : ℕ). n * in_self.granularity ≤ 64) (sym (ap (λ (cores : List (Option Resource)). length cores) c.set_pending.ensures ∙ (core_change c.args.r.0 pending_core (λ x. refl) kept).places)) kept.cores.places;
      others = subst (λ (cores : List (Option Resource)). AgreesBut (c.args.r.0 * in_self.granularity) (c.args.r.0 * in_self.granularity + in_self.granularity) in_self.dues.arrives (arrival_among in_self.granularity cores)) (sym c.set_pending.ensures)
          (arrivals_but in_self.granularity c.args.r.0 in_self.cores in_self.works in_self.dues kept.cores.granularity kept.cores.places kept.armed);
    }

pub invariant_of-self : goal.invariant_of-self
invariant_of-self c =
    let in_self = c.self.inside in
    let kept = c.self.invariant.0 in
    let told : List (Option Resource) = change_at c.args.r.0 pending_core in_self.cores in
    let arrivals : AgreesBut 0 0 c.rearm_arrivals.new.arrives (arrival_among in_self.granularity told) =
    subst (λ (cores : List (Option Resource)). AgreesBut 0 0 c.rearm_arrivals.new.arrives (arrival_among in_self.granularity cores)) c.set_pending.ensures c.rearm_arrivals.ensures in
    let armed : AreArmed (seen_of in_self.granularity told in_self.works) (record in_self.dues { slices = slice_set in_self.dues.slices c.args.r.0 None; arrives = c.rearm_arrivals.new.arrives }) =
    pending_armed in_self.granularity c.args.r.0 in_self.cores in_self.works in_self.dues kept.cores.granularity kept.cores.places kept.armed c.rearm_arrivals.new.arrives arrivals in (
      changed_kept c.args.r.0 pending_core kept (core_change c.args.r.0 pending_core (λ x. refl) kept) c.set_pending.ensures refl
          (subst (λ (cores : List (Option Resource)). AreArmed (seen_of in_self.granularity cores in_self.works) (record in_self.dues { slices = c.disarm.new.self; arrives = c.rearm_arrivals.new.arrives })) (sym c.set_pending.ensures)
          (subst (λ (slices : List (Option Moment)). AreArmed (seen_of in_self.granularity told in_self.works) (record in_self.dues { slices = slices; arrives = c.rearm_arrivals.new.arrives })) (sym c.disarm.ensures) armed)),
      same_counted c.args.r.0 pending_core c.self.inside.cores _ c.self.inside.counts (λ u x. refl) c.set_pending.ensures c.self.invariant.1,
    )

pub returns : goal.returns
returns c = seen_is c.set_pending.ensures refl ∙ ap (changed_core c.args.r.0 pending_core) c.self.view_is
