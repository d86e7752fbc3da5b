use Rattle.std.proofs.Common.{◌/◌, ◌%◌, ◌∙◌, ap}
use Rattle.sched_laws.proofs.SiblingsLaw.{some_processor}
use Rattle.sched_model.specs.declared.state.Resource.{Resource}
use Rattle.sched_model.specs.Pool.{with_doing, reopened_core}
use Rattle.core_state.specs.Seen.{Seen, changed_core, changed_processor, with_sibling, with_work}
use Rattle.core_state.proofs.ChangeLemmas.{may_rearm, change_twice, worked_change, changed_kept, open_sibling_keeps, seen_is}
use Rattle.core_state.proofs.Steps.{have_ids, left_armed, may_gather_after, pending_left}
use Rattle.core_state.proofs.Counting.{open_places, same_counted}
use Rattle.core_state.proofs.cores.CoreState.leave.Goals as goal

pub leave_at-requires : goal.leave_at-requires
leave_at-requires c = some_processor c.self.inside.granularity c.self.invariant.0.cores.granularity

pub rearm_left-requires : goal.rearm_left-requires
rearm_left-requires c =
    let change = worked_change c.args.p.0 c.args.work (λ (x : Resource). reopened_core (with_sibling (c.args.p.0 % c.self.inside.granularity) (with_doing c.args.doing) x)) (open_sibling_keeps (c.args.p.0 % c.self.inside.granularity) (with_doing c.args.doing)) c.self.invariant.0 in
    let is = c.leave_at.ensures ∙ change_twice (c.args.p.0 / c.self.inside.granularity) reopened_core (with_sibling (c.args.p.0 % c.self.inside.granularity) (with_doing c.args.doing)) c.self.inside.cores in
    let may = may_rearm c.self.invariant.0 change is c.set_place.ensures in
    record { granularity = may.granularity; places = may.places; ids = have_ids _ _ c.self.invariant.0.armed; arrives = may_gather_after (λ (x : Resource). reopened_core (with_sibling (c.args.p.0 % c.self.inside.granularity) (with_doing c.args.doing) x)) c.self.invariant.0 change is (pending_left (c.args.p.0 % c.self.inside.granularity) c.args.doing) }

pub invariant_of-self : goal.invariant_of-self
invariant_of-self c =
    let change = worked_change c.args.p.0 c.args.work (λ (x : Resource). reopened_core (with_sibling (c.args.p.0 % c.self.inside.granularity) (with_doing c.args.doing) x)) (open_sibling_keeps (c.args.p.0 % c.self.inside.granularity) (with_doing c.args.doing)) c.self.invariant.0 in
    let is = c.leave_at.ensures ∙ change_twice (c.args.p.0 / c.self.inside.granularity) reopened_core (with_sibling (c.args.p.0 % c.self.inside.granularity) (with_doing c.args.doing)) c.self.inside.cores in (
      changed_kept (c.args.p.0 / c.self.inside.granularity) (λ (x : Resource). reopened_core (with_sibling (c.args.p.0 % c.self.inside.granularity) (with_doing c.args.doing) x)) c.self.invariant.0 change is c.set_place.ensures
          (left_armed c.args.p.0 c.args.work c.args.doing c.self.invariant.0 change is c.set_place.ensures c.rearm_left.ensures.rest c.rearm_left.ensures.arrives),
      same_counted (c.args.p.0 / c.self.inside.granularity) (λ (x : Resource). reopened_core (with_sibling (c.args.p.0 % c.self.inside.granularity) (with_doing c.args.doing) x)) c.self.inside.cores _ c.self.inside.counts (open_places (c.args.p.0 % c.self.inside.granularity) (with_doing c.args.doing)) is c.self.invariant.1,
    )

pub returns : goal.returns
returns c =
    seen_is c.leave_at.ensures c.set_place.ensures
    ∙ ap (λ (seen : Seen). with_work c.args.p.0 c.args.work (changed_core (c.args.p.0 / seen.granularity) reopened_core (changed_processor c.args.p.0 (with_doing c.args.doing) seen))) c.self.view_is
