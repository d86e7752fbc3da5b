use Rattle.std.proofs.Common.{◌/◌, ◌%◌, ◌∙◌, ap, refl}
use Rattle.sched_laws.proofs.SiblingsLaw.{some_processor}
use Rattle.sched_model.specs.Pool.{with_doing}
use Rattle.core_state.specs.Seen.{Seen, changed_processor, with_sibling, with_work}
use Rattle.core_state.proofs.ChangeLemmas.{may_rearm, worked_change, changed_kept, seen_is, sibling_keeps}
use Rattle.core_state.proofs.Steps.{have_ids, step_armed}
use Rattle.core_state.proofs.Counting.{same_counted}
use Rattle.core_state.proofs.cores.CoreState.set_doing.Goals as goal

pub change_doing-requires : goal.change_doing-requires
change_doing-requires c = some_processor c.self.inside.granularity c.self.invariant.0.cores.granularity

pub rearm_step-requires : goal.rearm_step-requires
rearm_step-requires c =
    let may = may_rearm c.self.invariant.0 (worked_change c.args.p.0 c.args.work (with_sibling (c.args.p.0 % c.self.inside.granularity) (with_doing c.args.doing)) (sibling_keeps (c.args.p.0 % c.self.inside.granularity) (with_doing c.args.doing)) c.self.invariant.0) c.change_doing.ensures c.set_place.ensures in
    record { granularity = may.granularity; places = may.places; ids = have_ids _ _ c.self.invariant.0.armed }

pub invariant_of-self : goal.invariant_of-self
invariant_of-self c =
    let change = worked_change c.args.p.0 c.args.work (with_sibling (c.args.p.0 % c.self.inside.granularity) (with_doing c.args.doing)) (sibling_keeps (c.args.p.0 % c.self.inside.granularity) (with_doing c.args.doing)) c.self.invariant.0 in (
      changed_kept (c.args.p.0 / c.self.inside.granularity) (with_sibling (c.args.p.0 % c.self.inside.granularity) (with_doing c.args.doing)) c.self.invariant.0 change c.change_doing.ensures c.set_place.ensures
          (step_armed c.args.p.0 c.args.work c.args.doing c.self.invariant.0 change c.change_doing.ensures c.set_place.ensures c.rearm_step.ensures),
      same_counted (c.args.p.0 / c.self.inside.granularity) (with_sibling (c.args.p.0 % c.self.inside.granularity) (with_doing c.args.doing)) c.self.inside.cores _ c.self.inside.counts (λ u x. refl) c.change_doing.ensures c.self.invariant.1,
    )

pub returns : goal.returns
returns c = seen_is c.change_doing.ensures c.set_place.ensures ∙ ap (λ (seen : Seen). with_work c.args.p.0 c.args.work (changed_processor c.args.p.0 (with_doing c.args.doing) seen)) c.self.view_is
