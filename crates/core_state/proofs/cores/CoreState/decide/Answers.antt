use Rattle.std.proofs.Common.{◌∙◌, ap, length, refl}
use Rattle.core_state.specs.Seen.{changed_core, chosen_core}
use Rattle.core_state.proofs.Arming.{few_places}
use Rattle.core_state.proofs.ChangeLemmas.{may_rearm, core_change, changed_kept, seen_is, chosen_keeps}
use Rattle.core_state.proofs.Steps.{decided_armed, have_ids}
use Rattle.core_state.proofs.Counting.{changed_counted}
use Rattle.core_state.proofs.cores.CoreState.decide.Goals as goal

pub count_choice_at-requires : goal.count_choice_at-requires
count_choice_at-requires c = record { few = few_places c.self.inside.granularity (length c.self.inside.cores) c.self.invariant.0.cores.granularity c.self.invariant.0.cores.places; counts = c.self.invariant.1 }

pub rearm_decided-requires : goal.rearm_decided-requires
rearm_decided-requires c =
    let may = may_rearm c.self.invariant.0 (core_change c.args.r.0 (chosen_core c.args.t.0 c.args.unit c.args.due) (chosen_keeps c.args.t.0 c.args.unit c.args.due) c.self.invariant.0) c.choose_at.ensures refl in
    record { granularity = may.granularity; places = may.places; ids = have_ids _ _ c.self.invariant.0.armed; arrives = may.others.arrives; leaves = may.others.leaves }

pub invariant_of-self : goal.invariant_of-self
invariant_of-self c =
    let change = core_change c.args.r.0 (chosen_core c.args.t.0 c.args.unit c.args.due) (chosen_keeps c.args.t.0 c.args.unit c.args.due) c.self.invariant.0 in (
      changed_kept c.args.r.0 (chosen_core c.args.t.0 c.args.unit c.args.due) c.self.invariant.0 change c.choose_at.ensures refl
          (decided_armed c.args.r.0 c.args.t.0 c.args.unit c.args.due c.self.invariant.0 change c.choose_at.ensures c.rearm_decided.ensures.rest c.rearm_decided.ensures.arrives c.rearm_decided.ensures.leaves),
      changed_counted c.args.r.0 (chosen_core c.args.t.0 c.args.unit c.args.due) c.self.inside.cores c.choose_at.new.cores c.self.inside.counts c.count_choice_at.new.counts c.choose_at.ensures c.self.invariant.1
          (λ u has. c.count_choice_at.ensures c.args.t.0 c.args.due u has),
    )

pub returns : goal.returns
returns c = seen_is c.choose_at.ensures refl ∙ ap (changed_core c.args.r.0 (chosen_core c.args.t.0 c.args.unit c.args.due)) c.self.view_is
