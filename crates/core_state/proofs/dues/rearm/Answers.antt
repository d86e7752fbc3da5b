use Rattle.std.proofs.Common.{◌+◌, ◌*◌, ◌≤◌, ◌≡◌, ◌∙◌, ℕ, List, length, ap, subst, arith}
use Rattle.std.specs.Prelude.{Option}
use Rattle.std.specs.Option.{option_copied}
use Rattle.sched_base.specs.declared.Moment.{Moment}
use Rattle.sched_model.specs.declared.state.Resource.{Resource}
use Rattle.sched_model.specs.Places.{at_place}
use Rattle.core_state.specs.Seen.{Seen}
use Rattle.core_state.specs.CoreState.{AreArmedBut, with_core_ends}
use Rattle.core_state.proofs.Arming.{few_places, core_past, core_armed, core_of_sibling_past, sibling_armed, all_armed}
use Rattle.core_state.proofs.dues.rearm.Goals as goal

pub rearm_core-requires : goal.rearm_core-requires
rearm_core-requires c = record {
  none = λ past.
      c.item_at-core.ensures ∙ ap (λ (cores : List (Option Resource)). at_place cores c.args.r.0) c.as_slice.ensures
      ∙ core_past c.args.cores.now c.args.r.0 (few_places c.args.granularity (length c.args.cores.now) c.requires.granularity c.requires.places) past;
  slices = c.requires.others.slices.ids;
  decides = c.requires.others.decides.ids;
  saves = c.requires.others.saves.ids;
}

pub loop-i-init : goal.loop-i-init
loop-i-init c =
    let seen : Seen = record { resources = c.args.cores.now; works = c.args.works.now; granularity = c.args.granularity } in
    let start : c.args.r.0 * c.args.granularity ≡ c.args.r.0 * c.args.granularity + 0 = omega arith in
    let core_is : option_copied c.item_at-core.result ≡ at_place c.args.cores.now c.args.r.0 =
    c.item_at-core.ensures ∙ ap (λ (cores : List (Option Resource)). at_place cores c.args.r.0) c.as_slice.ensures in
    rw (c.rearm_core.ensures ∙ ap (λ (core : Option Resource). with_core_ends c.args.r.0 core c.args.dues.now) core_is)
    (core_armed c.args.r.0 (c.args.r.0 * c.args.granularity + 0) (c.args.r.0 * c.args.granularity + c.args.granularity) seen c.args.dues.now
    (few_places c.args.granularity (length c.args.cores.now) c.requires.granularity c.requires.places)
    (subst (λ (k : ℕ). AreArmedBut c.args.r.0 (c.args.r.0 + 1) k (c.args.r.0 * c.args.granularity + c.args.granularity) seen c.args.dues.now) start c.requires.others))

pub rearm_processor-requires : goal.rearm_processor-requires
rearm_processor-requires c = record {
  none = λ past.
      c.item_at-core.ensures ∙ ap (λ (cores : List (Option Resource)). at_place cores c.args.r.0) c.as_slice.ensures
      ∙ core_of_sibling_past c.args.granularity c.args.r.0 c.loop-i.i c.args.cores.now c.requires.granularity c.requires.places c.loop-i-test.true past;
  blocks = c.loop-i.invariant.blocks.ids;
  arrives = c.loop-i.invariant.arrives.ids;
  leaves = c.loop-i.invariant.leaves.ids;
}

pub loop-i-preserved : goal.loop-i-preserved
loop-i-preserved c =
    let seen : Seen = record { resources = c.args.cores.now; works = c.args.works.now; granularity = c.args.granularity } in
    let core_is : option_copied c.item_at-core.result ≡ at_place c.args.cores.now c.args.r.0 =
    c.item_at-core.ensures ∙ ap (λ (cores : List (Option Resource)). at_place cores c.args.r.0) c.as_slice.ensures in
    let work_is : c.work_at.result ≡ at_place c.args.works.now (c.args.r.0 * c.args.granularity + c.loop-i.i) =
    c.work_at.ensures ∙ ap (λ (works : List (Option Moment)). at_place works (c.args.r.0 * c.args.granularity + c.loop-i.i)) c.as_slice-done_at.ensures in
    rw c.rearm_processor.ensures
    (sibling_armed c.args.r.0 (c.args.r.0 + 1) c.loop-i.i (c.args.r.0 * c.args.granularity + c.args.granularity) seen c.loop-i.dues (option_copied c.item_at-core.result) c.work_at.result c.requires.granularity c.requires.places c.loop-i-test.true
    core_is work_is c.loop-i.invariant)

pub returns : goal.returns
returns c =
    let seen : Seen = record { resources = c.args.cores.now; works = c.args.works.now; granularity = c.args.granularity } in
    let done : c.args.r.0 * c.args.granularity + c.args.granularity ≤ c.args.r.0 * c.args.granularity + c.loop-i.i = omega arith in
    all_armed (c.args.r.0 + 1) (c.args.r.0 * c.args.granularity + c.loop-i.i) (c.args.r.0 * c.args.granularity + c.args.granularity) seen c.loop-i.dues done c.loop-i.invariant
