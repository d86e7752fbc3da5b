use Rattle.std.proofs.Common.{◌+◌, ◌*◌, ◌≤◌, ◌≡◌, ◌∙◌, ℕ, List, ap, subst, arith}
use Rattle.std.specs.Prelude.{Option, slice_set}
use Rattle.sched_base.specs.declared.Moment.{Moment}
use Rattle.sched_model.specs.declared.state.Processor.{Processor}
use Rattle.sched_model.specs.Pool.{is_held_back}
use Rattle.core_state.specs.Seen.{core_sibling}
use Rattle.std.specs.Option.{option_copied}
use Rattle.sched_model.specs.declared.state.Resource.{Resource}
use Rattle.sched_model.specs.Places.{at_place}
use Rattle.core_state.specs.Ends.{leaving_among, may_core_part, sibling_end}
use Rattle.core_state.specs.CoreState.{AgreesBut}
use Rattle.core_state.proofs.Arming.{all, leaving_armed}
use Rattle.core_state.proofs.dues.rearm_leavings.Goals as goal

pub loop-i-init : goal.loop-i-init
loop-i-init c = subst (λ (k : ℕ). AgreesBut k (c.args.r.0 * c.args.granularity + c.args.granularity) c.args.leaves.now (leaving_among c.args.granularity c.args.cores.now)) (omega arith) c.requires.others

pub loop-i-preserved : goal.loop-i-preserved
loop-i-preserved c =
    let core_is : option_copied c.item_at-core.result ≡ at_place c.args.cores.now c.args.r.0 =
    c.item_at-core.ensures ∙ ap (λ (cores : List (Option Resource)). at_place cores c.args.r.0) c.as_slice.ensures in
    let end_is : c.leave_end.result ≡ sibling_end may_core_part is_held_back (option_copied c.item_at-core.result) (core_sibling (option_copied c.item_at-core.result) c.loop-i.i) =
    c.leave_end.ensures ∙ ap (λ (q : Option Processor). sibling_end may_core_part is_held_back (option_copied c.item_at-core.result) q) c.sibling_of.ensures in
    rw (c.set_due.ensures ∙ ap (λ (at : Option Moment). slice_set c.loop-i.leaves (c.args.r.0 * c.args.granularity + c.loop-i.i) at) end_is)
    (leaving_armed c.args.granularity c.args.r.0 c.loop-i.i (c.args.r.0 * c.args.granularity + c.args.granularity) c.args.cores.now c.loop-i.leaves (option_copied c.item_at-core.result) c.requires.granularity c.requires.places c.loop-i-test.true core_is c.loop-i.invariant)

pub returns : goal.returns
returns c =
    let done : c.args.r.0 * c.args.granularity + c.args.granularity ≤ c.args.r.0 * c.args.granularity + c.loop-i.i = omega arith in
    all (c.args.r.0 * c.args.granularity + c.loop-i.i) (c.args.r.0 * c.args.granularity + c.args.granularity) c.loop-i.leaves (leaving_among c.args.granularity c.args.cores.now) done c.loop-i.invariant
