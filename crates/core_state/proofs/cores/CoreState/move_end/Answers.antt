use Rattle.sched_base.specs.Numbers.{core as core_number}
use Rattle.std.proofs.Common.{◌∙◌, List, ap}
use Rattle.std.specs.Prelude.{Option}
use Rattle.sched_model.specs.declared.action.Action.TheVariants.{Moved}
use Rattle.sched_model.specs.declared.state.Resource.{Resource}
use Rattle.sched_model.specs.Places.{at_place}
use Rattle.pool_laws.specs.ReadyMoments.{end_where, may_core_move}
use Rattle.core_state.specs.Seen.{Seen}
use Rattle.core_state.specs.Ends.{ready_among}
use Rattle.core_state.proofs.cores.CoreState.move_end.Goals as goal

pub returns : goal.returns
returns c =
    c.move_end.ensures ∙ ap (λ (core : Option Resource). end_where may_core_move core) (c.item_at.ensures ∙ ap (λ (xs : List (Option Resource)). at_place xs c.args.r.0) c.as_slice.ensures) ∙ ap (λ (seen : Seen). ready_among seen (Moved (core_number c.args.r.0))) c.self.view_is
