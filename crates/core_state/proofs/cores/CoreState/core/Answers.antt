use Rattle.std.proofs.Common.{◌∙◌, List, ap}
use Rattle.std.specs.Prelude.{Option}
use Rattle.sched_model.specs.declared.state.Resource.{Resource}
use Rattle.sched_model.specs.Places.{at_place}
use Rattle.core_state.specs.Seen.{Seen}
use Rattle.core_state.proofs.cores.CoreState.core.Goals as goal

pub returns : goal.returns
returns c = c.item_at.ensures ∙ ap (λ (xs : List (Option Resource)). at_place xs c.args.r.0) c.as_slice.ensures ∙ ap (λ (seen : Seen). at_place seen.resources c.args.r.0) c.self.view_is
