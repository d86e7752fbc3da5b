use Rattle.std.proofs.Common.{◌∙◌, ap, sym}
use Rattle.std.specs.Prelude.{true}
use Rattle.sched_model.specs.declared.state.Resource.{Resource}
use Rattle.sched_model.specs.Places.{first_place}
use Rattle.core_state.specs.Seen.{Seen}
use Rattle.core_state.specs.Ends.{lowest_among}
use Rattle.core_state.proofs.cores.CoreState.lowest_end.Goals as goal

pub lowest_end-requires : goal.lowest_end-requires
lowest_end-requires c = c.self.invariant.0.is_first ∙ ap (first_place 0 (λ (x : Resource). true)) (sym c.as_slice.ensures)

pub returns : goal.returns
returns c = c.lowest_end.ensures ∙ ap lowest_among c.as_slice.ensures ∙ ap (λ (seen : Seen). lowest_among seen.resources) c.self.view_is
