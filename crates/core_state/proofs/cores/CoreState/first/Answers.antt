use Rattle.std.proofs.Common.{◌∙◌, ap}
use Rattle.std.specs.Prelude.{true}
use Rattle.sched_model.specs.declared.state.Resource.{Resource}
use Rattle.sched_model.specs.Places.{first_place}
use Rattle.core_state.specs.Seen.{Seen}
use Rattle.core_state.proofs.cores.CoreState.first.Goals as goal

pub returns : goal.returns
returns c = c.self.invariant.0.is_first ∙ ap (λ (seen : Seen). first_place 0 (λ (x : Resource). true) seen.resources) c.self.view_is
