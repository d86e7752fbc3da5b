use Rattle.std.proofs.Common.{◌∙◌, List, ap}
use Rattle.std.specs.Prelude.{Option}
use Rattle.sched_model.specs.declared.state.Resource.{Resource}
use Rattle.core_state.specs.Seen.{Seen, processor_among}
use Rattle.core_state.proofs.cores.CoreState.processor.Goals as goal
use Rattle.sched_laws.proofs.SiblingsLaw.{some_processor}

pub processor_at-requires : goal.processor_at-requires
processor_at-requires c = some_processor c.self.inside.granularity c.self.invariant.0.cores.granularity

pub returns : goal.returns
returns c =
    c.processor_at.ensures
    ∙ ap (λ (xs : List (Option Resource)). processor_among c.self.inside.granularity xs c.args.p.0) c.as_slice.ensures
    ∙ ap (λ (seen : Seen). processor_among seen.granularity seen.resources c.args.p.0) c.self.view_is
