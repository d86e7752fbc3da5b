use Rattle.std.proofs.Common.{◌∙◌, ap, arith, length}
use Rattle.core_state.specs.Seen.{Seen}
use Rattle.core_state.proofs.Arming.{few_places}
use Rattle.core_state.proofs.cores.CoreState.places.Goals as goal

pub overflow_cast-result : goal.overflow_cast-result
overflow_cast-result c =
    let few = few_places c.self.inside.granularity (length c.self.inside.cores) c.self.invariant.0.cores.granularity c.self.invariant.0.cores.places in
    omega (arith, few, c.len.ensures)

pub returns : goal.returns
returns c = c.len.ensures ∙ ap (λ (seen : Seen). length seen.resources) c.self.view_is
