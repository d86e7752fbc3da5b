use Rattle.std.proofs.Common.{subst}
use Rattle.core_state.specs.Seen.{Seen}
use Rattle.core_state.specs.Ends.{ready_within}
use Rattle.core_state.specs.Firsts.{IsLeast}
use Rattle.core_state.proofs.ChangeLemmas.{seen_of}
use Rattle.core_state.proofs.Leasts.{least_within, least_six}
use Rattle.core_state.proofs.cores.CoreState.least.Goals as goal

pub returns : goal.returns
returns c =
    subst (λ (seen : Seen). IsLeast (ready_within seen) c.earlier-3.result) c.self.view_is
    (least_within (seen_of c.self.inside.granularity c.self.inside.cores c.self.inside.works) c.self.inside.dues c.earlier-3.result c.self.invariant.0.armed
    (least_six c.self.inside.dues c.least_of-slices.result c.least_of-decides.result c.least_of-saves.result c.least_of-blocks.result c.least_of-arrives.result c.least_of-leaves.result
    c.earlier.result c.earlier-of_cores.result c.earlier-2.result c.earlier-of_processors.result c.earlier-3.result
    c.least_of-slices.ensures c.least_of-decides.ensures c.least_of-saves.ensures c.least_of-blocks.ensures c.least_of-arrives.ensures c.least_of-leaves.ensures
    c.earlier.ensures c.earlier-of_cores.ensures c.earlier-2.ensures c.earlier-of_processors.ensures c.earlier-3.ensures))
