use Rattle.std.proofs.Common.{◌∙◌, ap}
use Rattle.sched_base.specs.Numbers.{core_set}
use Rattle.sched_model.specs.Pool.{cores_from}
use Rattle.core_state.specs.Seen.{Seen}
use Rattle.core_state.proofs.cores.CoreState.home.Goals as goal

pub returns : goal.returns
returns c = ap core_set (c.self.invariant.0.is_home ∙ ap (λ (seen : Seen). cores_from 0 seen.resources) c.self.view_is)
