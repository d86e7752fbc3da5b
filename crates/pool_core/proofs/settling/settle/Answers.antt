use Rattle.std.proofs.Common.{◌∙◌, List, ap}
use Rattle.std.specs.Prelude.{Option}
use Rattle.sched_model.specs.declared.state.Resource.{Resource}
use Rattle.sched_model.specs.Pool.{cores_from}
use Rattle.pool_core.proofs.Marking.{wanted_marked}
use Rattle.pool_core.proofs.settling.settle.Goals as goal

pub returns : goal.returns
returns g c =
    c.set_all_pending.ensures
    ∙ ap (λ (there : List (Option Resource)). record c.args.cores.now { resources = there })
    (wanted_marked c.args.t.0 (cores_from 0 c.args.cores.now.resources) (g.P.Policy.seen c.args.policy.now).scheduler c.wanted-set.result.0 c.args.cores.now.resources c.wanted-set.ensures)
