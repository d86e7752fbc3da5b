use Rattle.std.proofs.Common.{◌∙◌, List, ap}
use Rattle.std.specs.Prelude.{Option}
use Rattle.sched_model.specs.declared.state.Resource.{Resource}
use Rattle.sched_model.specs.Pool.{pending_core}
use Rattle.core_state.specs.Seen.{changed_core}
use Rattle.pool_core.proofs.Marking.{all_marked, least_marked, none_marked, still_within}
use Rattle.pool_core.proofs.settling.set_all_pending.Goals as goal

pub loop-r-init : goal.loop-r-init
loop-r-init c = record {
  cores = ap (λ (cores : List (Option Resource)). record c.args.cores.now { resources = cores }) (none_marked c.args.set.0 c.args.cores.now.resources);
  within = λ i there. there;
}

pub loop-r-preserved : goal.loop-r-preserved
loop-r-preserved c = record {
  cores =
      c.set_pending.ensures
      ∙ ap (changed_core c.in-Some.r pending_core) c.loop-r.invariant.cores
      ∙ ap (λ (cores : List (Option Resource)). record c.args.cores.now { resources = cores })
      (least_marked c.args.set.0 c.loop-r.rest c.without-rest.result c.in-Some.r c.args.cores.now.resources c.in-Some.ensures.lowest c.without-rest.ensures.change c.loop-r.invariant.within);
  within = still_within c.args.set.0 c.loop-r.rest c.without-rest.result c.in-Some.r c.without-rest.ensures.change c.loop-r.invariant.within;
}

pub returns : goal.returns
returns c =
    c.loop-r.invariant.cores
    ∙ ap (λ (cores : List (Option Resource)). record c.args.cores.now { resources = cores }) (all_marked c.args.set.0 c.loop-r.rest c.args.cores.now.resources c.in_default.ensures.none)
