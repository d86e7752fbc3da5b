use Rattle.std.proofs.Common.{◌∙◌, List, ap, subst}
use Rattle.std.specs.Prelude.{Option}
use Rattle.sched_base.specs.declared.Cores.{Cores}
use Rattle.sched_base.specs.declared.UnitId.{UnitId}
use Rattle.sched_model.specs.declared.state.Resource.{Resource}
use Rattle.sched_model.specs.declared.state.Scheduler.{Scheduler}
use Rattle.sched_model.specs.Places.{at_place}
use Rattle.sched_model.specs.Pool.{cores_from}
use Rattle.sched_ops.specs.Seen.{scheduler_without_unit}
use Rattle.sched_ops.specs.WantedCores.{is_core_wanted}
use Rattle.pool_core.specs.CoreLooks.{IsNoneWanted, scheduler_but}
use Rattle.pool_core.proofs.settling.wanted.Goals as goal

pub wanted_for-requires-clause-before : goal.wanted_for-requires-clause-before
wanted_for-requires-clause-before g c = λ r.
    let s : Scheduler = (g.P.Policy.seen c.args.policy.now).scheduler in
    let cores : List (Option Resource) = c.args.cores.now.resources in
    let none : IsNoneWanted c.args.t.0 (scheduler_without_unit c.in-Some.u s) cores = subst (λ (came : Option UnitId). IsNoneWanted c.args.t.0 (scheduler_but came s) cores) c.in-Some.is (c.requires.settled c.if-not-settled.false) in
    ap (λ (home : Cores). is_core_wanted c.args.t.0 home.0 (scheduler_without_unit c.in-Some.u s) r (at_place c.cores-in-Some.result.now r)) c.home-in-Some.ensures
    ∙ ap (λ (there : List (Option Resource)). is_core_wanted c.args.t.0 (cores_from 0 cores) (scheduler_without_unit c.in-Some.u s) r (at_place there r)) c.cores-in-Some.ensures
    ∙ none r
