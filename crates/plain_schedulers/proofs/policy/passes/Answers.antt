use Rattle.std.proofs.Common.{sym, ap, ◌∙◌, List, []}
use Rattle.std.specs.Prelude.{Option}
use Rattle.sched_base.specs.declared.UnitId.{UnitId}
use Rattle.sched_base.specs.declared.Cores.{Cores}
use Rattle.sched_model.specs.declared.state.Records.{Records}
use Rattle.sched_model.specs.declared.state.Records.TheVariants.{NullPool}
use Rattle.sched_model.specs.EligibleUnits.{may_have_core}
use Rattle.scheduler_records.specs.Parts.{scheduler_of}
use Rattle.plain_schedulers.proofs.policy.passes.Goals as goal

pub returns-in-NullPool : goal.returns-in-NullPool
returns-in-NullPool c =
    c.passes-in-NullPool.ensures
    ∙ ap (λ (kept : List (Option UnitId)). may_have_core (NullPool kept) (scheduler_of [] c.as_slice-in-NullPool-2.result.now (NullPool kept)) c.args.home.0 c.args.core.0 0 c.args.u) c.as_slice-in-NullPool.ensures
    ∙ ap (λ (affinity : List (Option (List Cores))). may_have_core (NullPool c.in-NullPool.kept) (scheduler_of [] affinity (NullPool c.in-NullPool.kept)) c.args.home.0 c.args.core.0 0 c.args.u) c.as_slice-in-NullPool-2.ensures
    ∙ ap (λ (records : Records). may_have_core records c.args.scheduler.now c.args.home.0 c.args.core.0 c.args.t.0 c.args.u) (sym c.in-NullPool.is)
