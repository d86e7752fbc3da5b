use Rattle.undisturbed_laws.proofs.Runs.{configured_in_runs, pool_as_configured}
use Rattle.undisturbed_laws.proofs.Units.{never_sleeps, only_core, core_there}
use Rattle.sched_laws.specs.StateLaws.{state_after}
use Rattle.undisturbed_laws.proofs.undisturbed.law_undisturbed.Goals as goal

pub returns-clause-states : goal.returns-clause-states
returns-clause-states c m checked calm entries run = configured_in_runs m checked calm entries run

pub returns-clause-runnable : goal.returns-clause-runnable
returns-clause-runnable c m checked calm entries run i pool at u never config home =
    let here = configured_in_runs m checked calm entries run in
    let is = here.others i pool at in
    never_sleeps m checked i is.0 pool (pool_as_configured m (state_after m entries) here i pool at is.0 is.1) u never config home

pub returns-clause-one_core : goal.returns-clause-one_core
returns-clause-one_core c m checked calm entries run i r pool config at is one =
    let stays = pool_as_configured m (state_after m entries) (configured_in_runs m checked calm entries run) i pool at config is in
    let core = core_there m i r config pool stays one in
    record { item = core.0; at = core.1; meets = only_core m i r config pool stays one }
