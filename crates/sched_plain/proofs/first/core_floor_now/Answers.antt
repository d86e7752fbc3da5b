use Rattle.std.proofs.Common.{◌∙◌, sym, ap, arith}
use Rattle.std.specs.Option.{option_copied}
use Rattle.sched_plain.proofs.Bridges.{stands-machine, stands-pool, stands-state}
use Rattle.sched_plain.proofs.FirstLaw.{core_empty, core_homeless, core_judged, core_nowhere, core_waits}
use Rattle.sched_plain.proofs.SeenLaw.{core_not_yet}
use Rattle.sched_plain.proofs.first.core_floor_now.Goals as goal

pub returns-then-state-waits-clause-floor : goal.returns-then-state-waits-clause-floor
returns-then-state-waits-clause-floor c = core_not_yet c.args.machine.now.config.granularity c.args.state.now.now c.args.r c.args.state.now.pools c.args.waits.now c.requires.waits (omega arith)

pub home_of_core-requires : goal.home_of_core-requires
home_of_core-requires c = (stands-state c.args.machine.now c.args.state.now c.requires.stands).few_pools

pub judge_core-requires-clause-some : goal.judge_core-requires-clause-some
judge_core-requires-clause-some c = (stands-machine c.args.machine.now c.args.state.now c.requires.stands).some_processor

pub judge_core-requires-clause-fits : goal.judge_core-requires-clause-fits
judge_core-requires-clause-fits c = (stands-pool c.args.machine.now c.args.state.now c.requires.stands c.in-Some.i c.in-Some-pool_at.pool.now (sym c.pool_at.ensures ∙ ap option_copied c.in-Some-pool_at.is)).fits

pub returns-in-None-clause-waits : goal.returns-in-None-clause-waits
returns-in-None-clause-waits c = core_homeless c.args.machine.now c.args.state.now c.requires.stands c.args.r 18446744073709551615 c.args.waits.now (sym c.home_of_core.ensures ∙ c.in-None.is) c.requires.waits

pub returns-in-None-clause-floor : goal.returns-in-None-clause-floor
returns-in-None-clause-floor c = core_nowhere c.args.machine.now c.args.state.now c.requires.stands c.args.r 13 (sym c.home_of_core.ensures ∙ c.in-None.is)

pub returns-in-None-pool_at-clause-floor : goal.returns-in-None-pool_at-clause-floor
returns-in-None-pool_at-clause-floor c = core_empty c.args.machine.now c.args.state.now c.requires.stands c.args.r c.in-Some.i 13 (sym c.home_of_core.ensures ∙ c.in-Some.is) (sym c.pool_at.ensures ∙ ap option_copied c.in-None-pool_at.is)

pub returns-in-Some-pool_at-clause-waits : goal.returns-in-Some-pool_at-clause-waits
returns-in-Some-pool_at-clause-waits c =
    core_waits c.args.machine.now c.args.state.now c.requires.stands c.args.r c.in-Some.i c.in-Some-pool_at.pool.now c.args.waits.now c.judge_core.new.waits (sym c.home_of_core.ensures ∙ c.in-Some.is) (sym c.pool_at.ensures ∙ ap option_copied c.in-Some-pool_at.is)
    c.judge_core.ensures.waits c.requires.waits

pub returns-in-Some-pool_at-clause-floor : goal.returns-in-Some-pool_at-clause-floor
returns-in-Some-pool_at-clause-floor c =
    core_judged c.args.machine.now c.args.state.now c.requires.stands c.args.r c.in-Some.i c.judge_core.result c.in-Some-pool_at.pool.now (sym c.home_of_core.ensures ∙ c.in-Some.is) (sym c.pool_at.ensures ∙ ap option_copied c.in-Some-pool_at.is) c.judge_core.ensures.floor
