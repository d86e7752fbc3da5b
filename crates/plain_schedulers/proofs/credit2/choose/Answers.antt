use Rattle.std.proofs.Common.{sym, subst}
use Rattle.scheduler_records.specs.Bounds.{PoolFits}
use Rattle.scheduler_records.proofs.Steps.{burn_cur_fits}
use Rattle.plain_schedulers.proofs.credit2.choose.Goals as goal

pub run_unit-requires-clause-fits : goal.run_unit-requires-clause-fits
run_unit-requires-clause-fits c =
    subst (PoolFits c.args.ask.now.at.0) (sym c.burn_cur.ensures) (burn_cur_fits c.args.ask.now.cur c.args.ask.now.at.0 c.args.records.now c.requires.early c.requires.fits)
