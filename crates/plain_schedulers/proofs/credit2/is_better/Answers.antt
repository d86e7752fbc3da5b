use Rattle.scheduler_records.proofs.Ranges.{pool_in_range}
use Rattle.plain_schedulers.proofs.credit2.is_better.Goals as goal

pub burned_credit_of-requires-clause-fits : goal.burned_credit_of-requires-clause-fits
burned_credit_of-requires-clause-fits c = pool_in_range c.args.t.0 c.args.records.now c.requires.early c.requires.fits
