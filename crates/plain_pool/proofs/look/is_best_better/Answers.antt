use Rattle.scheduler_records.proofs.Ranges.{pool_in_range}
use Rattle.plain_pool.proofs.look.is_best_better.Goals as goal

pub burned_credit_by-requires-clause-fits : goal.burned_credit_by-requires-clause-fits
burned_credit_by-requires-clause-fits c = pool_in_range c.args.t.0 c.in-Credit2Pool.records c.requires.early (rw c.in-Credit2Pool.is at c.requires.records)
