use Rattle.scheduler_records.proofs.Ranges.{pool_in_range}
use Rattle.credit2_core.proofs.Ranges.{shared_fits, range_later}
use Rattle.credit2_core.proofs.choice.better_than.Goals as goal

pub is_below-requires-clause-fits : goal.is_below-requires-clause-fits
is_below-requires-clause-fits c =
    pool_in_range c.args.t.0 c.args.state.now.records c.requires.now.early (shared_fits c.args.t.0 c.args.state.now.records (range_later c.args.state.now.latest c.args.t.0 c.args.state.now.records c.requires.now.after c.requires.sound.range))
