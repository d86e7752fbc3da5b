use Rattle.std.proofs.Common.{subst, sym}
use Rattle.pool_records.specs.Fits.{PoolFits}
use Rattle.sched_model.specs.declared.state.Pool.{Pool}
use Rattle.scheduler_records.specs.Fits.{RecordsFit}
use Rattle.sched_plain.proofs.DomMoving.{without-fits}
use Rattle.sched_plain.proofs.dom_moves.leave.Goals as goal

pub settle-requires-clause-fits : goal.settle-requires-clause-fits
settle-requires-clause-fits c = subst PoolFits (sym c.without_domain-domain.ensures.pool) (without-fits c.args.t.0 c.args.d.0 c.args.pool.now c.requires.fits).fits

pub settle-requires-clause-records : goal.settle-requires-clause-records
settle-requires-clause-records c = subst (λ (pool : Pool). RecordsFit c.args.t.0 pool.scheduler.records) (sym c.without_domain-domain.ensures.pool) (without-fits c.args.t.0 c.args.d.0 c.args.pool.now c.requires.fits).records
