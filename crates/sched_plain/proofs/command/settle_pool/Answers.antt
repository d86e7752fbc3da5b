use Rattle.std.proofs.Common.{refl}
use Rattle.sched_plain.specs.Fits.{PoolFitsAt}
use Rattle.sched_laws.proofs.EachPlace.{place_fits}
use Rattle.sched_plain.proofs.command.settle_pool.Goals as goal
use Rattle.sched_plain.proofs.command.settle_pool.Goals.{In-Some-place}

there : (c : In-Some-place) → PoolFitsAt c.args.t.0 c.in-Some-place.pool
there c = place_fits (PoolFitsAt c.args.t.0) c.args.pools.now c.args.index c.in-Some.place.now c.in-Some-place.pool c.requires.fits (c.in-Some.ensures.some.0 refl) c.in-Some.ensures.value c.in-Some-place.is

pub settle-requires-clause-fits : goal.settle-requires-clause-fits
settle-requires-clause-fits c = (there (goal.at.settle-requires-clause-fits c).In-Some-place).fits

pub settle-requires-clause-records : goal.settle-requires-clause-records
settle-requires-clause-records c = (there (goal.at.settle-requires-clause-records c).In-Some-place).records
