use Rattle.std.proofs.Common.{refl}
use Rattle.sched_plain.specs.Fits.{PoolFitsAt}
use Rattle.sched_laws.proofs.EachPlace.{place_fits}
use Rattle.sched_plain.proofs.moves.join_core_at.Goals as goal

pub join_core-requires-clause-fits : goal.join_core-requires-clause-fits
join_core-requires-clause-fits c = place_fits (PoolFitsAt c.args.t.0) c.args.pools.now c.args.index c.in-Some.place.now c.in-Some-place.pool c.requires.fits (c.in-Some.ensures.some.0 refl) c.in-Some.ensures.value c.in-Some-place.is
