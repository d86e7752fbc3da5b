use Rattle.std.proofs.Common.{refl}
use Rattle.sched_plain.specs.Fits.{PoolFitsAt}
use Rattle.sched_laws.proofs.EachPlace.{place_fits}
use Rattle.sched_plain.proofs.dom_moves.leave_at.Goals as goal

pub leave-requires-clause-fits : goal.leave-requires-clause-fits
leave-requires-clause-fits c = place_fits (PoolFitsAt c.args.t.0) c.args.pools.now c.args.index c.in-Some.place.now c.in-Some-place.pool c.requires.fits (c.in-Some.ensures.some.0 refl) c.in-Some.ensures.value c.in-Some-place.is
