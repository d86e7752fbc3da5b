use Rattle.std.proofs.Common.{refl}
use Rattle.plain_commands.specs.PlanEffects.{FitsAt}
use Rattle.sched_laws.proofs.EachPlace.{place_fits}
use Rattle.plain_commands.proofs.pools.set_params_at.Goals as goal

pub set_params-requires-clause-records : goal.set_params-requires-clause-records
set_params-requires-clause-records c = (place_fits (FitsAt c.args.t.0) c.args.pools.now c.args.index c.in-Some.place.now c.in-Some-place.pool c.requires.fits (c.in-Some.ensures.some.0 refl) c.in-Some.ensures.value c.in-Some-place.is).records
