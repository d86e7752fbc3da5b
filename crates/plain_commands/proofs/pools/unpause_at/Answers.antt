use Rattle.std.proofs.Common.{refl}
use Rattle.sched_model.specs.Pool.{unpaused_pool}
use Rattle.pool_records.specs.Fits.{PoolFits}
use Rattle.plain_opening.specs.OpeningPool.{FewWait}
use Rattle.plain_commands.proofs.Items.{changed-item}
use Rattle.sched_laws.proofs.EachPlace.{place_fits}
use Rattle.plain_commands.proofs.pools.unpause_at.Goals as goal

pub unpause-requires-clause-fits : goal.unpause-requires-clause-fits
unpause-requires-clause-fits c = place_fits PoolFits c.args.pools.now c.args.index c.in-Some.place.now c.in-Some-place.pool c.requires.fits (c.in-Some.ensures.some.0 refl) c.in-Some.ensures.value c.in-Some-place.is

pub unpause-requires-clause-room : goal.unpause-requires-clause-room
unpause-requires-clause-room c =
    changed-item FewWait (unpaused_pool c.args.granularity c.args.d.0) c.args.pools.now c.args.index c.in-Some.place.now c.in-Some-place.pool c.requires.room (c.in-Some.ensures.some.0 refl) c.in-Some.ensures.value c.in-Some-place.is
