use Rattle.std.proofs.Common.{refl}
use Rattle.sched_model.specs.Machine.{joined_by}
use Rattle.sched_plain.specs.Fits.{PoolFitsAt}
use Rattle.plain_commands.proofs.Items.{changed-item}
use Rattle.sched_laws.proofs.EachPlace.{place_fits}
use Rattle.sched_plain.proofs.dom_moves.join_at.Goals as goal

pub join-requires-clause-before : goal.join-requires-clause-before
join-requires-clause-before c = place_fits (PoolFitsAt c.args.t.0) c.args.pools.now c.args.index c.in-Some.place.now c.in-Some-place.pool c.requires.before (c.in-Some.ensures.some.0 refl) c.in-Some.ensures.value c.in-Some-place.is

pub join-requires-clause-after : goal.join-requires-clause-after
join-requires-clause-after c =
    changed-item (PoolFitsAt c.args.t.0) (joined_by c.args.granularity c.args.t.0 c.args.d.0 c.args.joining) c.args.pools.now c.args.index c.in-Some.place.now c.in-Some-place.pool c.requires.after (c.in-Some.ensures.some.0 refl) c.in-Some.ensures.value c.in-Some-place.is
