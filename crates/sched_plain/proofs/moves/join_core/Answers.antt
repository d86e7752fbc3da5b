use Rattle.std.proofs.Common.{subst, sym}
use Rattle.sched_model.specs.Opening.{joined_core}
use Rattle.sched_model.specs.Places.{put_at}
use Rattle.sched_laws.proofs.EachPlace.{length_set}
use Rattle.std.specs.Prelude.{Some}
use Rattle.pool_records.specs.Fits.{PoolFits}
use Rattle.sched_plain.proofs.Moving.{resources-fit}
use Rattle.sched_plain.proofs.moves.join_core.Goals as goal

pub settle-requires-clause-fits : goal.settle-requires-clause-fits
settle-requires-clause-fits c =
    subst PoolFits (sym c.put_core.ensures)
    (resources-fit c.args.t.0 c.args.pool.now (put_at c.args.r.0 (joined_core c.args.stall_ends.now) c.args.pool.now.resources) (length_set c.args.r.0 (Some (joined_core c.args.stall_ends.now)) c.args.pool.now.resources) c.requires.fits).fits
