use Rattle.std.proofs.Common.{◌∙◌}
use Rattle.machine_opening.proofs.Attaching.{came_next, place_empty, place_left, still_so_far}
use Rattle.machine_opening.proofs.cores.attach_all.Goals as goal

pub attach-requires-clause-still : goal.attach-requires-clause-still
attach-requires-clause-still g c = still_so_far c.args.granularity c.args.cores c.loop-r.r c.args.count c.args.pool.now c.loop-r.pool c.loop-r.invariant c.requires.used c.requires.early

pub attach-requires-clause-place : goal.attach-requires-clause-place
attach-requires-clause-place g c = place_left c.args.granularity c.args.cores c.loop-r.r c.args.count c.args.pool.now c.loop-r.pool c.loop-r.invariant c.loop-r-test.true

pub attach-requires-clause-absent : goal.attach-requires-clause-absent
attach-requires-clause-absent g c = place_empty c.args.granularity c.args.cores c.loop-r.r c.args.count c.args.pool.now c.loop-r.pool c.loop-r.invariant c.loop-r-test.true

pub loop-r-preserved : goal.loop-r-preserved
loop-r-preserved g c = c.attach.ensures ∙ came_next c.args.granularity c.args.cores c.loop-r.r c.args.count c.args.pool.now c.loop-r.pool c.loop-r.invariant c.loop-r-test.true
