use Rattle.std.proofs.Common.{subst, arith}
use denote.Param.Send.{sendable}
use Rattle.hall.proofs.Crossing.{hall_sync}
use Rattle.machine_trials.specs.TrialSeats.{MayServe}
use Rattle.machine_trials.proofs.numbering.Actors.TheSendSync as actors
use Rattle.machine_trials.proofs.serving.Way.TheSendSync as way
use Rattle.machine_trials.proofs.side_by_side.act_side_by_side.Goals as goal

pub for_each_mut-requires-sync-F : goal.for_each_mut-requires-sync-F
for_each_mut-requires-sync-F g c κs within = let r = c.type_bounds.sync-R in search (sendable, hall_sync, actors.the_sync, way.the_sync) depth 60

pub returns : goal.returns
returns g c k d less =
    let same = c.for_each_mut.auto.s in
    let at = (c.for_each_mut.ensures k d (omega (arith, less, same))).1 in
    subst (MayServe c.args.hall.now c.args.actors) at.left at.call
