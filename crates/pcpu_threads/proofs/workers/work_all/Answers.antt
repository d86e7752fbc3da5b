use denote.Param.Send.{sendable}
use Rattle.std.proofs.Common.{get_or, length}
use Rattle.hall.proofs.Crossing.{hall_sync}
use Rattle.pcpu_threads.proofs.Counting.{one-each-worked, shares-worked, worked-is}
use Rattle.pcpu_threads.proofs.workers.work_all.Goals as goal

pub for_each_mut-requires-sync-F : goal.for_each_mut-requires-sync-F
for_each_mut-requires-sync-F g c κs within = let r = c.type_bounds.sync-R in let q = c.type_bounds.sync-G in search (sendable, hall_sync) depth 60

pub returns-clause-each : goal.returns-clause-each
returns-clause-each g c = λ p d low.
    let k = (c.for_each_mut.ensures p d low).1 in
    worked-is c.args.hall.now (length c.args.workers.now) c.args.domains p k.argument.now k.after_call.now (get_or c.args.workers.now p d) (get_or c.for_each_mut.new.s p d) k.argument_is k.left k.call

pub returns-clause-workers : goal.returns-clause-workers
returns-clause-workers g c =
    one-each-worked c.args.hall.now c.args.domains c.args.workers.now c.for_each_mut.new.s c.for_each_mut.auto.s (returns-clause-each g c) c.requires.workers

pub returns-clause-shares : goal.returns-clause-shares
returns-clause-shares g c =
    shares-worked c.args.hall.now c.args.domains c.args.workers.now c.for_each_mut.new.s c.for_each_mut.auto.s (returns-clause-each g c)
