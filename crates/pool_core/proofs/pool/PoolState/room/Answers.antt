use Rattle.std.proofs.Common.{arith, subst, sym}
use Rattle.sched_base.specs.Numbers.{moment}
use Rattle.sched_model.specs.Policy.{standard_pool_params, records_kind}
use Rattle.sched_laws.proofs.SiblingsLaw.{some_processor}
use Rattle.pool_core.specs.PoolState.{IsAtRest}
use Rattle.pool_core.proofs.Coming.{room_kept}
use Rattle.pool_core.proofs.Spared.{unsettled_at}
use Rattle.pool_core.proofs.pool.PoolState.room.Goals as goal

pub invariant_of-result : goal.invariant_of-result
invariant_of-result g c = subst (IsAtRest c.unsettled.result c.in_ok-guests.guests c.in_ok-cores.cores) (sym c.of.ensures) (unsettled_at (moment 0) c.unsettled.ensures (
    room_kept (standard_pool_params (records_kind (g.P.Policy.seen c.args.policy).scheduler.records)) c.args.granularity c.args.places.domains c.args.places.cores c.args.units c.in_ok-guests.guests c.in_ok-cores.cores (g.P.Policy.seen c.reserve.new.self)
    (some_processor c.args.granularity c.requires.granularity) c.in_ok-guests.ensures c.in_ok-cores.ensures c.in_ok-reserve.ensures.scheduler c.in_ok-reserve.ensures.room (let a = c.in_ok-reserve.ensures.latest in let b = c.requires.early in omega (arith, a, b))))
