use Rattle.std.proofs.Common.{◌≤◌, arith}
use Rattle.sched_null.proofs.Keeping.{kept_fresh}
use Rattle.sched_null.proofs.kept.Kept.room.Goals as goal

pub invariant_of-result : goal.invariant_of-result
invariant_of-result c =
    let few : c.from.result ≤ 64 = omega arith in
    rw (c.in_ok-places.ensures, c.in_ok-lasts.ensures) (kept_fresh c.from.result few)
