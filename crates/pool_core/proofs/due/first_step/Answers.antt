use Rattle.std.proofs.Common.{arith}
use Rattle.std.specs.Prelude.{Some, None}
use Rattle.sched_model.specs.declared.action.Action.TheVariants.{Arrive, Decide, Leave, Save}
use Rattle.sched_model.specs.declared.state.Pool.{Pool}
use Rattle.pool_core.specs.Seen.{pool_of}
use Rattle.pool_core.proofs.Order.{arrives, decides, joined, leaves, saves, widened}
use Rattle.pool_core.proofs.due.first_step.Goals as goal
use Rattle.pool_core.specs.Order.{is_any}

pub returns-in-Some : goal.returns-in-Some
returns-in-Some c guests s =
    let pool : Pool = pool_of guests c.args.cores.now s in
    widened is_any c.args.cores.now.granularity c.args.t.0 pool 9 10 13 (Arrive c.in-Some.p) (omega arith)
    (arrives c.args.cores.now.granularity c.args.t.0 pool (Some c.in-Some.p.0) c.in-Some.ensures)

pub returns-in-Some-first_decide : goal.returns-in-Some-first_decide
returns-in-Some-first_decide c guests s =
    let pool : Pool = pool_of guests c.args.cores.now s in
    joined is_any c.args.cores.now.granularity c.args.t.0 pool 9 10 13 (Some (Decide c.in-Some-first_decide.r)) (omega arith)
    (arrives c.args.cores.now.granularity c.args.t.0 pool None c.in_default.ensures)
    (widened is_any c.args.cores.now.granularity c.args.t.0 pool 10 11 13 (Decide c.in-Some-first_decide.r) (omega arith)
    (decides c.args.cores.now.granularity c.args.t.0 pool (Some c.in-Some-first_decide.r.0) c.in-Some-first_decide.ensures))

pub returns-in-Some-first_leave : goal.returns-in-Some-first_leave
returns-in-Some-first_leave c guests s =
    let pool : Pool = pool_of guests c.args.cores.now s in
    joined is_any c.args.cores.now.granularity c.args.t.0 pool 9 10 13 (Some (Leave c.in-Some-first_leave.p)) (omega arith)
    (arrives c.args.cores.now.granularity c.args.t.0 pool None c.in_default.ensures)
    (joined is_any c.args.cores.now.granularity c.args.t.0 pool 10 11 13 (Some (Leave c.in-Some-first_leave.p)) (omega arith)
    (decides c.args.cores.now.granularity c.args.t.0 pool None c.in_default-first_decide.ensures)
    (widened is_any c.args.cores.now.granularity c.args.t.0 pool 11 12 13 (Leave c.in-Some-first_leave.p) (omega arith)
    (leaves c.args.cores.now.granularity c.args.t.0 pool (Some c.in-Some-first_leave.p.0) c.in-Some-first_leave.ensures)))

pub returns : goal.returns
returns c guests s =
    let pool : Pool = pool_of guests c.args.cores.now s in
    joined is_any c.args.cores.now.granularity c.args.t.0 pool 9 10 13 None (omega arith)
    (arrives c.args.cores.now.granularity c.args.t.0 pool None c.in_default.ensures)
    (joined is_any c.args.cores.now.granularity c.args.t.0 pool 10 11 13 None (omega arith)
    (decides c.args.cores.now.granularity c.args.t.0 pool None c.in_default-first_decide.ensures)
    (joined is_any c.args.cores.now.granularity c.args.t.0 pool 11 12 13 None (omega arith)
    (leaves c.args.cores.now.granularity c.args.t.0 pool None c.in_default-first_leave.ensures)
    (saves c.args.cores.now.granularity c.args.t.0 pool None c.in_default-first_save.ensures)))

pub returns-in-Some-first_save : goal.returns-in-Some-first_save
returns-in-Some-first_save c guests s =
    let pool : Pool = pool_of guests c.args.cores.now s in
    joined is_any c.args.cores.now.granularity c.args.t.0 pool 9 10 13 (Some (Save c.in-Some-first_save.r)) (omega arith)
    (arrives c.args.cores.now.granularity c.args.t.0 pool None c.in_default.ensures)
    (joined is_any c.args.cores.now.granularity c.args.t.0 pool 10 11 13 (Some (Save c.in-Some-first_save.r)) (omega arith)
    (decides c.args.cores.now.granularity c.args.t.0 pool None c.in_default-first_decide.ensures)
    (joined is_any c.args.cores.now.granularity c.args.t.0 pool 11 12 13 (Some (Save c.in-Some-first_save.r)) (omega arith)
    (leaves c.args.cores.now.granularity c.args.t.0 pool None c.in_default-first_leave.ensures)
    (saves c.args.cores.now.granularity c.args.t.0 pool (Some c.in-Some-first_save.r.0) c.in-Some-first_save.ensures)))
