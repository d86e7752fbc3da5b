use Rattle.std.proofs.Common.{ℕ, subst, arith}
use Rattle.std.specs.Prelude.{Some}
use Rattle.sched_model.specs.declared.state.Pool.{Pool}
use Rattle.pool_core.specs.Order.{IsFirstIn, is_any}
use Rattle.pool_core.specs.Seen.{pool_of}
use Rattle.pool_core.proofs.Order.{joined, of_all, widened}
use Rattle.pool_core.proofs.due.first_enabled.Goals as goal

pub returns-in-None : goal.returns-in-None
returns-in-None g c =
    let pool : Pool = pool_of c.args.guests.now c.args.cores.now (g.P.Policy.seen c.args.policy.now) in
    of_all c.args.guests.now.granularity c.args.t.0 pool c.first_step.result
    (joined is_any c.args.guests.now.granularity c.args.t.0 pool 4 9 13 c.first_step.result (omega arith) c.in-None.ensures
    (subst (λ (k : ℕ). IsFirstIn 9 13 k c.args.t.0 pool c.first_step.result) c.requires.same (c.first_step.ensures c.args.guests.now (g.P.Policy.seen c.args.policy.now))))

pub returns-in-Some : goal.returns-in-Some
returns-in-Some g c =
    let pool : Pool = pool_of c.args.guests.now c.args.cores.now (g.P.Policy.seen c.args.policy.now) in
    of_all c.args.guests.now.granularity c.args.t.0 pool (Some c.in-Some.action) (widened is_any c.args.guests.now.granularity c.args.t.0 pool 4 9 13 c.in-Some.action (omega arith) c.in-Some.ensures)
