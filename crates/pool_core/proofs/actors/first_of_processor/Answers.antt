use Rattle.std.proofs.Common.{ℕ, subst, arith}
use Rattle.std.specs.Prelude.{Some}
use Rattle.sched_model.specs.declared.action.Actor.TheVariants.{Proc}
use Rattle.sched_model.specs.declared.state.Pool.{Pool}
use Rattle.pool_core.specs.Order.{IsFirstByIn}
use Rattle.pool_laws.specs.Actors.{is_by}
use Rattle.pool_core.specs.Seen.{pool_of}
use Rattle.pool_core.proofs.ByActor.{of_all}
use Rattle.pool_core.proofs.actors.first_of_processor.Goals as goal
use Rattle.pool_core.proofs.Order.{joined, widened}

pub returns-in-Some : goal.returns-in-Some
returns-in-Some g c =
    let pool : Pool = pool_of c.args.guests.now c.args.cores.now (g.P.Policy.seen c.args.policy.now) in
    of_all c.args.guests.now.granularity c.args.t.0 pool (Proc c.args.p) (Some c.in-Some.action)
    (widened (is_by c.args.guests.now.granularity pool (Proc c.args.p)) c.args.guests.now.granularity c.args.t.0 pool 4 9 13 c.in-Some.action (omega arith) c.in-Some.ensures)

pub returns-in-None : goal.returns-in-None
returns-in-None g c =
    let pool : Pool = pool_of c.args.guests.now c.args.cores.now (g.P.Policy.seen c.args.policy.now) in
    of_all c.args.guests.now.granularity c.args.t.0 pool (Proc c.args.p) c.leader_step.result
    (joined (is_by c.args.guests.now.granularity pool (Proc c.args.p)) c.args.guests.now.granularity c.args.t.0 pool 4 9 13 c.leader_step.result (omega arith) c.in-None.ensures
    (subst (λ (k : ℕ). IsFirstByIn 9 13 k c.args.t.0 pool (Proc c.args.p) c.leader_step.result) c.requires.same (c.leader_step.ensures c.args.guests.now (g.P.Policy.seen c.args.policy.now))))

pub returns-then-p-g-ne0 : goal.returns-then-p-g-ne0
returns-then-p-g-ne0 g c = c.first_of_sibling.ensures (g.P.Policy.seen c.args.policy.now)
