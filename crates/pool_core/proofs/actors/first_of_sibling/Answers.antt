use Rattle.std.proofs.Common.{◌≢◌, ◌∙◌, ◌%◌, ℕ, sym, ap, subst}
use Rattle.sched_model.specs.declared.action.Action.TheVariants.{Arrive, Leave}
use Rattle.sched_model.specs.declared.state.Pool.{Pool}
use Rattle.sched_model.specs.Pool.{enabled_in}
use Rattle.pool_core.specs.Seen.{pool_of}
use Rattle.pool_core.proofs.ByActor.{sibling_arrives, sibling_blocks, sibling_leaves, sibling_rests}
use Rattle.pool_core.proofs.actors.first_of_sibling.Goals as goal

pub returns-then-may_block : goal.returns-then-may_block
returns-then-may_block c s =
    sibling_blocks c.args.guests.now.granularity c.args.t.0 (pool_of c.args.guests.now c.args.cores.now s) c.args.p (subst (λ (k : ℕ). c.args.p.0 % k ≢ 0) c.requires.same c.requires.number)
    (sym (c.may_block.ensures s) ∙ c.if-may_block.true)

pub returns-then-may_arrive : goal.returns-then-may_arrive
returns-then-may_arrive c s =
    let pool : Pool = pool_of c.args.guests.now c.args.cores.now s in
    let arrive = ap (λ (k : ℕ). enabled_in k c.args.t.0 pool (Arrive c.args.p)) (sym c.requires.same) ∙ sym (c.may_arrive.ensures c.args.guests.now s) in
    sibling_arrives c.args.guests.now.granularity c.args.t.0 pool c.args.p (subst (λ (k : ℕ). c.args.p.0 % k ≢ 0) c.requires.same c.requires.number)
    (sym (c.may_block.ensures s) ∙ c.if-may_block.false) (arrive ∙ c.if-may_arrive.true)

pub returns-then-may_leave : goal.returns-then-may_leave
returns-then-may_leave c s =
    let pool : Pool = pool_of c.args.guests.now c.args.cores.now s in
    let arrive = ap (λ (k : ℕ). enabled_in k c.args.t.0 pool (Arrive c.args.p)) (sym c.requires.same) ∙ sym (c.may_arrive.ensures c.args.guests.now s) in
    let leave = ap (λ (k : ℕ). enabled_in k c.args.t.0 pool (Leave c.args.p)) (sym c.requires.same) ∙ sym (c.may_leave.ensures c.args.guests.now s) in
    sibling_leaves c.args.guests.now.granularity c.args.t.0 pool c.args.p (subst (λ (k : ℕ). c.args.p.0 % k ≢ 0) c.requires.same c.requires.number)
    (sym (c.may_block.ensures s) ∙ c.if-may_block.false) (arrive ∙ c.if-may_arrive.false) (leave ∙ c.if-may_leave.true)

pub returns : goal.returns
returns c s =
    let pool : Pool = pool_of c.args.guests.now c.args.cores.now s in
    let arrive = ap (λ (k : ℕ). enabled_in k c.args.t.0 pool (Arrive c.args.p)) (sym c.requires.same) ∙ sym (c.may_arrive.ensures c.args.guests.now s) in
    let leave = ap (λ (k : ℕ). enabled_in k c.args.t.0 pool (Leave c.args.p)) (sym c.requires.same) ∙ sym (c.may_leave.ensures c.args.guests.now s) in
    sibling_rests c.args.guests.now.granularity c.args.t.0 pool c.args.p (subst (λ (k : ℕ). c.args.p.0 % k ≢ 0) c.requires.same c.requires.number)
    (sym (c.may_block.ensures s) ∙ c.if-may_block.false) (arrive ∙ c.if-may_arrive.false) (leave ∙ c.if-may_leave.false)
