use Rattle.std.proofs.Common.{◌<◌, ◌∙◌, ◌*◌, ℕ, sym, ap, subst}
use Rattle.sched_model.specs.declared.action.Actor.TheVariants.{Proc}
use Rattle.sched_model.specs.declared.state.Pool.{Pool}
use Rattle.pool_core.specs.Order.{IsFirstByIn}
use Rattle.sched_laws.proofs.SiblingsLaw.{some_processor}
use Rattle.pool_core.specs.Seen.{pool_of}
use Rattle.pool_core.proofs.ByActor.{block_first, slice_first, timer_first}
use Rattle.pool_core.proofs.actors.leader_due.Goals as goal

pub returns-then-may_block : goal.returns-then-may_block
returns-then-may_block g c =
    let pool : Pool = pool_of c.args.guests.now c.args.cores.now (g.P.Policy.seen c.args.policy.now) in
    block_first c.args.guests.now.granularity c.args.t.0 pool c.args.p (sym (c.may_block.ensures (g.P.Policy.seen c.args.policy.now)) ∙ c.if-may_block.true)

pub returns-then-may_slice : goal.returns-then-may_slice
returns-then-may_slice g c =
    let pool : Pool = pool_of c.args.guests.now c.args.cores.now (g.P.Policy.seen c.args.policy.now) in
    slice_first c.args.guests.now.granularity c.args.t.0 pool c.args.p c.args.r.0
    (subst (λ (k : ℕ). 0 < k) c.requires.same (some_processor c.args.cores.now.granularity c.keeps.ensures.granularity))
    (c.requires.number ∙ ap (λ (k : ℕ). c.args.r.0 * k) c.requires.same)
    (sym (c.may_block.ensures (g.P.Policy.seen c.args.policy.now)) ∙ c.if-may_block.false)
    (sym (c.may_slice.ensures c.args.guests.now.granularity c.args.guests.now (g.P.Policy.seen c.args.policy.now)) ∙ c.if-may_slice.true)

pub returns : goal.returns
returns g c =
    let pool : Pool = pool_of c.args.guests.now c.args.cores.now (g.P.Policy.seen c.args.policy.now) in
    timer_first c.args.guests.now.granularity c.args.t.0 pool c.args.p c.args.r.0
    (subst (λ (k : ℕ). 0 < k) c.requires.same (some_processor c.args.cores.now.granularity c.keeps.ensures.granularity))
    (c.requires.number ∙ ap (λ (k : ℕ). c.args.r.0 * k) c.requires.same) c.timer_by.result
    (sym (c.may_block.ensures (g.P.Policy.seen c.args.policy.now)) ∙ c.if-may_block.false)
    (sym (c.may_slice.ensures c.args.guests.now.granularity c.args.guests.now (g.P.Policy.seen c.args.policy.now)) ∙ c.if-may_slice.false)
    (subst (λ (k : ℕ). IsFirstByIn 7 9 k c.args.t.0 pool (Proc c.args.p) c.timer_by.result) c.requires.same (c.timer_by.ensures c.args.guests.now c.requires.on))
