use Rattle.sched_base.specs.Numbers.{processor}
use Rattle.std.proofs.Common.{arith}
use Rattle.std.specs.Prelude.{Some, None}
use Rattle.sched_model.specs.declared.action.Action.TheVariants.{Block, Slice, Wake}
use Rattle.sched_model.specs.declared.state.Pool.{Pool}
use Rattle.core_state.specs.Ends.{ready_among}
use Rattle.pool_core.specs.Seen.{pool_of}
use Rattle.pool_core.proofs.Order.{block_is, blocks, first_wake, joined, no_wake, slices, widened}
use Rattle.pool_core.proofs.due.first_due.Goals as goal
use Rattle.pool_core.specs.Order.{is_any}

pub returns-in-Some : goal.returns-in-Some
returns-in-Some g c =
    let pool : Pool = pool_of c.args.guests.now c.args.cores.now (g.P.Policy.seen c.args.policy.now) in
    widened is_any c.args.guests.now.granularity c.args.t.0 pool 4 5 9 (Wake c.in-Some.v) (omega arith)
    (first_wake c.args.guests.now.granularity c.args.t.0 pool c.in-Some.v c.in-Some.ensures.due c.in-Some.ensures.first)

pub returns-in-Some-first_block : goal.returns-in-Some-first_block
returns-in-Some-first_block g c =
    let pool : Pool = pool_of c.args.guests.now c.args.cores.now (g.P.Policy.seen c.args.policy.now) in
    let are = block_is c.args.guests.now c.args.cores.now (g.P.Policy.seen c.args.policy.now) c.requires.same c.requires.works in
    joined is_any c.args.guests.now.granularity c.args.t.0 pool 4 5 9 (Some (Block c.in-Some-first_block.p)) (omega arith)
    (no_wake c.args.guests.now.granularity c.args.t.0 pool c.in_default.ensures.none)
    (widened is_any c.args.guests.now.granularity c.args.t.0 pool 5 6 9 (Block c.in-Some-first_block.p) (omega arith)
    (blocks c.args.guests.now.granularity c.args.t.0 pool (λ p. ready_among c.args.cores.now (Block (processor p))) (Some c.in-Some-first_block.p.0) are c.in-Some-first_block.ensures))

pub returns-in-Some-first_slice : goal.returns-in-Some-first_slice
returns-in-Some-first_slice g c =
    let pool : Pool = pool_of c.args.guests.now c.args.cores.now (g.P.Policy.seen c.args.policy.now) in
    let are = block_is c.args.guests.now c.args.cores.now (g.P.Policy.seen c.args.policy.now) c.requires.same c.requires.works in
    joined is_any c.args.guests.now.granularity c.args.t.0 pool 4 5 9 (Some (Slice c.in-Some-first_slice.r)) (omega arith)
    (no_wake c.args.guests.now.granularity c.args.t.0 pool c.in_default.ensures.none)
    (joined is_any c.args.guests.now.granularity c.args.t.0 pool 5 6 9 (Some (Slice c.in-Some-first_slice.r)) (omega arith)
    (blocks c.args.guests.now.granularity c.args.t.0 pool (λ p. ready_among c.args.cores.now (Block (processor p))) None are c.in_default-first_block.ensures)
    (widened is_any c.args.guests.now.granularity c.args.t.0 pool 6 7 9 (Slice c.in-Some-first_slice.r) (omega arith)
    (slices c.args.guests.now.granularity c.args.t.0 pool (Some c.in-Some-first_slice.r.0) c.in-Some-first_slice.ensures)))

pub returns : goal.returns
returns g c =
    let pool : Pool = pool_of c.args.guests.now c.args.cores.now (g.P.Policy.seen c.args.policy.now) in
    let are = block_is c.args.guests.now c.args.cores.now (g.P.Policy.seen c.args.policy.now) c.requires.same c.requires.works in
    joined is_any c.args.guests.now.granularity c.args.t.0 pool 4 5 9 c.first_timer.result (omega arith)
    (no_wake c.args.guests.now.granularity c.args.t.0 pool c.in_default.ensures.none)
    (joined is_any c.args.guests.now.granularity c.args.t.0 pool 5 6 9 c.first_timer.result (omega arith)
    (blocks c.args.guests.now.granularity c.args.t.0 pool (λ p. ready_among c.args.cores.now (Block (processor p))) None are c.in_default-first_block.ensures)
    (joined is_any c.args.guests.now.granularity c.args.t.0 pool 6 7 9 c.first_timer.result (omega arith)
    (slices c.args.guests.now.granularity c.args.t.0 pool None c.in_default-first_slice.ensures)
    (c.first_timer.ensures c.args.guests.now.granularity c.args.guests.now c.requires.on)))
