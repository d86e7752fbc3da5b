-- Which pools may go to another thread, and what the tool keeps.
use denote.RattleType.{RattleType}
use denote.Param.Send.{IsSend, AllSend, sendable, recorded_send, struct_send, view_send}
use denote.Struct.Declared.{shape}
use Rattle.std.proofs.Crossing.{crosses}
use Rattle.sched_model.proofs.work.CommandLine.TheSendSync as command
use Rattle.sched_ops.specs.declared.policy.Policy.{Ghosts}
use Rattle.unit_ring.proofs.Crossing.{ring_send}
use Rattle.any_scheduler.specs.contracts.any.AnyPolicy.{the_row as any_row}
use Rattle.any_scheduler.specs.contracts.any.AnyPolicyPolicy.TheImpl.{ghosts}
use Rattle.cpupool.specs.contracts.tool.ToolState.{the_row as tool_row}
use Rattle.pool_core.specs.contracts.pool.PoolState.{the_row as pool_row}
use Rattle.pool_core.specs.contracts.pool.PoolState.TheInside as inside
use Rattle.pool_core.specs.contracts.timed.Timed.{the_row as timed_row}
use Rattle.pool_core.specs.contracts.timed.Timed.TheInside as timed

-- a scheduler with its next timer may, where the scheduler may
timed_with_send : (P : RattleType) (g : Ghosts P.Denot) → IsSend P → IsSend (timed_row P g)
timed_with_send P g s =
    let fields : AllSend (shape (timed.the_type P g)).fields = (search (s, sendable) depth 20, (search (sendable, crosses) depth 200 fits 100000, tt)) in
    view_send _ _ _ _ _ (recorded_send (timed.the_field P g).row _ _ (timed.the_type P g).to_one (struct_send (shape (timed.the_type P g)) fields))

-- a pool may, where its scheduler may
pub pool_with_send : (P : RattleType) (g : Ghosts P.Denot) → IsSend P → IsSend (pool_row P g)
pool_with_send P g s =
    let fields : AllSend (shape (inside.the_type P g)).fields = (search (sendable, crosses) depth 200 fits 100000, (search (sendable, crosses) depth 200 fits 100000, (timed_with_send P g s, (search sendable depth 40, (search sendable depth 20, (search (sendable, crosses) depth 200 fits 100000, tt)))))) in
    view_send _ _ _ _ _ (recorded_send (inside.the_field P g).row _ _ (inside.the_type P g).to_one (struct_send (shape (inside.the_type P g)) fields))

-- each of the four schedulers may
pub any_send : IsSend any_row
any_send = search (sendable, crosses, ring_send) depth 400 fits 1000000

-- a pool of any of them may
pub pool_send : IsSend (pool_row any_row ghosts)
pool_send = pool_with_send any_row ghosts any_send

-- what the tool keeps may
pub tool_send : IsSend tool_row
tool_send = search (sendable, crosses, command.the_send) depth 200 fits 100000
