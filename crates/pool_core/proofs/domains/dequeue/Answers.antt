use Rattle.std.proofs.Common.{sym, ◌∙◌}
use Rattle.pool_core.proofs.Withdrawing.{dequeue_absent}
use Rattle.pool_core.proofs.domains.dequeue.Goals as goal

pub returns-else-is_waiting : goal.returns-else-is_waiting
returns-else-is_waiting g c = dequeue_absent c.args.u (g.P.Policy.seen c.args.policy.now) (c.requires.waits ∙ sym c.if-is_waiting.ensures)
