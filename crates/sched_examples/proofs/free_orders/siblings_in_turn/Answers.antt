use Rattle.sched_examples.proofs.FreeOrdersRuns.{siblings_in_turn-run}
use Rattle.sched_examples.proofs.free_orders.siblings_in_turn.Goals as goal

pub returns : goal.returns
returns c = siblings_in_turn-run
