use Rattle.sched_examples.proofs.FreeOrdersRuns.{pause_seen_by_save-run}
use Rattle.sched_examples.proofs.free_orders.pause_seen_by_save.Goals as goal

pub returns : goal.returns
returns c = pause_seen_by_save-run
