use Rattle.std.proofs.Common.{◌∙◌}
use Rattle.sched_model.specs.Opening.{free_core_at_opening}
use Rattle.pool_records.proofs.Growing.{numbers_one_more}
use Rattle.plain_opening.proofs.cores.free_cores.Goals as goal

pub loop-r-preserved : goal.loop-r-preserved
loop-r-preserved c = c.in_ok-push.ensures.items ∙ rw (c.loop-r.invariant, c.free_core.ensures) (numbers_one_more (free_core_at_opening c.args.config.now) c.loop-r.r)
