use Rattle.std.proofs.Common.{◌∙◌}
use Rattle.pool_records.specs.OpeningCores.{opening_core}
use Rattle.pool_records.proofs.Growing.{numbers_one_more}
use Rattle.plain_opening.proofs.cores.fresh_cores.Goals as goal

pub loop-r-preserved : goal.loop-r-preserved
loop-r-preserved c = c.in_ok-push.ensures.items ∙ rw (c.loop-r.invariant, c.core_of_set.ensures) (numbers_one_more (opening_core c.args.granularity c.args.cores) c.loop-r.r)
