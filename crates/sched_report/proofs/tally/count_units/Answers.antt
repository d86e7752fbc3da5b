use Rattle.sched_report.proofs.Bounds.{within-found}
use Rattle.sched_report.proofs.tally.count_units.Goals as goal

pub count_picked-requires-clause-within : goal.count_picked-requires-clause-within
count_picked-requires-clause-within c =
    rw c.count_found.ensures (within-found 4294967294 4294967294 4294967294 c.args.core.now c.args.choice.now c.args.units.now c.requires.short c.requires.within)
