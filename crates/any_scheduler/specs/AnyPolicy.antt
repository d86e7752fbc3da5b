-- What callers see of one of the four schedulers.
use Rattle.sched_ops.specs.Seen.{Seen}
use Rattle.any_scheduler.specs.declared.any.AnyPolicy.{AnyPolicy}
use Rattle.any_scheduler.specs.declared.any.AnyPolicy.TheVariants as any

-- what they see of the one that it is
abbrev pub seen_of : AnyPolicy → Seen
seen_of (any.Credit2 seen) = seen
seen_of (any.Rtds seen) = seen
seen_of (any.Arinc seen) = seen
seen_of (any.Null seen) = seen
