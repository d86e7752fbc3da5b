use Rattle.std.proofs.Common.{length}
use Rattle.scheduler_records.proofs.null.+has_place_from.Given as goal

abbrev pub decreases-has_place_from : goal.decreases-has_place_from
decreases-has_place_from l = length l.places.now
