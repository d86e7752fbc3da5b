use Rattle.std.proofs.Common.{◌+◌, ◌*◌}
use Rattle.core_state.specs.CoreState.{AgreesBut}
use Rattle.core_state.specs.Ends.{arrival_among}
use Rattle.core_state.proofs.dues.rearm_arrivals.Given as goal

abbrev pub invariant-loop-i : goal.invariant-loop-i
invariant-loop-i l = AgreesBut (l.r.0 * l.granularity + l.i) (l.r.0 * l.granularity + l.granularity) l.arrives (arrival_among l.granularity l.cores)
