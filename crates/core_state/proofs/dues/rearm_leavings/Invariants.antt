use Rattle.std.proofs.Common.{◌+◌, ◌*◌}
use Rattle.core_state.specs.CoreState.{AgreesBut}
use Rattle.core_state.specs.Ends.{leaving_among}
use Rattle.core_state.proofs.dues.rearm_leavings.Given as goal

abbrev pub invariant-loop-i : goal.invariant-loop-i
invariant-loop-i l = AgreesBut (l.r.0 * l.granularity + l.i) (l.r.0 * l.granularity + l.granularity) l.leaves (leaving_among l.granularity l.cores)
