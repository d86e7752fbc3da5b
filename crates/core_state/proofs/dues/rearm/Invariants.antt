use Rattle.std.proofs.Common.{◌+◌, ◌*◌}
use Rattle.core_state.specs.CoreState.{AreArmedBut}
use Rattle.core_state.proofs.dues.rearm.Given as goal

abbrev pub invariant-loop-i : goal.invariant-loop-i
invariant-loop-i l = AreArmedBut (l.r.0 + 1) (l.r.0 + 1) (l.r.0 * l.granularity + l.i) (l.r.0 * l.granularity + l.granularity) (record { resources = l.cores; works = l.works; granularity = l.granularity }) l.dues
