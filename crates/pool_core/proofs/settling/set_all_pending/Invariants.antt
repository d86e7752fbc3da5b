use Rattle.std.proofs.Common.{◌≡◌, ℕ, true}
use Rattle.sched_model.specs.Places.{change_each}
use Rattle.sched_model.specs.State.{has_core_bit}
use Rattle.pool_core.proofs.Marking.{marked}
use Rattle.pool_core.proofs.settling.set_all_pending.Given as goal

abbrev pub invariant-loop-r : goal.invariant-loop-r
invariant-loop-r l =
    record {
      cores : l.cores ≡ record l.initial.cores { resources = change_each 0 (marked l.fn.set.0 l.rest) l.initial.cores.resources };
      within : (i : ℕ) → has_core_bit l.rest i ≡ true → has_core_bit l.fn.set.0 i ≡ true;
    }

abbrev pub decreases-loop-r : goal.decreases-loop-r
decreases-loop-r l = l.rest
