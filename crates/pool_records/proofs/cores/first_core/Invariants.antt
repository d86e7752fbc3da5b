use Rattle.std.proofs.Common.{◌≡◌, true, drop}
use Rattle.sched_model.specs.declared.state.Resource.{Resource}
use Rattle.sched_model.specs.Places.{first_place}
use Rattle.pool_records.proofs.cores.first_core.Given as goal

abbrev pub invariant-loop-r : goal.invariant-loop-r
invariant-loop-r l = first_place l.r (λ (c : Resource). true) (drop l.r l.cores) ≡ first_place 0 (λ (c : Resource). true) l.cores
