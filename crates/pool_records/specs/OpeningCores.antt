-- The cores of a pool at the opening.
use Rattle.std.specs.Prelude.{ℕ, Option, Some, None, replicate, if◌then◌else◌}
use Rattle.sched_base.specs.Numbers.{moment}
use Rattle.sched_model.specs.declared.state.Resource.{Resource}
use Rattle.sched_model.specs.Opening.{joined_core}
use Rattle.sched_model.specs.State.{has_core_bit}

-- the core r of g processors, where it is in the set
abbrev pub opening_core : ℕ → ℕ → ℕ → Option Resource
opening_core g cores r = (if has_core_bit cores r then Some (joined_core (replicate g (moment 0))) else None)
