-- The order of actions as one number.
use Rattle.std.specs.Prelude.{ℕ, ◌<◌, ◌+◌, ◌*◌, Option, Some, None, nat_le, if◌then◌else◌}
use Rattle.sched_model.specs.declared.action.Action.{Action}
use Rattle.pool_laws.specs.Order.{kind_place, subject_place, index_place}

-- the kind, then the number of the subject, then the index of a vCPU or a unit in its domain, where these are numbers below 256
abbrev pub rank_of : Action → ℕ
rank_of action = kind_place action * 65536 + subject_place action * 256 + index_place action

-- the earlier of two actions that may be none
abbrev pub earlier_action : Option Action → Option Action → Option Action
earlier_action None b = b
earlier_action (Some a) None = Some a
earlier_action (Some a) (Some b) = (if nat_le (rank_of a) (rank_of b) then Some a else Some b)

-- the numbers of an action's subject are those of a byte
abbrev pub IsSmall : Action → Type 0
IsSmall action = (subject_place action < 256) × (index_place action < 256)
