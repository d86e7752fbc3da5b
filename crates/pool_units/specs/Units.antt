-- The units of a pool: those of the domains that joined, with their sets of cores, and those that wait.
use Rattle.std.specs.Prelude.{ℕ, ◌+◌, ◌-◌, ◌≡◌, ◌≤◌, true, false, List, [], ◌∷◌, ◌++◌, Option, None, Some, replicate}
use Rattle.sched_base.specs.declared.UnitId.{UnitId}
use Rattle.sched_base.specs.declared.Cores.{Cores}
use Rattle.sched_model.specs.Places.{put_at, clear_at, change_at, has_listed_unit, without_unit}
use Rattle.sched_model.specs.Policy.{pinned_cores}
use Rattle.sched_base.specs.CoreSets.{every_core}
use Rattle.sched_ops.specs.Conditions.{IsApart}
use Rattle.sched_ops.specs.Affinity.{joined_unit_count, count_all, is_member_among}

-- the units that wait, in order of arrival; the sets of cores of each domain's units; and how many units may still join
pub record Units : Type 0 where
  pub queue : List UnitId
  pub affinity : List (Option (List Cores))
  pub spare : ℕ

-- no unit, with so many places for domains and room for so many units
abbrev pub vacant_units : ℕ → ℕ → Units
vacant_units domains units = record { queue = []; affinity = replicate domains None; spare = units }

-- none of the domain's units waits
abbrev pub HasNoneWaiting : Units → ℕ → Type 0
HasNoneWaiting units d = (u : UnitId) → u.dom.0 ≡ d → has_listed_unit units.queue u ≡ false

-- the domain d joins with so many units, which may have all cores
abbrev pub after_join : ℕ → ℕ → Units → Units
after_join d count units = record units { affinity = put_at d (replicate count every_core) units.affinity; spare = units.spare - count }

-- the domain d parts
abbrev pub after_part : ℕ → Units → Units
after_part d units = record units { affinity = clear_at d units.affinity; spare = units.spare + joined_unit_count units.affinity d }

-- the unit waits behind all others
abbrev pub after_enqueue : UnitId → Units → Units
after_enqueue u units = record units { queue = units.queue ++ u ∷ [] }

-- the unit waits no more
abbrev pub after_dequeue : UnitId → Units → Units
after_dequeue u units = record units { queue = without_unit u units.queue }

-- the unit that was chosen, if one was, waits no more
abbrev pub without_chosen : Option UnitId → Units → Units
without_chosen None units = units
without_chosen (Some u) units = after_dequeue u units

-- one of the domain's units, or all of them, have another set of cores
abbrev pub pinned_in : ℕ → Option ℕ → Cores → Units → Units
pinned_in d unit cores units = record units { affinity = change_at d (pinned_cores unit cores) units.affinity }

-- no unit waits twice, those that wait have joined, and no more than 256 ever do
pub record IsWhole (units : Units) : Type 0 where
  pub apart : IsApart units.queue
  pub members : (u : UnitId) → has_listed_unit units.queue u ≡ true → is_member_among units.affinity u ≡ true
  pub room : count_all units.affinity + units.spare ≤ 256
