-- Sets of cores, as numbers with bit r for core r.
use Rattle.std.specs.Prelude.{ℕ, ◌-◌, ◌^◌, ◌/◌, ◌%◌, ◌==◌, ◌||◌, Bool, bit_and}
use Rattle.sched_base.specs.declared.Cores.{Cores}
use Rattle.sched_base.specs.Numbers.{core_set}

-- whether the core is in the set
abbrev pub has_core_bit : ℕ → ℕ → Bool
has_core_bit cores r = (cores / 2 ^ r) % 2 == 1

-- whether a unit with that set may run on the core of a pool: the set has the core, or none of the pool
abbrev pub is_core_allowed : ℕ → ℕ → ℕ → Bool
is_core_allowed cores r home = has_core_bit cores r || bit_and cores home == 0

-- all 64 cores
abbrev pub every_core : Cores
every_core = core_set (2 ^ 64 - 1)
