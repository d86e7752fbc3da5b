-- The sets of cores of the units that have joined: how many units there are.
use Rattle.std.specs.Prelude.{ℕ, ◌+◌, Bool, List, [], ◌∷◌, Option, Some, None, length, nat_lt}
use Rattle.sched_base.specs.declared.UnitId.{UnitId}
use Rattle.sched_base.specs.declared.Cores.{Cores}
use Rattle.sched_model.specs.Places.{at_place}

-- how many units the domain has
abbrev pub joined_unit_count : List (Option (List Cores)) → ℕ → ℕ
joined_unit_count affinity d = elim (at_place affinity d) [ None ↦ 0 | Some sets ↦ length sets ]

-- how many units all domains have
abbrev pub count_all : List (Option (List Cores)) → ℕ
count_all [] = 0
count_all (None ∷ affinity) = count_all affinity
count_all (Some sets ∷ affinity) = length sets + count_all affinity

-- the unit is one of a domain that has joined
abbrev pub is_member_among : List (Option (List Cores)) → UnitId → Bool
is_member_among affinity u = nat_lt u.n (joined_unit_count affinity u.dom.0)
