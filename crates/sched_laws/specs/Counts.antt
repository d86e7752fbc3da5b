-- How often something stands in a list and at places.
use Rattle.std.proofs.Common.{◌+◌, ℕ, zero, suc, List, [], ◌∷◌, cond}
use Rattle.std.specs.Prelude.{Option, Some, None}
use Rattle.sched_base.specs.declared.UnitId.{UnitId}
use Rattle.sched_model.specs.Places.{is_unit, same_unit}

-- the sum of f over what stands at a place
abbrev pub total : {X : Type 0} → (X → ℕ) → List (Option X) → ℕ
total f [] = 0
total f (None ∷ places) = total f places
total f (Some x ∷ places) = f x + total f places

-- what f makes of what stands at a place, or 0
abbrev pub over : {X : Type 0} → (X → ℕ) → Option X → ℕ
over f None = 0
over f (Some x) = f x

-- what f makes of the numbers below n, added up
abbrev pub total_over : ℕ → (ℕ → ℕ) → ℕ
total_over zero f = 0
total_over (suc n) f = total_over n f + f n

-- one where the units are the same
abbrev pub one : UnitId → UnitId → ℕ
one u w = cond (same_unit u w) 1 0

abbrev pub one_at : UnitId → Option UnitId → ℕ
one_at u o = cond (is_unit o u) 1 0

-- how often the unit is in the list
abbrev pub times : UnitId → List UnitId → ℕ
times u [] = 0
times u (w ∷ units) = one u w + times u units
