-- How long a list is without a unit.
use Rattle.std.proofs.Common.{◌≡◌, ◌+◌, ◌≤◌, List, [], ◌∷◌, true, false, length, arith}
use Rattle.std.specs.Prelude.{◌||◌, if◌then◌else◌}
use Rattle.sched_base.specs.declared.UnitId.{UnitId}
use Rattle.arrival_queue.specs.Queues.{Queued, is_of, has_unit, list_without}

-- a list is no shorter without a unit that it may not have, and shorter without one that it has
pub without-most : (u : UnitId) (es : List Queued) → length (list_without u es) ≤ length es
without-most u [] = omega arith
without-most u (e ∷ es) =
    let rest = without-most u es in
    elim (is_of u e) as (λ t. length (if t then list_without u es else e ∷ list_without u es) ≤ length (e ∷ es)) [
      | true ↦ omega (arith, rest)
      | false ↦ omega (arith, rest)
    ]

pub without-less : (u : UnitId) (es : List Queued) → has_unit u es ≡ true → length (list_without u es) + 1 ≤ length es
without-less u [] has = absurd (cc)
without-less u (e ∷ es) has =
    elim (is_of u e) as (λ t. (t || has_unit u es) ≡ true → length (if t then list_without u es else e ∷ list_without u es) + 1 ≤ length (e ∷ es)) [
      | true ↦ λ _. omega (arith, without-most u es)
      | false ↦ λ later. omega (arith, without-less u es later)
    ] has
