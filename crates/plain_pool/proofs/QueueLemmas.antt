-- Units that are queued one after another.
use Rattle.std.proofs.Common.{◌≡◌, ◌∙◌, ◌≤◌, ◌<◌, ◌-◌, ◌+◌, ℕ, List, [], ◌∷◌, length, sym, ap, arith, length-append}
use Rattle.std.specs.Prelude.{true, false, cond, ◌&&◌}
use Rattle.sched_base.specs.Numbers.{domain}
use Rattle.sched_base.specs.declared.UnitId.{UnitId}
use Rattle.sched_model.specs.declared.state.Pool.{Pool}
use Rattle.sched_model.specs.Places.{numbers_from}
use Rattle.sched_model.specs.State.{may_unit_run}
use Rattle.sched_model.specs.Pool.{is_unit_off, queue_unit, pool_with_queued_if_off, pool_with_queued_units}
use Rattle.sched_model.proofs.PlaceLemmas.{numbers_from-first}

-- a unit may come to wait, and none waits no longer
pub queue_if_off-grows : (g : ℕ) (u : UnitId) (pool : Pool) → length pool.scheduler.queue ≤ length (pool_with_queued_if_off g u pool).scheduler.queue
queue_if_off-grows g u pool =
    elim (may_unit_run g pool u && is_unit_off pool u) as (λ b. length pool.scheduler.queue ≤ length (cond b (queue_unit u pool) pool).scheduler.queue) [
      | true ↦ omega (arith, length-append pool.scheduler.queue (u ∷ []))
      | false ↦ omega arith
    ]

pub queue_units-grows : (g d : ℕ) (ns : List ℕ) (pool : Pool) → length pool.scheduler.queue ≤ length (pool_with_queued_units g d ns pool).scheduler.queue
queue_units-grows g d [] pool = omega arith
queue_units-grows g d (n ∷ ns) pool =
    let u : UnitId = record { dom = domain d; n = n } in
    let one = queue_if_off-grows g u pool in
    let rest = queue_units-grows g d ns (pool_with_queued_if_off g u pool) in
    omega arith

-- one unit more is queued
pub queue_units-turn : (g d n count : ℕ) (pool initial : Pool) → n < count
    → pool_with_queued_units g d (numbers_from n (count - n)) pool ≡ pool_with_queued_units g d (numbers_from 0 count) initial
    → pool_with_queued_units g d (numbers_from (n + 1) (count - (n + 1))) (pool_with_queued_if_off g (record { dom = domain d; n = n }) pool) ≡ pool_with_queued_units g d (numbers_from 0 count) initial
queue_units-turn g d n count pool initial below so_far =
    sym (ap (λ (ns : List ℕ). pool_with_queued_units g d ns pool) (numbers_from-first n count below)) ∙ so_far

-- there is room for it
pub queue_units-room : (g d n count : ℕ) (pool initial : Pool) → n < count
    → pool_with_queued_units g d (numbers_from n (count - n)) pool ≡ pool_with_queued_units g d (numbers_from 0 count) initial
    → length (pool_with_queued_units g d (numbers_from 0 count) initial).scheduler.queue ≤ 256
    → length (pool_with_queued_if_off g (record { dom = domain d; n = n }) pool).scheduler.queue ≤ 256
queue_units-room g d n count pool initial below so_far room =
    let u : UnitId = record { dom = domain d; n = n } in
    let next = queue_units-turn g d n count pool initial below so_far in
    let grows = queue_units-grows g d (numbers_from (n + 1) (count - (n + 1))) (pool_with_queued_if_off g u pool) in
    let same = ap (λ (p : Pool). length p.scheduler.queue) next in
    omega arith
