-- Units of a domain that come to wait, one after another.
use Rattle.std.proofs.Common.{◌≡◌, ◌≢◌, ◌<◌, ◌≤◌, ◌+◌, ◌-◌, ℕ, suc, Bool, true, false, List, [], ◌∷◌, ◌++◌, refl, sym, ap, subst, ◌∙◌, cond, arith}
use Rattle.std.specs.Prelude.{◌&&◌}
use Rattle.sched_base.specs.declared.UnitId.{UnitId}
use Rattle.sched_model.specs.declared.state.Pool.{Pool}
use Rattle.sched_model.specs.Places.{has_listed_unit, numbers_from, same_unit}
use Rattle.sched_model.specs.State.{may_unit_run}
use Rattle.sched_model.specs.Pool.{is_unit_off, pool_with_queued_if_off, queue_unit, pool_with_queued_units}
use Rattle.sched_laws.proofs.Choices.{same_unit_same}
use Rattle.sched_laws.proofs.Counts.{times-push, times_none, times_some}
use Rattle.sched_laws.specs.Counts.{one, times}
use Rattle.sched_laws.proofs.EachPlace.{by_cond}
use Rattle.sched_ops.specs.Seen as schedulers
use Rattle.unit_state.specs.Seen as guests
use Rattle.core_state.specs.Seen as cores
use Rattle.pool_core.specs.Domains.{MayQueue}
use Rattle.sched_base.specs.Units.{unit_id}
use Rattle.pool_core.specs.Seen.{pool_of}
use Rattle.pool_core.specs.Wakes.{KeepsRoom}
use Rattle.std.proofs.lemmas.Bool.{false_from_ne_true}

-- a unit does not wait that is nowhere in the queue
pub waits_nowhere : (u : UnitId) (queue : List UnitId) → times u queue ≡ 0 → has_listed_unit queue u ≡ false
waits_nowhere u queue none = false_from_ne_true (has_listed_unit queue u) (λ is. let some = times_some u queue is in omega (arith, some, none))

-- two units of a domain are not the same
units_apart : (d k n : ℕ) → k ≢ n → one (unit_id d k) (unit_id d n) ≡ 0
units_apart d k n other = by_same (same_unit (unit_id d k) (unit_id d n)) refl
  where
    by_same : (b : Bool) → same_unit (unit_id d k) (unit_id d n) ≡ b → ◌≡◌ {A = ℕ} (cond b 1 0) 0
    by_same false is = refl
    by_same true is = absurd (other (ap (λ (u : UnitId). u.n) (same_unit_same (unit_id d k) (unit_id d n) is)))

-- another unit of the domain may still come to wait
pub still_may : (g d k n : ℕ) (pool : Pool) → k ≢ n → MayQueue pool (unit_id d k) → MayQueue (pool_with_queued_if_off g (unit_id d n) pool) (unit_id d k)
still_may g d k n pool other may =
    by_cond (λ (next : Pool). MayQueue next (unit_id d k)) (may_unit_run g pool (unit_id d n) && is_unit_off pool (unit_id d n)) (queue_unit (unit_id d n) pool) pool
    (λ is. record {
      member = may.member;
      waits_not = waits_nowhere (unit_id d k) (pool.scheduler.queue ++ unit_id d n ∷ [])
          (let pushed = times-push (unit_id d k) (unit_id d n) pool.scheduler.queue in let none = times_none (unit_id d k) pool.scheduler.queue may.waits_not in let apart = units_apart d k n other in omega (arith, pushed, none, apart));
      off = may.off;
    })
    (λ is. may)

-- the scheduler after the units before n came to wait
pub record AreQueued (g d n count : ℕ) (guests : guests.Seen) (cores : cores.Seen) (before now : schedulers.Seen) : Type 0 where
  pub rest : pool_with_queued_units g d (numbers_from n (count - n)) (pool_of guests cores now) ≡ pool_with_queued_units g d (numbers_from 0 count) (pool_of guests cores before)
  pub may : (k : ℕ) → n ≤ k → k < count → MayQueue (pool_of guests cores now) (unit_id d k)
  pub room : KeepsRoom before now

-- one unit more
pub queued_next : (g d n count : ℕ) (guests : guests.Seen) (cores : cores.Seen) (before now after : schedulers.Seen) → n < count → AreQueued g d n count guests cores before now
    → pool_of guests cores after ≡ pool_with_queued_if_off g (unit_id d n) (pool_of guests cores now) → KeepsRoom now after → AreQueued g d (n + 1) count guests cores before after
queued_next g d n count guests cores before now after low queued is room = record {
  rest =
      let next : suc n ≡ n + 1 = omega arith in
      let left : count - n ≡ suc (count - (n + 1)) = omega (arith, low) in
      ap (λ (pool : Pool). pool_with_queued_units g d (numbers_from (n + 1) (count - (n + 1))) pool) is
      ∙ ap (λ (k : ℕ). pool_with_queued_units g d (numbers_from k (count - (n + 1))) (pool_with_queued_if_off g (unit_id d n) (pool_of guests cores now))) (sym next)
      ∙ ap (λ (k : ℕ). pool_with_queued_units g d (numbers_from n k) (pool_of guests cores now)) (sym left)
      ∙ queued.rest;
  may = λ k past below. subst (λ (pool : Pool). MayQueue pool (unit_id d k)) (sym is) (still_may g d k n (pool_of guests cores now) (λ e. omega (arith, past, e)) (queued.may k (omega (arith, past)) below));
  room = record { spare = room.spare ∙ queued.room.spare; latest = room.latest ∙ queued.room.latest };
}

-- none yet
pub queued_first : (g d count : ℕ) (guests : guests.Seen) (cores : cores.Seen) (before : schedulers.Seen) → ((k : ℕ) → k < count → MayQueue (pool_of guests cores before) (unit_id d k)) → AreQueued g d 0 count guests cores before before
queued_first g d count guests cores before may = record {
  rest = let all : count - 0 ≡ count = omega arith in ap (λ (k : ℕ). pool_with_queued_units g d (numbers_from 0 k) (pool_of guests cores before)) all;
  may = λ k past below. may k below;
  room = record { spare = refl; latest = refl };
}

-- all of them
pub queued_all : (g d n count : ℕ) (guests : guests.Seen) (cores : cores.Seen) (before now : schedulers.Seen) → count ≤ n → AreQueued g d n count guests cores before now
    → pool_of guests cores now ≡ pool_with_queued_units g d (numbers_from 0 count) (pool_of guests cores before)
queued_all g d n count guests cores before now over queued =
    let none : 0 ≡ count - n = omega (arith, over) in
    ap (λ (k : ℕ). pool_with_queued_units g d (numbers_from n k) (pool_of guests cores now)) none ∙ queued.rest
