-- The pool after a unit is replenished, where its record then is known.
use Rattle.std.proofs.Common.{◌≡◌, ℕ, refl, ap}
use Rattle.std.specs.Prelude.{Option, Some, None}
use Rattle.sched_base.specs.declared.UnitId.{UnitId}
use Rattle.sched_model.specs.declared.state.RtdsUnit.{RtdsUnit}
use Rattle.sched_model.specs.Policy.{records_after_replenish, unit_rtds_record}
use Rattle.sched_model.specs.declared.state.Pool.{Pool}
use Rattle.sched_model.specs.Pool.{after_replenish, change_core, unit_core, due_within, with_records}
use Rattle.plain_pool.specs.Records.{due_at_core}

-- the pool after the unit is replenished, where its record then is known
pub after_replenish-known : (t : ℕ) (u : UnitId) (pool : Pool) (x : RtdsUnit) → Some x ≡ unit_rtds_record (records_after_replenish pool.scheduler.records t u) u
    → let next : Pool = with_records (records_after_replenish pool.scheduler.records t u) pool in
    let due : Pool = record next { resources = due_at_core (unit_core pool u) t x.budget pool.resources } in
    due ≡ after_replenish t u pool
after_replenish-known t u pool x there =
    let next : Pool = with_records (records_after_replenish pool.scheduler.records t u) pool in
    elim (unit_core pool u) as (λ o. let due : Pool = record next { resources = due_at_core o t x.budget pool.resources } in
    due ≡ elim o as (λ _. Pool) [
      | None ↦ next
      | Some r ↦ elim (unit_rtds_record next.scheduler.records u) as (λ _. Pool) [ None ↦ next | Some y ↦ change_core r (due_within t y.budget) next ]
    ]) [
      | None ↦ refl
      | Some r ↦ ap (λ (o : Option RtdsUnit). elim o as (λ _. Pool) [ None ↦ next | Some y ↦ change_core r (due_within t y.budget) next ]) there
    ]
