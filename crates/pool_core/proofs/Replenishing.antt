-- The replenishment of a unit, as its scheduler carries it out.
use Rattle.std.proofs.Common.{◌≡◌, ℕ, Bool, true, false, refl, sym, ap, subst, ◌∙◌}
use Rattle.std.specs.Prelude.{Option, Some, None, is_some, ◌&&◌, ◌||◌}
use Rattle.sched_base.specs.declared.UnitId.{UnitId}
use Rattle.sched_model.specs.declared.action.Action.TheVariants.{Repl}
use Rattle.sched_model.specs.declared.event.Event.{Event}
use Rattle.sched_model.specs.declared.event.Event.TheVariants as event
use Rattle.sched_model.specs.declared.state.Pool.{Pool}
use Rattle.sched_model.specs.declared.state.Records.{Records}
use Rattle.sched_model.specs.declared.state.Records.TheVariants.{ArincPool, NullPool}
use Rattle.sched_model.specs.declared.state.RtdsUnit.{RtdsUnit}
use Rattle.sched_model.specs.Places.{has_listed_unit}
use Rattle.sched_model.specs.Policy.{records_after_replenish, is_replenish_due, unit_rtds_record}
use Rattle.sched_model.specs.Pool.{after_replenish, change_core, unit_core, due_within, enabled_in, is_lowest_processor_up, with_records}
use Rattle.sched_base.proofs.Bools.{and_left, and_right}
use Rattle.sched_ops.specs.Conditions.{is_on, may_unit_be_on}
use Rattle.pool_records.proofs.Replenished.{replenished-there}
use Rattle.policy_laws.specs.Holds.{Holds}
use Rattle.policy_laws.proofs.Alike.{found_core}

-- where a unit's deadline comes, the records tell whether it is on
on_told : (records : Records) (t : ℕ) (u : UnitId) → is_replenish_due records t u ≡ true → may_unit_be_on records u ≡ is_on records u
on_told (ArincPool records) t u due = absurd (cc)
on_told (NullPool kept) t u due = absurd (cc)
on_told a t u due = refl

-- the timer of a unit whose replenishment may come is due
pub timer_is_due : (g t : ℕ) (pool : Pool) (u : UnitId) → Holds g t pool → enabled_in g t pool (Repl u) ≡ true → ((has_listed_unit pool.scheduler.queue u || is_on pool.scheduler.records u) && is_replenish_due pool.scheduler.records t u) ≡ true
timer_is_due g t pool u holds on =
    let both = and_left ((has_listed_unit pool.scheduler.queue u || is_some (unit_core pool u)) && is_replenish_due pool.scheduler.records t u) (is_lowest_processor_up t pool) on in
    let due = and_right (has_listed_unit pool.scheduler.queue u || is_some (unit_core pool u)) (is_replenish_due pool.scheduler.records t u) both in
    let there = and_left (has_listed_unit pool.scheduler.queue u || is_some (unit_core pool u)) (is_replenish_due pool.scheduler.records t u) both in
    ap (λ (b : Bool). b && is_replenish_due pool.scheduler.records t u) (by_queue (has_listed_unit pool.scheduler.queue u) there due) ∙ due
  where
    by_queue : (b : Bool) → (b || is_some (unit_core pool u)) ≡ true → is_replenish_due pool.scheduler.records t u ≡ true → (b || is_on pool.scheduler.records u) ≡ true
    by_queue true there due = refl
    by_queue false there due =
        let found = found_core pool u there in
        sym (on_told pool.scheduler.records t u due) ∙ holds.on.own found.0 found.1 found.2 u found.3

-- the budget of the event
abbrev pub budget_of : Event → ℕ
budget_of (event.Repl u start deadline budget extra) = budget.0
budget_of _ = 0

-- the pool whose core is brought in by the budget of the replenished unit
pub is_replenished : (t r budget : ℕ) (u : UnitId) (pool : Pool) → is_replenish_due pool.scheduler.records t u ≡ true → unit_core pool u ≡ Some r
    → budget ≡ elim (unit_rtds_record (records_after_replenish pool.scheduler.records t u) u) as (λ _. ℕ) [ None ↦ 0 | Some x ↦ x.budget ]
    → change_core r (due_within t budget) (with_records (records_after_replenish pool.scheduler.records t u) pool) ≡ after_replenish t u pool
is_replenished t r budget u pool due own is =
    let next : Pool = with_records (records_after_replenish pool.scheduler.records t u) pool in
    subst (λ (o : Option ℕ). change_core r (due_within t budget) next ≡ elim o as (λ _. Pool) [ None ↦ next | Some k ↦ elim (unit_rtds_record next.scheduler.records u) as (λ _. Pool) [ None ↦ next | Some x ↦ change_core k (due_within t x.budget) next ] ]) (sym own)
    (by_record (unit_rtds_record (records_after_replenish pool.scheduler.records t u) u) refl is)
  where
    by_record : (o : Option RtdsUnit) → unit_rtds_record (records_after_replenish pool.scheduler.records t u) u ≡ o → budget ≡ elim o as (λ _. ℕ) [ None ↦ 0 | Some x ↦ x.budget ]
        → change_core r (due_within t budget) (with_records (records_after_replenish pool.scheduler.records t u) pool)
        ≡ elim o as (λ _. Pool) [ None ↦ with_records (records_after_replenish pool.scheduler.records t u) pool | Some x ↦ change_core r (due_within t x.budget) (with_records (records_after_replenish pool.scheduler.records t u) pool) ]
    by_record None none e = absurd (replenished-there pool.scheduler.records t u due none)
    by_record (Some x) there e = ap (λ (b : ℕ). change_core r (due_within t b) (with_records (records_after_replenish pool.scheduler.records t u) pool)) e
