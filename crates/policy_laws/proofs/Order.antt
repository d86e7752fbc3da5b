-- The timers of a scheduler stand in order of domain and unit.
use Rattle.std.proofs.Common.{◌<◌, ℕ, suc, true, false, List, [], ◌∷◌, arith, cond}
use Rattle.std.specs.Prelude.{Option, Some, None}
use Rattle.std.specs.List.{AllByRecursion}
use Rattle.sched_base.specs.Numbers.{moment, domain}
use Rattle.sched_base.specs.declared.UnitId.{UnitId}
use Rattle.sched_model.specs.declared.state.Credit2Domain.{Credit2Domain}
use Rattle.sched_model.specs.declared.state.RtdsUnit.{RtdsUnit}
use Rattle.sched_model.specs.declared.state.Records.{Records}
use Rattle.sched_model.specs.declared.state.Records.TheVariants.{Credit2Pool, RtdsPool, ArincPool, NullPool}
use Rattle.sched_model.specs.declared.state.Scheduler.{Scheduler}
use Rattle.sched_model.specs.Places.{numbered_items}
use Rattle.sched_ops.specs.declared.timer.Timer.{Timer}
use Rattle.sched_ops.specs.declared.timer.Timer.TheVariants.{Repl, Refill}
use Rattle.sched_ops.specs.Timers.{Armed, unit_timers, replenishments, refills, timers_in, timers}
use Rattle.policy_laws.specs.TimerOrder.{IsNotAfter, domain_place}
use Rattle.policy_laws.proofs.Scan.{AreInOrder, in_order-append}
use Rattle.policy_laws.proofs.Listed.{is_busy, to_numbered, to_units, to_replenishments, to_refills, OfRefill}
use Rattle.sched_base.specs.Units.{unit_id}

earlier_domain : (a b : Timer) → domain_place a < domain_place b → IsNotAfter a b
earlier_domain a b less = record { by_domain = omega (arith, less); then_by_unit = λ same. absurd (omega (arith, less, same)) }

abbrev IsAfter : Timer → Armed → Type 0
IsAfter a e = IsNotAfter a e.1

units_in_order : (queue : List UnitId) (d n : ℕ) (units : List RtdsUnit) → AreInOrder (unit_timers queue d n units)
units_in_order queue d n [] = tt
units_in_order queue d n (x ∷ units) =
    let timers : List Armed = unit_timers queue d (suc n) units in
    let rest : AreInOrder timers = units_in_order queue d (suc n) units in
    let later : AllByRecursion (IsAfter (Repl (unit_id d n))) timers = to_units (IsAfter (Repl (unit_id d n))) queue d (suc n) units (λ i m y e get on. record { by_domain = omega arith; then_by_unit = λ same. omega (arith, e) }) in
    elim (is_busy queue (unit_id d n) x) as (λ b. AreInOrder (cond b ((moment x.deadline, Repl (unit_id d n)) ∷ timers) timers)) [
      | true ↦ (later, rest)
      | false ↦ rest
    ]

replenishments_in_order : (queue : List UnitId) (k : ℕ) (domains : List (Option (List RtdsUnit))) → AreInOrder (replenishments queue (numbered_items k domains))
replenishments_in_order queue k [] = tt
replenishments_in_order queue k (None ∷ domains) = replenishments_in_order queue (suc k) domains
replenishments_in_order queue k (Some units ∷ domains) =
    let own : List Armed = unit_timers queue k 0 units in
    let others : List Armed = replenishments queue (numbered_items (suc k) domains) in
    in_order-append own others (units_in_order queue k 0 units) (replenishments_in_order queue (suc k) domains)
    (to_units (λ (x : Armed). AllByRecursion (IsAfter x.1) others) queue k 0 units
    (λ i m x e get on.
    to_replenishments (IsAfter (Repl (unit_id k m))) queue (numbered_items (suc k) domains)
    (to_numbered (λ (d : ℕ × List RtdsUnit). AllByRecursion (IsAfter (Repl (unit_id k m))) (unit_timers queue d.0 0 d.1)) (suc k) domains
    (λ i2 d units2 e2 at. to_units (IsAfter (Repl (unit_id k m))) queue d 0 units2 (λ i3 n y e3 get2 on2. earlier_domain (Repl (unit_id k m)) (Repl (unit_id d n)) (omega (arith, e2)))))))

refills_in_order : (k : ℕ) (domains : List (Option Credit2Domain)) → AreInOrder (refills (numbered_items k domains))
refills_in_order k [] = tt
refills_in_order k (None ∷ domains) = refills_in_order (suc k) domains
refills_in_order k (Some x ∷ domains) =
    let others : List Armed = refills (numbered_items (suc k) domains) in
    let rest : AreInOrder others = refills_in_order (suc k) domains in
    elim x.refill as (λ o. AreInOrder (elim o as (λ _. List Armed) [ None ↦ others | Some r ↦ (moment r, Refill (domain k)) ∷ others ])) [
      | None ↦ rest
      | Some r ↦ (
        to_refills (IsAfter (Refill (domain k))) (numbered_items (suc k) domains)
            (to_numbered (OfRefill (IsAfter (Refill (domain k)))) (suc k) domains (λ i d y e at s has. earlier_domain (Refill (domain k)) (Refill (domain d)) (omega (arith, e)))),
        rest,
      )
    ]

timers_in_order : (queue : List UnitId) (records : Records) → AreInOrder (timers_in queue records)
timers_in_order queue (Credit2Pool records) = refills_in_order 0 records.domains
timers_in_order queue (RtdsPool domains) = replenishments_in_order queue 0 domains
timers_in_order queue (ArincPool records) = tt
timers_in_order queue (NullPool kept) = tt

pub in_order : (scheduler : Scheduler) → AreInOrder (timers scheduler)
in_order scheduler = timers_in_order scheduler.queue scheduler.records
