-- The set of the domains that may run, and the table of the sets of cores by unit.
use Rattle.std.proofs.Common.{◌≡◌, ◌+◌, ◌*◌, ◌/◌, ◌%◌, ◌^◌, ℕ, zero, suc, Bool, true, false, List, [], ◌∷◌, refl, ap, sym, ◌∙◌, cond, arith}
use Rattle.std.specs.Prelude.{Option, Some, None, ◌==◌, ◌&&◌, if◌then◌else◌, filter, nat_lt, slice_index_or}
use Rattle.std.specs.List.{AllByRecursion}
use Rattle.std.proofs.Math.Nat.{div-div-eq-div-mul}
use Rattle.sched_base.specs.Numbers.{core_set}
use Rattle.unit_places.specs.Masks.{mask_of}
use Rattle.sched_base.specs.CoreSets as sets
use Rattle.sched_base.specs.declared.Cores.{Cores}
use Rattle.sched_base.specs.declared.UnitId.{UnitId}
use Rattle.sched_model.specs.declared.state.Credit2Domain.{Credit2Domain}
use Rattle.sched_model.specs.declared.state.Credit2Records.{Credit2Records}
use Rattle.sched_model.specs.Places.{at_place}
use Rattle.sched_model.specs.EligibleUnits.{has_cap_budget, unit_cores, is_allowed_by}
use Rattle.sched_model.specs.Credit2.{has_domain_budget}
use Rattle.arrival_queue.specs.Filters.{first_that, has_core_bit, may_run}
use Rattle.arrival_queue.specs.Queues.{Queued}
use Rattle.sched_ops.specs.Affinity.{is_member_among}
use Rattle.credit2_core.specs.Domains.{may_run_at, may_run_bit, AreRunnable, set_of, masked_cores}
use Rattle.credit2_core.specs.Choice.{may_take}
use Rattle.credit2_core.specs.Credit2State.{AreMasks}
use Rattle.std.proofs.Math.Bool.{and_comm}
use Rattle.std.proofs.lemmas.Bool.{le-ltb}

-- the lowest bit of a number, and the others
low_bit : (place : Option Credit2Domain) (r : ℕ) → ((may_run_bit place + 2 * r) % 2 == 1) ≡ may_run_at place
low_bit None r = (let e : (0 + 2 * r) % 2 ≡ 0 = omega arith in rw e refl)
low_bit (Some d) r =
    elim (has_cap_budget d) as (λ b. (((if b then 1 else 0) + 2 * r) % 2 == 1) ≡ b) [
      | true ↦ (let e : (1 + 2 * r) % 2 ≡ 1 = omega arith in rw e refl)
      | false ↦ (let e : (0 + 2 * r) % 2 ≡ 0 = omega arith in rw e refl)
    ]

half : (place : Option Credit2Domain) (r : ℕ) → (may_run_bit place + 2 * r) / 2 ≡ r
half None r = omega arith
half (Some d) r = elim (has_cap_budget d) as (λ b. ((if b then 1 else 0) + 2 * r) / 2 ≡ r) [ true ↦ omega arith | false ↦ omega arith ]

power : (i : ℕ) → 2 ^ suc i ≡ 2 * 2 ^ i
power i = grind arith

pub set_has : (domains : List (Option Credit2Domain)) (i : ℕ) → has_core_bit (set_of domains) i ≡ may_run_at (at_place domains i)
set_has [] i = (let e : 0 / 2 ^ i ≡ 0 = none (2 ^ i) in rw e refl)
  where
    none : (k : ℕ) → 0 / k ≡ 0
    none zero = refl
    none (suc k) = grind arith
set_has (place ∷ domains) zero = (let e : (may_run_bit place + 2 * set_of domains) / 2 ^ 0 ≡ may_run_bit place + 2 * set_of domains = omega arith in rw e (low_bit place (set_of domains)))
set_has (place ∷ domains) (suc i) =
    let e : (may_run_bit place + 2 * set_of domains) / 2 ^ suc i ≡ set_of domains / 2 ^ i =
    ap (λ (k : ℕ). (may_run_bit place + 2 * set_of domains) / k) (power i) ∙ sym (div-div-eq-div-mul (may_run_bit place + 2 * set_of domains) 2 (2 ^ i)) ∙ ap (λ (k : ℕ). k / 2 ^ i) (half place (set_of domains))
    in
    rw e (set_has domains i)

pub first_that-same : (p q : UnitId → Bool) (es : List Queued) → ((u : UnitId) → p u ≡ q u) → first_that p es ≡ first_that q es
first_that-same p q [] same = refl
first_that-same p q (e ∷ es) same =
    ap (λ (b : Bool). if b then Some e.unit else first_that p es) (same e.unit) ∙ ap (λ (o : Option UnitId). if q e.unit then Some e.unit else o) (first_that-same p q es same)

pub filter-same : {X : Type 0} (p q : X → Bool) (xs : List X) → AllByRecursion (λ x. p x ≡ q x) xs → filter p xs ≡ filter q xs
filter-same p q [] same = refl
filter-same p q (x ∷ xs) same =
    ap (λ (b : Bool). cond b (x ∷ filter p xs) (filter p xs)) same.0 ∙ ap (λ (ys : List _). cond (q x) (x ∷ ys) ys) (filter-same p q xs same.1)

-- a unit that has joined passes the search of the run queue just where it may take the core
pub passes_same : (affinity : List (Option (List Cores))) (masks : List Cores) (records : Credit2Records) (set core home : ℕ) (u : UnitId) → AreRunnable records.domains set → AreMasks affinity masks → is_member_among affinity u ≡ true
    → (has_core_bit set u.dom.0 && may_run masks (record { 0 = core }) (record { 0 = home }) u) ≡ may_take affinity home core records u
passes_same affinity masks records set core home u runnable are joined =
    let mask : mask_of masks u ≡ core_set (unit_cores affinity u) = are u joined in
    let may : may_run masks (record { 0 = core }) (record { 0 = home }) u ≡ is_allowed_by affinity home core u = ap (λ (m : Cores). sets.is_core_allowed m.0 core home) mask in
    ap (λ (b : Bool). b && may_run masks (record { 0 = core }) (record { 0 = home }) u) (runnable.each u.dom.0) ∙ ap (λ (b : Bool). has_domain_budget records u && b) may ∙ and_comm (has_domain_budget records u) (is_allowed_by affinity home core u)

pub passes_each : (affinity : List (Option (List Cores))) (masks : List Cores) (records : Credit2Records) (set core home : ℕ) (units : List UnitId) → AreRunnable records.domains set → AreMasks affinity masks → AllByRecursion (λ u. is_member_among affinity u ≡ true) units
    → AllByRecursion (λ u. (has_core_bit set u.dom.0 && may_run masks (record { 0 = core }) (record { 0 = home }) u) ≡ may_take affinity home core records u) units
passes_each affinity masks records set core home [] runnable are joined = tt
passes_each affinity masks records set core home (u ∷ units) runnable are joined = (passes_same affinity masks records set core home u runnable are joined.0, passes_each affinity masks records set core home units runnable are joined.1)

-- the masks, before one is written
pub masked_none : (masks : List Cores) (d : ℕ) (sets : List Cores) (u : UnitId) → mask_of masks u ≡ masked_cores masks d sets 0 u
masked_none masks d sets u =
    let e : nat_lt u.n 0 ≡ false = le-ltb u.n 0 (omega arith) in
    elim (u.dom.0 == d) as (λ b. mask_of masks u ≡ (if b && nat_lt u.n 0 then slice_index_or sets u.n (core_set 0) else mask_of masks u)) [ true ↦ rw e refl | false ↦ refl ]
