-- What the first unit of the run queue is to a scan.
use Rattle.std.specs.Prelude.{ℕ, ℤ, pos, true, false, ◌≡◌, ◌<◌, ◌*◌, ◌&&◌, Bool, List, Option, Some, None, option_map, filter, int_lt, if◌then◌else◌}
use Rattle.sched_base.specs.declared.UnitId.{UnitId}
use Rattle.sched_base.specs.declared.Cores.{Cores}
use Rattle.arrival_queue.specs.Filters.{first_that}
use Rattle.arrival_queue.specs.Queues.{Queued}
use Rattle.sched_model.specs.declared.state.Credit2Records.{Credit2Records}
use Rattle.sched_model.specs.Places.{at_place}
use Rattle.scheduler_records.specs.Slices.{capped_slice}
use Rattle.sched_model.specs.EligibleUnits.{is_allowed_by}
use Rattle.sched_model.specs.Credit2.{has_domain_budget, richest_unit, unit_credit, most_weight, running_records, off_records, change_domain, domain_after_take, reset_records, has_more_credit}

-- the unit may be on the core, and its domain's cap lets it run
abbrev pub may_take : List (Option (List Cores)) → ℕ → ℕ → Credit2Records → UnitId → Bool
may_take affinity home core records u = is_allowed_by affinity home core u && has_domain_budget records u

-- the first unit of a run queue whose domain's cap lets it run
abbrev pub first_ready_unit : Credit2Records → List Queued → Option UnitId
first_ready_unit records es = first_that (has_domain_budget records) es

-- the unit of greatest credit of those that may take the core
abbrev pub best_of : List UnitId → List (Option (List Cores)) → ℕ → ℕ → Credit2Records → Option UnitId
best_of queue affinity home core records = richest_unit records None (filter (may_take affinity home core records) queue)

-- the credit of the unit, or 0 where there is none
abbrev pub credit_or_0 : Credit2Records → Option UnitId → ℤ
credit_or_0 records None = pos 0
credit_or_0 records (Some u) = unit_credit records u

-- the unit, or the one that waits where it has more credit
abbrev pub richer_of : Credit2Records → UnitId → Option UnitId → Option UnitId
richer_of records own None = Some own
richer_of records own (Some u) = Some (if int_lt (unit_credit records own) (unit_credit records u) then u else own)

-- how long the unit runs, where the best of the others has so much credit
abbrev pub unit_slice : Credit2Records → UnitId → ℤ → ℕ
unit_slice records u other = elim (at_place records.domains u.dom.0) [ None ↦ 0 | Some d ↦ capped_slice d u.n other (most_weight records) (records.limit * 1000) ]

-- the records where the unit runs from t, after so many resets, in place of the core's own
abbrev pub records_after_run : Option UnitId → ℕ → ℕ → UnitId → Credit2Records → Credit2Records
records_after_run cur t resets u records = running_records (Some t) u (off_records cur (change_domain u.dom.0 (domain_after_take u.n) (reset_records t resets records)))

-- whether one that waits is better than the core's own unit
abbrev pub is_better_of : Credit2Records → UnitId → ℕ → ℕ → Option UnitId → Bool
is_better_of records own since t None = false
is_better_of records own since t (Some u) = has_more_credit records own since t u

-- the first unit, once one more waits behind all others, where that may run
abbrev pub first_with_unit : Credit2Records → Bool → Option UnitId → UnitId → Option UnitId
first_with_unit records false first u = first
first_with_unit records true None u = Some u
first_with_unit records true (Some w) u = richer_of records w (Some u)

-- each core may take some unit that waits, and the best of them has this credit
abbrev pub HasBest : List UnitId → List (Option (List Cores)) → Credit2Records → ℤ → Type 0
HasBest queue affinity records credit = (core home : ℕ) → core < 64 → option_map (unit_credit records) (best_of queue affinity home core records) ≡ Some credit
