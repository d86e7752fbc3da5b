-- The unit that a core takes: its own, or the first of the queue that may have the core.
use Rattle.std.specs.Prelude.{ℕ, ◌+◌, ◌≡◌, ◌<◌, Bool, false, List, [], ◌∷◌, ◌++◌, Option, Some, None, length, if◌then◌else◌}
use Rattle.std.specs.List.{AllByRecursion}
use Rattle.sched_base.specs.Numbers.{moment}
use Rattle.unit_places.specs.Masks.{mask_of}
use Rattle.unit_places.specs.Places.{unit_index}
use Rattle.due_heap.specs.Dues.{armed_moment}
use Rattle.sched_base.specs.declared.Cores.{Cores}
use Rattle.sched_base.specs.declared.Moment.{Moment}
use Rattle.sched_base.specs.declared.UnitId.{UnitId}
use Rattle.sched_model.specs.declared.state.RtdsUnit.{RtdsUnit}
use Rattle.sched_model.specs.Places.{at_place}
use Rattle.sched_model.specs.EligibleUnits.{unit_cores, rtds_unit_at}
use Rattle.sched_model.specs.Rtds.{unit_left_budget, is_unit_before, running_domains}
use Rattle.arrival_queue.specs.Queues.{Queued}
use Rattle.rtds_queue.specs.declared.RtdsKey.{RtdsKey}
use Rattle.rtds_queue.specs.Lists.{Lists, rtds_key, key_of, holds, after_remove}
use Rattle.queue_laws.specs.Arrivals.{arrivals}
use Rattle.rtds_core.specs.Alarms.{with_due}

-- the waiting units in order of arrival
abbrev pub queue_of : Lists → List UnitId
queue_of q = arrivals (q.eligible ++ q.spent)

-- the level and the deadline of a unit
abbrev pub key_by : RtdsUnit → RtdsKey
key_by x = rtds_key x.level x.deadline

-- a waiting unit with budget left: it is on no core, and is sorted by its level and deadline
pub record IsEligible (domains : List (Option (List RtdsUnit))) (e : Queued) : Type 0 where
  pub unit : RtdsUnit
  pub at : rtds_unit_at domains e.unit ≡ Some unit
  pub off : unit.burned ≡ None
  pub left : 0 < unit.left
  pub key : e.key ≡ key_of (key_by unit)

-- a waiting unit without budget
pub record IsSpent (domains : List (Option (List RtdsUnit))) (e : Queued) : Type 0 where
  pub unit : RtdsUnit
  pub at : rtds_unit_at domains e.unit ≡ Some unit
  pub off : unit.burned ≡ None
  pub left : unit.left ≡ 0

-- the waiting units are those of the records, the eligible ones and the spent ones
pub record AreQueued (domains : List (Option (List RtdsUnit))) (q : Lists) : Type 0 where
  pub eligible : AllByRecursion (IsEligible domains) q.eligible
  pub spent : AllByRecursion (IsSpent domains) q.spent

-- the table has the sets of cores of the units that have joined
pub record AreMasks (affinity : List (Option (List Cores))) (masks : List Cores) : Type 0 where
  pub each : (u : UnitId) (sets : List Cores) → at_place affinity u.dom.0 ≡ Some sets → u.n < length sets → (mask_of masks u).0 ≡ unit_cores affinity u

-- the list of what there is
abbrev pub list_of : {X : Type 0} → Option X → List X
list_of None = []
list_of (Some x) = x ∷ []

-- whether the first that waits, if one does, goes before the core's own
abbrev pub is_waiting_first : List (Option (List RtdsUnit)) → Option UnitId → UnitId → Bool
is_waiting_first domains None own = false
is_waiting_first domains (Some u) own = is_unit_before domains u own

-- the moment at which the budget of the chosen unit is used up
abbrev pub due_at : List (Option (List RtdsUnit)) → ℕ → Option UnitId → Option Moment
due_at domains at None = None
due_at domains at (Some u) = Some (moment (at + unit_left_budget domains u))

-- the unit's deadline
abbrev pub deadline_in : List (Option (List RtdsUnit)) → UnitId → ℕ
deadline_in domains u = elim (rtds_unit_at domains u) [ None ↦ 0 | Some x ↦ x.deadline ]

-- the records where the chosen unit runs from a moment
abbrev pub run_from : ℕ → Option UnitId → List (Option (List RtdsUnit)) → List (Option (List RtdsUnit))
run_from at None domains = domains
run_from at (Some u) domains = running_domains (Some at) u domains

-- the queues without the chosen unit, which may wait or be on already
abbrev pub queues_without : Option UnitId → Lists → Lists
queues_without None q = q
queues_without (Some u) q = (if holds q u then after_remove q u else q)

-- the dues where the chosen unit's deadline is armed
abbrev pub dues_with : List (Option (List RtdsUnit)) → Option UnitId → List (Option Moment) → List (Option Moment)
dues_with domains None dues = dues
dues_with domains (Some u) dues = with_due u (Some (moment (deadline_in domains u))) dues

-- the dues where the core's own unit is not armed
abbrev pub dues_without : Option UnitId → List (Option Moment) → List (Option Moment)
dues_without None dues = dues
dues_without (Some u) dues = with_due u None dues

-- a core's own unit after its charge up to a moment: it is on from then, does not wait, and its deadline is armed
pub record IsCharged (at : ℕ) (domains : List (Option (List RtdsUnit))) (q : Lists) (dues : List (Option Moment)) (u : UnitId) : Type 0 where
  pub unit : RtdsUnit
  pub there : rtds_unit_at domains u ≡ Some unit
  pub on : unit.burned ≡ Some at
  pub waits_not : holds q u ≡ false
  pub armed : armed_moment dues (unit_index u) ≡ Some (moment unit.deadline)
