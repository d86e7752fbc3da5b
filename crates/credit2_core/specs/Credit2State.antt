-- What a pool's Credit2 keeps, what callers see of it, and what always holds of it.
use Rattle.std.specs.Prelude.{◌≡◌, ◌≤◌, ◌<◌, ◌+◌, ◌-◌, ◌^◌, ℕ, Bool, true, false, List, Option, length}
use Rattle.std.specs.List.{AllByRecursion}
use Rattle.sched_base.specs.Numbers.{core_set, domain}
use Rattle.unit_places.specs.Masks.{mask_of}
use Rattle.sched_base.specs.declared.Cores.{Cores}
use Rattle.sched_base.specs.declared.UnitId.{UnitId}
use Rattle.sched_model.specs.declared.state.Credit2Records.{Credit2Records}
use Rattle.sched_model.specs.declared.state.Scheduler.{Scheduler}
use Rattle.sched_model.specs.Places.{has_listed_unit}
use Rattle.sched_model.specs.EligibleUnits.{unit_cores}
use Rattle.state_ranges.specs.Fits.{Credit2Fits}
use Rattle.state_ranges.specs.Budgets.{Budgets, None2, AllRunOnly}
use Rattle.scheduler_records.specs.Parts.{credit2_scheduler}
use Rattle.arrival_queue.specs.Queues.{Queued}
use Rattle.runq.specs.Queue.{Queue}
use Rattle.queue_laws.specs.Arrivals.{arrivals}
use Rattle.sched_ops.specs.Seen.{Seen}
use Rattle.sched_ops.specs.Conditions.{IsApart}
use Rattle.credit2_core.specs.declared.state.Credit2State.{Credit2State}
use Rattle.credit2_core.specs.Keys.{HasCredits}
use Rattle.credit2_core.specs.Places.{set_counts, unit_counts, refills_of}
use Rattle.sched_ops.specs.Affinity.{count_all, is_member_among}

-- the numbers of the records are in range at t
pub record InRange (t : ℕ) (records : Credit2Records) : Type 0 where
  pub few : length records.domains ≤ 64
  pub credits : Credit2Fits (length records.domains) t records
  pub budgets : Budgets t (λ d k. k ≤ 32) None2 None2 records

-- the units that wait: no unit is there twice, each has joined, has its key and is not on
pub record IsLineOf (affinity : List (Option (List Cores))) (records : Credit2Records) (es : List Queued) : Type 0 where
  pub apart : IsApart (arrivals es)
  pub joined : AllByRecursion (λ u. is_member_among affinity u ≡ true) (arrivals es)
  pub indices : AllByRecursion (λ (u : UnitId). u.n < 256) (arrivals es)
  pub keys : HasCredits records es
  pub off : AllRunOnly (λ d n. has_listed_unit (arrivals es) (record { dom = domain d; n = n }) ≡ false) records

-- the same of all that is kept
abbrev pub IsLine : Credit2State → Type 0
IsLine h = IsLineOf h.affinity h.records h.queue.units

-- the same units wait, in the same order of arrival
pub record IsSameLine (old new : Queue) : Type 0 where
  pub order : arrivals new.units ≡ arrivals old.units
  pub count : length new.units ≡ length old.units
  pub spare : new.spare ≡ old.spare

-- the queue has as many nodes
pub record IsSameRoom (old new : Queue) : Type 0 where
  pub room : length new.units + new.spare ≡ length old.units + old.spare

-- the table of masks has the sets of cores of the units that have joined
abbrev pub AreMasks : List (Option (List Cores)) → List Cores → Type 0
AreMasks affinity masks = (u : UnitId) → is_member_among affinity u ≡ true → mask_of masks u ≡ core_set (unit_cores affinity u)

-- each unit that has joined may have all cores, where none was pinned to fewer
pub record IsFree (unpinned : Bool) (affinity : List (Option (List Cores))) : Type 0 where
  pub all : unpinned ≡ true → (u : UnitId) → is_member_among affinity u ≡ true → unit_cores affinity u ≡ 2 ^ 64 - 1

-- all that always holds
pub record IsSound (h : Credit2State) : Type 0 where
  pub range : InRange h.latest h.records
  pub counts : set_counts h.affinity ≡ unit_counts h.records.domains
  pub line : IsLine h
  pub masks : AreMasks h.affinity h.masks
  pub free : IsFree h.unpinned h.affinity
  pub refills : h.refills ≡ refills_of h.records.domains
  pub room : count_all h.affinity + h.spare ≤ length h.queue.units + h.queue.spare
  pub small : count_all h.affinity + h.spare ≤ 256

-- the scheduler that callers see
abbrev pub scheduler_in : Credit2State → Scheduler
scheduler_in h = credit2_scheduler (arrivals h.queue.units) h.affinity h.records

-- all that callers see
abbrev pub seen_in : Credit2State → Seen
seen_in h = record { scheduler = scheduler_in h; spare = h.spare; latest = h.latest }
