-- What the calls of a scheduler ask of their callers.
use Rattle.std.specs.Prelude.{ℕ, ◌≡◌, ◌≤◌, ◌<◌, Bool, true, false, not, List, Option, Some, None, is_some, slice_get, ◌∷◌, []}
use Rattle.std.specs.List.{list_any}
use Rattle.std.specs.Option.{ForSome}
use Rattle.sched_base.specs.declared.UnitId.{UnitId}
use Rattle.sched_model.specs.declared.config.SchedKind.{SchedKind}
use Rattle.sched_model.specs.declared.config.SchedKind.TheVariants as kinds
use Rattle.sched_model.specs.declared.config.PoolParams.{PoolParams}
use Rattle.sched_model.specs.declared.config.PoolParams.TheVariants as pool_params
use Rattle.sched_model.specs.declared.config.DomParams.{DomParams}
use Rattle.sched_model.specs.declared.config.DomParams.TheVariants as dom_params
use Rattle.sched_model.specs.declared.config.ParamChange.{ParamChange}
use Rattle.sched_model.specs.declared.config.ParamChange.TheVariants as changes
use Rattle.sched_model.specs.declared.state.Records.{Records}
use Rattle.sched_model.specs.declared.state.Records.TheVariants.{Credit2Pool, RtdsPool, ArincPool, NullPool}
use Rattle.sched_model.specs.declared.ask.Ask.{Ask}
use Rattle.sched_model.specs.declared.state.Scheduler.{Scheduler}
use Rattle.sched_model.specs.Places.{at_place, has_listed_unit}
use Rattle.sched_model.specs.EligibleUnits.{rtds_unit_at}
use Rattle.sched_model.specs.CheckedMachine.{IsWithin}
use Rattle.sched_laws.specs.RecordRanges.{IsFrom, IsFrame, IsWeight, IsCap}
use Rattle.settle_laws.specs.Kept.{KeptOnce}
use Rattle.settle_laws.specs.Ready.{AreCut}
use Rattle.sched_ops.specs.Affinity.{is_member_among}
use Rattle.sched_ops.specs.Seen.{Seen, units_of}

-- the domain has joined
abbrev pub has_joined_domain : Scheduler → ℕ → Bool
has_joined_domain scheduler d = is_some (at_place scheduler.affinity d)

-- the unit is one of a domain that has joined
abbrev pub is_member : Scheduler → UnitId → Bool
is_member scheduler u = is_member_among scheduler.affinity u

-- no domain has joined
abbrev pub is_vacant : Scheduler → Bool
is_vacant scheduler = not (list_any is_some scheduler.affinity)

-- the records have the unit on a core; ARINC 653 and null keep no record of that
abbrev pub is_on : Records → UnitId → Bool
is_on (Credit2Pool records) u =
    elim (at_place records.domains u.dom.0) [ None ↦ false | Some d ↦ elim (slice_get d.units u.n) [ None ↦ false | Some x ↦ is_some x.burned ] ]
is_on (RtdsPool domains) u = elim (rtds_unit_at domains u) [ None ↦ false | Some x ↦ is_some x.burned ]
is_on (ArincPool records) u = false
is_on (NullPool kept) u = false

-- the unit may be on a core, as far as the records tell
abbrev pub may_unit_be_on : Records → UnitId → Bool
may_unit_be_on (Credit2Pool records) u = is_on (Credit2Pool records) u
may_unit_be_on (RtdsPool domains) u = is_on (RtdsPool domains) u
may_unit_be_on (ArincPool records) u = true
may_unit_be_on (NullPool kept) u = true

-- a core's own unit: it has joined, does not wait, and is on
pub record IsOwn (scheduler : Scheduler) (u : UnitId) : Type 0 where
  pub member : is_member scheduler u ≡ true
  pub waits_not : has_listed_unit scheduler.queue u ≡ false
  pub on : may_unit_be_on scheduler.records u ≡ true

-- the same of a core that may have none
abbrev pub IsOwnOf : Scheduler → Option UnitId → Type 0
IsOwnOf scheduler cur = ForSome cur (IsOwn scheduler)

-- a unit that is neither waiting nor on
pub record IsAway (scheduler : Scheduler) (u : UnitId) : Type 0 where
  pub member : is_member scheduler u ≡ true
  pub waits_not : has_listed_unit scheduler.queue u ≡ false
  pub off : is_on scheduler.records u ≡ false

-- none of the domain's units waits, and none is on
pub record HasNoneBusy (scheduler : Scheduler) (d : ℕ) : Type 0 where
  pub waiting : (u : UnitId) → u.dom.0 ≡ d → has_listed_unit scheduler.queue u ≡ false
  pub on : (u : UnitId) → u.dom.0 ≡ d → is_on scheduler.records u ≡ false

-- a moment that is not before the latest one given, nor past a longest span
abbrev pub IsNow : Seen → ℕ → Type 0
IsNow seen t = IsFrom seen.latest t

-- a question that may be asked: its moments, its core, and the core's own unit
pub record IsAsked (seen : Seen) (ask : Ask) : Type 0 where
  pub now : IsNow seen ask.at.0
  pub since : ask.since.0 ≤ ask.at.0
  pub core : ask.core.0 < 64
  pub own : IsOwnOf seen.scheduler ask.cur

-- a period of 10 microseconds to 1000 seconds, and a budget of 10 microseconds to the period
pub record IsTerm (period budget : ℕ) : Type 0 where
  pub long : IsWithin 10000 1000000000000 period
  pub within : IsWithin 10000 period budget

-- a period and a budget as a change may set them, each of 10 microseconds to 1000 seconds. Commands compare the two in whole microseconds, so
-- the budget may be longer than the period by less than one
pub record IsSetTerm (period budget : ℕ) : Type 0 where
  pub long : IsWithin 10000 1000000000000 period
  pub share : IsWithin 10000 1000000000000 budget

-- the pool's parameters are of this scheduler, and in range
abbrev pub ArePoolParams : SchedKind → PoolParams → Type 0
ArePoolParams kinds.Credit2 (pool_params.Credit2 limit) = limit ≤ 500000
ArePoolParams kinds.Rtds pool_params.Rtds = Unit {0}
ArePoolParams kinds.Arinc653 (pool_params.Arinc653 frame) = ForSome frame IsFrame
ArePoolParams kinds.Null pool_params.Null = Unit {0}
ArePoolParams _ _ = ⊥

-- the domain's parameters are of this scheduler, and in range
abbrev pub AreDomParams : SchedKind → DomParams → Type 0
AreDomParams kinds.Credit2 (dom_params.Credit2 weight cap) = IsWeight weight × IsCap cap
AreDomParams kinds.Rtds (dom_params.Rtds period budget extra) = IsTerm period.0 budget.0
AreDomParams kinds.Arinc653 dom_params.Arinc653 = Unit {0}
AreDomParams kinds.Null dom_params.Null = Unit {0}
AreDomParams _ _ = ⊥

-- the change is one that this scheduler has, of a domain that has joined and a unit of it, and its values are in range
abbrev pub IsChange : SchedKind → Scheduler → ParamChange → Type 0
IsChange kinds.Credit2 scheduler (changes.Dom d weight cap) = (has_joined_domain scheduler d.0 ≡ true) × ForSome weight IsWeight × ForSome cap IsCap
IsChange kinds.Credit2 scheduler (changes.Rate limit) = limit ≤ 500000
IsChange kinds.Rtds scheduler (changes.«Unit» u period budget extra) = (is_member scheduler u ≡ true) × IsSetTerm period.0 budget.0
IsChange kinds.Arinc653 scheduler (changes.Frame frame) = IsFrame frame
IsChange _ scheduler (changes.Pin d unit cores) = (has_joined_domain scheduler d.0 ≡ true) × ForSome unit (λ (n : ℕ). n < units_of scheduler d.0)
IsChange _ scheduler _ = ⊥

-- no unit is in the list twice
abbrev pub IsApart : List UnitId → Type 0
IsApart [] = Unit {0}
IsApart (u ∷ units) = (has_listed_unit units u ≡ false) × IsApart units

-- what every scheduler keeps: no unit waits twice, and those that wait have joined and are not on. The null scheduler keeps no unit for two
-- cores, and Credit2 what is left of a charge below the weight of the unit's domain
pub record Keeps (seen : Seen) : Type 0 where
  pub apart : IsApart seen.scheduler.queue
  pub members : (u : UnitId) → has_listed_unit seen.scheduler.queue u ≡ true → is_member seen.scheduler u ≡ true
  pub off : (u : UnitId) → has_listed_unit seen.scheduler.queue u ≡ true → is_on seen.scheduler.records u ≡ false
  pub once : KeptOnce seen.scheduler.records
  pub cut : AreCut seen.scheduler.records
