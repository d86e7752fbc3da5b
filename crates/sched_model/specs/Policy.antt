-- What a scheduler decides for its pool, and what happens to its records.
use Rattle.sched_base.specs.Numbers.{moment, span}
use Rattle.std.specs.Prelude.{ℕ, ◌==◌, ◌&&◌, ◌||◌, Bool, true, false, not, List, [], ◌∷◌, ◌++◌, Option, Some, None, filter, map, replicate, nat_le, if◌then◌else◌, option_map}
use Rattle.std.specs.List.{list_any}
use Rattle.sched_base.specs.declared.UnitId.{UnitId}
use Rattle.sched_base.specs.declared.Moment.{Moment}
use Rattle.sched_base.specs.declared.Cores.{Cores}
use Rattle.sched_model.specs.declared.config.SchedKind.{SchedKind}
use Rattle.sched_model.specs.declared.config.SchedKind.TheVariants as kinds
use Rattle.sched_model.specs.declared.config.PoolParams.{PoolParams}
use Rattle.sched_model.specs.declared.config.PoolParams.TheVariants as pool_params
use Rattle.sched_model.specs.declared.config.DomParams.{DomParams}
use Rattle.sched_model.specs.declared.config.DomParams.TheVariants as dom_params
use Rattle.sched_model.specs.declared.config.ParamChange.{ParamChange}
use Rattle.sched_model.specs.declared.facts.Stored.{Stored}
use Rattle.sched_model.specs.declared.facts.Stored.TheVariants as stored
use Rattle.sched_model.specs.declared.config.ParamChange.TheVariants as changes
use Rattle.sched_model.specs.Places.{at_place, put_at, clear_at, change_at, change_item, has_listed_unit, is_unit, without_unit, same_unit}
use Rattle.sched_model.specs.State.{Scheduler, Records, Credit2Domain, RtdsUnit}
use Rattle.sched_model.specs.declared.state.Records.TheVariants.{Credit2Pool, RtdsPool, ArincPool, NullPool}
use Rattle.sched_model.specs.Arinc.{Window, current_window}
use Rattle.sched_model.specs.EligibleUnits.{Ask, Decision, is_unit_allowed, is_unit_eligible, rtds_unit_at}
use Rattle.sched_model.specs.Credit2 as credit2
use Rattle.sched_model.specs.Rtds as rtds
use Rattle.sched_model.specs.NullScheduler as null
use Rattle.sched_base.specs.CoreSets.{every_core}

-- the window's unit, where it goes on or waits
abbrev pub window_choice : Ask → Scheduler → Option UnitId → Option UnitId
window_choice ask scheduler None = None
window_choice ask scheduler (Some u) =
    (if (is_unit ask.cur u && ask.runnable) || (has_listed_unit scheduler.queue u && is_unit_eligible scheduler ask.home.0 ask.core.0 ask.at.0 u) then Some u else None)

-- the decision of an ARINC 653 pool: the window's choice, up to the window's end
abbrev pub arinc_decision : Ask → Scheduler → Option Window → Decision
arinc_decision ask scheduler None = record { unit = None; due = None; reset = 0; records = scheduler.records }
arinc_decision ask scheduler (Some window) = record { unit = window_choice ask scheduler window.unit; due = Some (moment window.until); reset = 0; records = scheduler.records }

-- the decision of the scheduler whose records these are
abbrev pub decision_by : Records → Ask → Scheduler → Decision
decision_by (Credit2Pool records) ask scheduler = credit2.credit2_decision ask scheduler records
decision_by (RtdsPool domains) ask scheduler = rtds.rtds_decision ask scheduler domains
decision_by (ArincPool records) ask scheduler = arinc_decision ask scheduler (if ask.leaving then None else current_window records ask.at.0)
decision_by (NullPool kept) ask scheduler = null.null_decision ask scheduler kept

-- the scheduler's decision for a core
abbrev pub decision_of : Ask → Scheduler → Decision
decision_of ask scheduler = decision_by scheduler.records ask scheduler

-- the scheduler after its decision: the chosen unit has left the queue
abbrev pub after_decision : Decision → Scheduler → Scheduler
after_decision decision scheduler =
    record scheduler { queue = elim decision.unit [ None ↦ scheduler.queue | Some u ↦ without_unit u scheduler.queue ]; records = decision.records }

-- whether an eligible unit is better than the core's own
abbrev pub is_unit_better : Records → UnitId → ℕ → ℕ → UnitId → Bool
is_unit_better (Credit2Pool records) cur since t u = credit2.has_more_credit records cur since t u
is_unit_better (RtdsPool domains) cur since t u = rtds.is_unit_before domains u cur
is_unit_better (ArincPool records) cur since t u = not (same_unit u cur)
is_unit_better (NullPool kept) cur since t u = false

-- whether the core is to decide anew: a unit waits for it while it has none, or its own is not allowed, or a better one waits
abbrev pub has_better_waiting : Option UnitId → ℕ → ℕ → ℕ → ℕ → Scheduler → Bool
has_better_waiting None since t core home scheduler = list_any (is_unit_eligible scheduler home core t) scheduler.queue
has_better_waiting (Some cur) since t core home scheduler =
    not (is_unit_allowed scheduler home core cur)
    || list_any (λ u. is_unit_eligible scheduler home core t u && is_unit_better scheduler.records cur since t u) scheduler.queue

-- the unit at the end of the queue
abbrev pub scheduler_with_queued : UnitId → Scheduler → Scheduler
scheduler_with_queued u scheduler = record scheduler { queue = scheduler.queue ++ u ∷ [] }

-- the domain's units out of the queue
abbrev pub scheduler_without_queued : ℕ → Scheduler → Scheduler
scheduler_without_queued d scheduler = record scheduler { queue = filter (λ u. not (u.dom.0 == d)) scheduler.queue }

-- which scheduler it is
abbrev pub records_kind : Records → SchedKind
records_kind (Credit2Pool records) = kinds.Credit2
records_kind (RtdsPool domains) = kinds.Rtds
records_kind (ArincPool records) = kinds.Arinc653
records_kind (NullPool kept) = kinds.Null

-- the records of a pool with these parameters and no domain, on a machine of so many domains and cores
abbrev pub empty_records : PoolParams → ℕ → ℕ → Records
empty_records (pool_params.Credit2 limit) domains cores = Credit2Pool (record { limit = limit; last_reset = None; domains = replicate domains None })
empty_records pool_params.Rtds domains cores = RtdsPool (replicate domains None)
empty_records (pool_params.Arinc653 frame) domains cores = ArincPool (record { frame = frame; installed = 0 })
empty_records pool_params.Null domains cores = NullPool (replicate cores None)

-- the parameters that a pool and a domain have where none are given
abbrev pub standard_pool_params : SchedKind → PoolParams
standard_pool_params kinds.Credit2 = pool_params.Credit2 1000
standard_pool_params kinds.Rtds = pool_params.Rtds
standard_pool_params kinds.Arinc653 = pool_params.Arinc653 None
standard_pool_params kinds.Null = pool_params.Null

-- the parameters of a domain that moves to a pool with these records
abbrev pub standard_dom_params : Records → DomParams
standard_dom_params (Credit2Pool records) = dom_params.Credit2 256 0
standard_dom_params (RtdsPool domains) = dom_params.Rtds (span 10000000) (span 4000000) true
standard_dom_params (ArincPool records) = dom_params.Arinc653
standard_dom_params (NullPool kept) = dom_params.Null

-- a scheduler keeps its records where it is given parameters of another one
abbrev pub joined_records : Records → DomParams → ℕ → ℕ → ℕ → Records
joined_records (Credit2Pool records) (dom_params.Credit2 weight cap) d count t =
    Credit2Pool (record records { domains = put_at d (credit2.fresh_credit2_domain weight cap count t) records.domains })
joined_records (RtdsPool domains) (dom_params.Rtds period budget extra) d count t = RtdsPool (put_at d (rtds.fresh_rtds_units period.0 budget.0 extra count t) domains)
joined_records records params d count t = records

-- the domain d, with so many units, joins at t
abbrev pub joined_scheduler : ℕ → ℕ → DomParams → ℕ → Scheduler → Scheduler
joined_scheduler d count params t scheduler =
    record scheduler { affinity = put_at d (replicate count every_core) scheduler.affinity; records = joined_records scheduler.records params d count t }

-- the records without the domain d
abbrev pub parted_records : Records → ℕ → Records
parted_records (Credit2Pool records) d = Credit2Pool (record records { domains = clear_at d records.domains })
parted_records (RtdsPool domains) d = RtdsPool (clear_at d domains)
parted_records (ArincPool records) d = ArincPool records
parted_records (NullPool kept) d = NullPool (null.kept_without (λ u. u.dom.0 == d) kept)

-- the domain parts
abbrev pub parted_scheduler : ℕ → Scheduler → Scheduler
parted_scheduler d scheduler = record scheduler { affinity = clear_at d scheduler.affinity; records = parted_records scheduler.records d }

-- whether the unit's deadline has come
abbrev pub is_replenish_due : Records → ℕ → UnitId → Bool
is_replenish_due (Credit2Pool records) t u = false
is_replenish_due (RtdsPool domains) t u = elim (rtds_unit_at domains u) [ None ↦ false | Some x ↦ nat_le x.deadline t ]
is_replenish_due (ArincPool records) t u = false
is_replenish_due (NullPool kept) t u = false

-- the moment of the domain's next refill
abbrev pub next_refill_moment : Records → ℕ → Option Moment
next_refill_moment (Credit2Pool records) d = elim (at_place records.domains d) [ None ↦ None | Some domain ↦ option_map moment domain.refill ]
next_refill_moment (RtdsPool domains) d = None
next_refill_moment (ArincPool records) d = None
next_refill_moment (NullPool kept) d = None

-- the records after the unit is replenished at t
abbrev pub records_after_replenish : Records → ℕ → UnitId → Records
records_after_replenish (Credit2Pool records) t u = Credit2Pool records
records_after_replenish (RtdsPool domains) t u = RtdsPool (rtds.change_unit u (rtds.unit_after_replenish t) domains)
records_after_replenish (ArincPool records) t u = ArincPool records
records_after_replenish (NullPool kept) t u = NullPool kept

-- the records after a refill of the domain at t
abbrev pub records_after_refill : Records → ℕ → ℕ → Records
records_after_refill (Credit2Pool records) t d = Credit2Pool (credit2.refilled_pool t d records)
records_after_refill (RtdsPool domains) t d = RtdsPool domains
records_after_refill (ArincPool records) t d = ArincPool records
records_after_refill (NullPool kept) t d = NullPool kept

-- the unit's RTDS record
abbrev pub unit_rtds_record : Records → UnitId → Option RtdsUnit
unit_rtds_record (Credit2Pool records) u = None
unit_rtds_record (RtdsPool domains) u = rtds_unit_at domains u
unit_rtds_record (ArincPool records) u = None
unit_rtds_record (NullPool kept) u = None

-- the domain's Credit2 record
abbrev pub domain_credit2_record : Records → ℕ → Option Credit2Domain
domain_credit2_record (Credit2Pool records) d = at_place records.domains d
domain_credit2_record (RtdsPool domains) d = None
domain_credit2_record (ArincPool records) d = None
domain_credit2_record (NullPool kept) d = None

-- the pool's rate limit, in microseconds
abbrev pub pool_rate_limit : Records → ℕ
pool_rate_limit (Credit2Pool records) = records.limit
pool_rate_limit (RtdsPool domains) = 0
pool_rate_limit (ArincPool records) = 0
pool_rate_limit (NullPool kept) = 0

-- the sets of cores of the domain's units, or of one of them, set
abbrev pub pinned_cores : Option ℕ → Cores → List Cores → List Cores
pinned_cores None cores units = map (λ old. cores) units
pinned_cores (Some n) cores units = change_item n (λ old. cores) units

-- the records after a change of parameters at t; a change for another scheduler changes nothing
abbrev pub changed_records : Records → ParamChange → ℕ → Records
changed_records (Credit2Pool records) (changes.Dom d weight cap) t = Credit2Pool (credit2.records_with_terms t d.0 weight cap records)
changed_records (Credit2Pool records) (changes.Rate limit) t = Credit2Pool (record records { limit = limit })
changed_records (RtdsPool domains) (changes.«Unit» u period budget extra) t =
    RtdsPool (rtds.change_unit u (λ x. record x { next_period = period.0; next_budget = budget.0; next_extra = extra }) domains)
changed_records (ArincPool records) (changes.Frame frame) t = ArincPool (record { frame = Some frame; installed = t })
changed_records records change t = records

-- the sets of cores after a change of parameters
abbrev pub changed_affinity : ParamChange → List (Option (List Cores)) → List (Option (List Cores))
changed_affinity (changes.Pin d unit cores) affinity = change_at d.0 (pinned_cores unit cores) affinity
changed_affinity _ affinity = affinity

-- the scheduler after a change of its parameters at t
abbrev pub changed_scheduler : ParamChange → ℕ → Scheduler → Scheduler
changed_scheduler change t scheduler =
    record scheduler { affinity = changed_affinity change scheduler.affinity; records = changed_records scheduler.records change t }

-- the set values of a unit; for RTDS the newest ones
abbrev pub unit_stored : Records → UnitId → Option Stored
unit_stored (Credit2Pool records) u = option_map (λ (x : Credit2Domain). stored.Credit2 x.weight x.cap) (domain_credit2_record (Credit2Pool records) u.dom.0)
unit_stored (RtdsPool domains) u = option_map (λ (x : RtdsUnit). stored.Rtds (span x.next_period) (span x.next_budget) x.next_extra) (unit_rtds_record (RtdsPool domains) u)
unit_stored (ArincPool records) u = Some stored.Arinc653
unit_stored (NullPool kept) u = Some stored.Null
