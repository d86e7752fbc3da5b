-- The timers of a scheduler: replenishments of RTDS units that wait or are on, and refills of Credit2 domains.
use Rattle.std.specs.Prelude.{ℕ, suc, ◌||◌, ◌&&◌, Bool, List, [], ◌∷◌, ◌++◌, Option, Some, None, is_some, nat_le, nat_lt, if◌then◌else◌}
use Rattle.sched_base.specs.Numbers.{moment, domain, has_moment_come}
use Rattle.sched_base.specs.declared.Moment.{Moment}
use Rattle.sched_base.specs.declared.UnitId.{UnitId}
use Rattle.sched_model.specs.declared.event.Event.{Event}
use Rattle.sched_model.specs.declared.state.Records.{Records}
use Rattle.sched_model.specs.declared.state.Records.TheVariants.{Credit2Pool, RtdsPool, ArincPool, NullPool}
use Rattle.sched_model.specs.declared.state.Scheduler.{Scheduler}
use Rattle.sched_model.specs.declared.state.Pool.{Pool}
use Rattle.sched_model.specs.declared.state.Credit2Domain.{Credit2Domain}
use Rattle.sched_model.specs.declared.state.RtdsUnit.{RtdsUnit}
use Rattle.sched_model.specs.Places.{numbered_items, has_listed_unit}
use Rattle.sched_model.specs.declared.action.Action.{Action}
use Rattle.sched_model.specs.declared.action.Action.TheVariants.{Repl as ReplAction, Refill as RefillAction}
use Rattle.sched_model.specs.Pool.{event_in}
use Rattle.sched_model.specs.Policy as policy
use Rattle.sched_ops.specs.Conditions.{is_on}
use Rattle.sched_ops.specs.declared.timer.Timer.{Timer}
use Rattle.sched_ops.specs.declared.timer.Timer.TheVariants.{Repl, Refill}

-- a moment, and what comes then
abbrev pub Armed : Type 0
Armed = Moment × Timer

-- the replenishments of a domain's units that wait or are on; the first unit has the index n
abbrev pub unit_timers : List UnitId → ℕ → ℕ → List RtdsUnit → List Armed
unit_timers queue d n [] = []
unit_timers queue d n (x ∷ units) =
    let u : UnitId = record { dom = domain d; n = n } in
    (if has_listed_unit queue u || is_some x.burned then (moment x.deadline, Repl u) ∷ unit_timers queue d (suc n) units else unit_timers queue d (suc n) units)

-- those of the units of all these domains
abbrev pub replenishments : List UnitId → List (ℕ × List RtdsUnit) → List Armed
replenishments queue [] = []
replenishments queue (e ∷ domains) = unit_timers queue e.0 0 e.1 ++ replenishments queue domains

-- the refills of these domains
abbrev pub refills : List (ℕ × Credit2Domain) → List Armed
refills [] = []
refills (e ∷ domains) = elim e.1.refill [ None ↦ refills domains | Some at ↦ (moment at, Refill (domain e.0)) ∷ refills domains ]

-- the timers of these records, where these units wait, in order of domain and unit
abbrev pub timers_in : List UnitId → Records → List Armed
timers_in queue (Credit2Pool records) = refills (numbered_items 0 records.domains)
timers_in queue (RtdsPool domains) = replenishments queue (numbered_items 0 domains)
timers_in queue (ArincPool records) = []
timers_in queue (NullPool kept) = []

-- the timers of a scheduler, in order of domain and unit
abbrev pub timers : Scheduler → List Armed
timers scheduler = timers_in scheduler.queue scheduler.records

-- the first timer whose moment has come
abbrev pub first_due_timer : ℕ → List Armed → Option Armed
first_due_timer t [] = None
first_due_timer t (x ∷ xs) = (if nat_le x.0.0 t then Some x else first_due_timer t xs)

-- the timer of the least moment: the best so far, or one of those that follow; among equals the earlier
abbrev pub soonest_timer : Option Armed → List Armed → Option Armed
soonest_timer best [] = best
soonest_timer None (x ∷ xs) = soonest_timer (Some x) xs
soonest_timer (Some best) (x ∷ xs) = soonest_timer (Some (if nat_lt x.0.0 best.0.0 then x else best)) xs

-- the first timer whose moment has come at t, or else the one of the least moment: of a list, and of a scheduler
abbrev pub next_armed : ℕ → List Armed → Option Armed
next_armed t timers = elim (first_due_timer t timers) [ Some x ↦ Some x | None ↦ soonest_timer None timers ]

abbrev pub next_scheduler_timer : ℕ → Scheduler → Option Armed
next_scheduler_timer t scheduler = next_armed t (timers scheduler)

-- whether the timer is one of the scheduler's, and its moment has come at t
abbrev pub is_due : ℕ → Scheduler → Timer → Bool
is_due t scheduler (Repl u) = (has_listed_unit scheduler.queue u || is_on scheduler.records u) && policy.is_replenish_due scheduler.records t u
is_due t scheduler (Refill d) = has_moment_come t (policy.next_refill_moment scheduler.records d.0)

-- the event of a timer
abbrev pub timer_action : Timer → Action
timer_action (Repl u) = ReplAction u
timer_action (Refill d) = RefillAction d

-- the pool that has this scheduler, and neither domains nor cores
abbrev pub pool_with : Scheduler → Pool
pool_with scheduler = record { scheduler = scheduler; domains = []; resources = [] }

-- the event of the timer at t, with its printed fields
abbrev pub timer_event : ℕ → Scheduler → Timer → Event
timer_event t scheduler timer = event_in 1 t (pool_with scheduler) (timer_action timer)

-- the records after the event of the timer at t
abbrev pub records_after : ℕ → Records → Timer → Records
records_after t records (Repl u) = policy.records_after_replenish records t u
records_after t records (Refill d) = policy.records_after_refill records t d.0

-- the scheduler after the event of the timer at t
abbrev pub after_timer : ℕ → Scheduler → Timer → Scheduler
after_timer t scheduler timer = record scheduler { records = records_after t scheduler.records timer }
