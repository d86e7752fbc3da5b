-- The events of one pool: when they may come, what they print, and the pool after them. g is the number of a core's processors, t the moment.
use Rattle.sched_base.specs.Numbers.{moment, span, processor, core, domain, core_set, pool as pool_number, has_moment_come}
use Rattle.std.specs.Prelude.{ℕ, ◌+◌, ◌-◌, ◌*◌, ◌/◌, ◌%◌, ◌^◌, ◌==◌, ◌&&◌, ◌||◌, suc, Bool, true, false, not, List, [], ◌∷◌, Option, Some, None, is_none, is_some, option_map, unwrap_or, slice_get, slice_index_or, length, if◌then◌else◌, min, pos, Ok}
use Rattle.std.specs.List.{list_any, list_all}
use Rattle.sched_base.specs.declared.UnitId.{UnitId}
pub use Rattle.sched_base.specs.Units.{no_unit}
use Rattle.sched_base.specs.declared.Moment.{Moment}
use Rattle.sched_base.specs.declared.VcpuId.{VcpuId}
use Rattle.sched_model.specs.declared.event.Event.{Event}
use Rattle.sched_model.specs.declared.event.Event.TheVariants as event
use Rattle.sched_model.specs.declared.event.Reply.TheVariants as reply
use Rattle.sched_model.specs.Places.{at_place, put_at, clear_at, change_at, change_each, change_item, numbered_items, first_place, test_at, numbers_from, is_unit, has_listed_unit, same_unit}
use Rattle.sched_model.specs.State.{Scheduler, Records, RtdsUnit, Credit2Domain, Pool, is_awake, may_unit_run, is_not_stalled}
use Rattle.sched_model.specs.declared.state.Doing.{Doing}
pub use Rattle.sched_model.specs.declared.action.Action.{Action}
use Rattle.sched_model.specs.declared.action.Action.TheVariants.{Stall, Xl, Moved, DomMoved, Wake, Block, Slice, Repl, Refill, Arrive, Decide, Leave, Save}
use Rattle.sched_model.specs.declared.state.Processor.{Processor}
use Rattle.sched_model.specs.declared.state.Resource.{Resource}
use Rattle.sched_model.specs.declared.state.Vcpu.{Vcpu}
use Rattle.sched_model.specs.declared.state.Domain.{Domain}
use Rattle.sched_model.specs.declared.state.Doing.TheVariants.{Guest, Idle, Held}
use Rattle.sched_model.specs.declared.state.Stage.TheVariants.{Open, Decided}
use Rattle.sched_model.specs.declared.config.DomParams.{DomParams}
use Rattle.sched_model.specs.declared.config.ParamChange.{ParamChange}
use Rattle.sched_model.specs.declared.config.ParamChange.TheVariants as changes
use Rattle.sched_model.specs.Credit2.{passed_periods}
use Rattle.sched_model.specs.EligibleUnits.{Ask, Decision}
use Rattle.sched_model.specs.Policy as policy
use Rattle.sched_model.specs.Policy.{decision_of, after_decision, has_better_waiting, scheduler_with_queued, unit_rtds_record, domain_credit2_record}

-- the set of these cores, of which the first has the number r
abbrev pub cores_from : ℕ → List (Option Resource) → ℕ
cores_from r [] = 0
cores_from r (c ∷ cores) = (if is_some c then 2 ^ r else 0) + cores_from (suc r) cores

-- the set of the pool's cores
abbrev pub pool_core_set : Pool → ℕ
pool_core_set pool = cores_from 0 pool.resources

-- whether the processor waits for its siblings
abbrev pub is_held_back : Processor → Bool
is_held_back p = elim p.doing [ Guest v ↦ false | Idle ↦ false | Held ↦ true ]

-- whether the processor idles
abbrev pub is_idling : Processor → Bool
is_idling p = elim p.doing [ Guest v ↦ false | Idle ↦ true | Held ↦ false ]

-- whether the core's siblings still gather
abbrev pub is_gathering : Resource → Bool
is_gathering c = elim c.stage [ Open ↦ true | Decided ↦ false ]

-- whether the core's first processor is up
abbrev pub is_first_processor_up : ℕ → Resource → Bool
is_first_processor_up t c = elim c.processors [ [] ↦ false | p ∷ ps ↦ is_not_stalled t p ]

-- whether the pool's lowest processor is up
abbrev pub is_lowest_processor_up : ℕ → Pool → Bool
is_lowest_processor_up t pool = elim (first_place 0 (λ c. true) pool.resources) [ None ↦ false | Some r ↦ test_at pool.resources r (is_first_processor_up t) ]

-- the processor with this number
abbrev pub pool_processor : ℕ → Pool → ℕ → Option Processor
pool_processor g pool p = elim (at_place pool.resources (p / g)) [ None ↦ None | Some c ↦ slice_get c.processors (p % g) ]

-- the vCPU, where these are the domains; the vCPU of the pool
abbrev pub vcpu_among : List (Option Domain) → VcpuId → Option Vcpu
vcpu_among domains v = elim (at_place domains v.dom.0) [ None ↦ None | Some d ↦ slice_get d.vcpus v.n ]

abbrev pub pool_vcpu : Pool → VcpuId → Option Vcpu
pool_vcpu pool v = vcpu_among pool.domains v

-- the vCPU that the processor runs
abbrev pub running_guest : ℕ → Pool → ℕ → Option VcpuId
running_guest g pool p = elim (pool_processor g pool p) [ None ↦ None | Some q ↦ elim q.doing [ Guest v ↦ Some v | Idle ↦ None | Held ↦ None ] ]

-- the moment at which the vCPU's work is done, where it is run and its work has an end
abbrev pub done_moment : Vcpu → Option Moment
done_moment v = elim v.started [ None ↦ None | Some from ↦ elim v.work_left [ None ↦ None | Some work ↦ Some (moment (from.0 + work.0)) ] ]

-- whether the unit is one of the domain
abbrev pub is_domain_unit : ℕ → Option UnitId → Bool
is_domain_unit d None = false
is_domain_unit d (Some u) = u.dom.0 == d

-- the core that has the unit as its cur
abbrev pub unit_core : Pool → UnitId → Option ℕ
unit_core pool u = first_place 0 (λ c. is_unit c.cur u) pool.resources

-- whether the unit is in no queue, no cur and no saving
abbrev pub is_unit_off : Pool → UnitId → Bool
is_unit_off pool u = not (has_listed_unit pool.scheduler.queue u) && not (list_any (λ e. is_unit e.1.cur u || is_unit e.1.saving u) (numbered_items 0 pool.resources))

-- whether an event of this pool may come at t
abbrev pub enabled_in : ℕ → ℕ → Pool → Action → Bool
enabled_in g t pool Stall = false
enabled_in g t pool Xl = false
enabled_in g t pool (Moved r) = test_at pool.resources r.0 (λ c. c.leaving && is_none c.cur && is_none c.saving && not c.pending && is_gathering c && is_first_processor_up t c)
enabled_in g t pool (DomMoved d) =
    test_at pool.domains d.0 (λ domain. is_some domain.moving)
    && not (list_any (λ e. is_domain_unit d.0 e.1.cur || is_domain_unit d.0 e.1.saving) (numbered_items 0 pool.resources))
enabled_in g t pool (Wake v) = elim (pool_vcpu pool v) [ None ↦ false | Some x ↦ has_moment_come t x.asleep_until ]
enabled_in g t pool (Block p) =
    elim (running_guest g pool p.0) [
      | None ↦ false
      | Some v ↦ elim (pool_vcpu pool v) [ None ↦ false | Some x ↦ has_moment_come t (done_moment x) ]
    ] && elim (pool_processor g pool p.0) [ None ↦ false | Some q ↦ is_not_stalled t q ]
enabled_in g t pool (Slice r) = test_at pool.resources r.0 (λ c. has_moment_come t c.due && not c.pending && is_first_processor_up t c)
enabled_in g t pool (Repl u) = (has_listed_unit pool.scheduler.queue u || is_some (unit_core pool u)) && policy.is_replenish_due pool.scheduler.records t u && is_lowest_processor_up t pool
enabled_in g t pool (Refill d) = has_moment_come t (policy.next_refill_moment pool.scheduler.records d.0) && is_lowest_processor_up t pool
enabled_in g t pool (Arrive p) =
    test_at pool.resources (p.0 / g) (λ c. c.pending && is_gathering c && is_none c.saving)
    && elim (pool_processor g pool p.0) [ None ↦ false | Some q ↦ not (is_held_back q) && is_not_stalled t q ]
enabled_in g t pool (Decide r) = test_at pool.resources r.0 (λ c. list_all is_held_back c.processors && is_gathering c && is_first_processor_up t c)
enabled_in g t pool (Leave p) =
    test_at pool.resources (p.0 / g) (λ c. not (is_gathering c))
    && elim (pool_processor g pool p.0) [ None ↦ false | Some q ↦ is_held_back q && is_not_stalled t q ]
enabled_in g t pool (Save r) = test_at pool.resources r.0 (λ c. is_some c.saving && not (list_any is_held_back c.processors) && is_first_processor_up t c)

-- the core changed by f
abbrev pub change_core : ℕ → (Resource → Resource) → Pool → Pool
change_core r f pool = record pool { resources = change_at r f pool.resources }

-- the processor changed by f
abbrev pub change_processor : ℕ → ℕ → (Processor → Processor) → Pool → Pool
change_processor g p f pool = change_core (p / g) (λ c. record c { processors = change_item (p % g) f c.processors }) pool

-- the vCPU changed by f
abbrev pub change_among : VcpuId → (Vcpu → Vcpu) → List (Option Domain) → List (Option Domain)
change_among v f domains = change_at v.dom.0 (λ d. record d { vcpus = change_item v.n f d.vcpus }) domains

abbrev pub change_vcpu : VcpuId → (Vcpu → Vcpu) → Pool → Pool
change_vcpu v f pool = record pool { domains = change_among v f pool.domains }

-- the unit at the end of the queue
abbrev pub queue_unit : UnitId → Pool → Pool
queue_unit u pool = record pool { scheduler = scheduler_with_queued u pool.scheduler }

-- the processor does this
abbrev pub with_doing : Doing → Processor → Processor
with_doing doing p = record p { doing = doing }

-- awake, with the next run of the script as work left
abbrev pub woken_vcpu : Vcpu → Vcpu
woken_vcpu v =
    let next = (v.place + 1) % length v.script in
    record v { place = next; asleep_until = None; work_left = slice_get v.script next }

-- asleep from t for the next span of the script
abbrev pub put_to_sleep : ℕ → Vcpu → Vcpu
put_to_sleep t v = record v { place = v.place + 1; asleep_until = Some (moment (t + (slice_index_or v.script (v.place + 1) (span 0)).0)); work_left = Some (span 0); started = None }

-- stopped at t, with the work left less what was done since it was started
abbrev pub stopped_vcpu : ℕ → Vcpu → Vcpu
stopped_vcpu t v =
    elim v.started [
      | None ↦ v
      | Some from ↦ record v { work_left = option_map (λ work. span (work.0 - (t - from.0))) v.work_left; started = None }
    ]

-- the processor runs the vCPU from t
abbrev pub started_on : ℕ → ℕ → ℕ → VcpuId → Pool → Pool
started_on g t p v pool = change_processor g p (with_doing (Guest v)) (change_vcpu v (λ x. record x { started = Some (moment t) }) pool)

-- the unit of a vCPU
abbrev pub vcpu_unit : ℕ → VcpuId → UnitId
vcpu_unit g v = record { dom = v.dom; n = v.n / g }

-- the vCPU of the core's cur that belongs on the core's i-th processor, where cur is runnable and that vCPU is there and awake
abbrev pub vcpu_to_run : ℕ → Pool → Resource → ℕ → Option VcpuId
vcpu_to_run g pool c i =
    elim c.cur [
      | None ↦ None
      | Some u ↦
          let v : VcpuId = record { dom = u.dom; n = u.n * g + i } in
          elim (pool_vcpu pool v) [
            | None ↦ None
            | Some x ↦ (if may_unit_run g pool u && is_awake x then Some v else None)
          ]
    ]

-- what the core asks its scheduler
abbrev pub core_ask : ℕ → ℕ → Pool → ℕ → Resource → Ask
core_ask g t pool r c =
    record {
      cur = c.cur;
      runnable = elim c.cur [ None ↦ false | Some u ↦ may_unit_run g pool u ];
      since = c.since;
      leaving = c.leaving;
      at = moment t;
      core = core r;
      home = core_set (pool_core_set pool);
    }

-- whether the choice is the unit that is there
abbrev pub same_choice : Option UnitId → Option UnitId → Bool
same_choice None None = true
same_choice None (Some u) = false
same_choice (Some u) None = false
same_choice (Some u) (Some w) = same_unit u w

-- how much later than its due the core decides
abbrev pub lateness : ℕ → Resource → ℕ
lateness t c = elim c.due [ None ↦ 0 | Some due ↦ t - due.0 ]

-- the core with what was decided
abbrev pub decided_core : ℕ → Decision → Resource → Resource
decided_core t decision c =
    elim (same_choice decision.unit c.cur) [
      | true ↦ record c { due = decision.due; pending = false; stage = Decided }
      | false ↦ record c { saving = c.cur; cur = decision.unit; since = moment t; due = decision.due; pending = false; stage = Decided }
    ]

-- the stage is open again once nobody is held
abbrev pub reopened_core : Resource → Resource
reopened_core c = (if list_any is_held_back c.processors then c else record c { stage = Open })

-- the vCPU started on its own processor, where its unit is cur of a core and that processor idles
abbrev pub joined_siblings : ℕ → ℕ → VcpuId → Pool → Pool
joined_siblings g t v pool =
    elim (unit_core pool (vcpu_unit g v)) [
      | None ↦ pool
      | Some r ↦ elim (pool_processor g pool (r * g + v.n % g)) [
        | None ↦ pool
        | Some q ↦ (if is_idling q then started_on g t (r * g + v.n % g) v pool else pool)
      ]
    ]

-- the pool after a wake
abbrev pub after_wake : ℕ → ℕ → VcpuId → Pool → Pool
after_wake g t v pool =
    let next : Pool = change_vcpu v woken_vcpu pool in
    elim (may_unit_run g next (vcpu_unit g v)) [
      | false ↦ next
      | true ↦ (if is_unit_off next (vcpu_unit g v) then queue_unit (vcpu_unit g v) next else joined_siblings g t v next)
    ]

-- the pool after a block of the vCPU on the processor
abbrev pub after_block : ℕ → ℕ → ℕ → VcpuId → Pool → Pool
after_block g t p v pool =
    let next : Pool = change_processor g p (with_doing Idle) (change_vcpu v (put_to_sleep t) pool) in
    (if may_unit_run g next (vcpu_unit g v) then next else change_core (p / g) (λ c. record c { pending = true }) next)

-- the pool after the processor arrives
abbrev pub after_arrive : ℕ → ℕ → ℕ → Pool → Pool
after_arrive g t p pool =
    change_processor g p (with_doing Held) (elim (running_guest g pool p) [ None ↦ pool | Some v ↦ change_vcpu v (stopped_vcpu t) pool ])

-- the pool after the core decides
abbrev pub after_decide : ℕ → ℕ → ℕ → Resource → Pool → Pool
after_decide g t r c pool =
    let decision : Decision = decision_of (core_ask g t pool r c) pool.scheduler in
    record pool { scheduler = after_decision decision pool.scheduler; resources = put_at r (decided_core t decision c) pool.resources }

-- the pool after the processor leaves
abbrev pub after_leave : ℕ → ℕ → ℕ → Resource → Pool → Pool
after_leave g t p c pool =
    change_core (p / g) reopened_core (elim (vcpu_to_run g pool c (p % g)) [
      | None ↦ change_processor g p (with_doing Idle) pool
      | Some v ↦ started_on g t p v pool
    ])

-- the core saves nothing any more
abbrev pub saved_core : Resource → Resource
saved_core c = record c { saving = None }

-- the pool after the saved unit is put away
abbrev pub after_save : ℕ → ℕ → UnitId → Pool → Pool
after_save g r u pool =
    let next : Pool = change_core r saved_core pool in
    (if may_unit_run g pool u then queue_unit u next else next)

-- the pool with these records of its scheduler
abbrev pub with_records : Records → Pool → Pool
with_records records pool = record pool { scheduler = record pool.scheduler { records = records } }

-- the core asks again after the budget at the latest
abbrev pub due_within : ℕ → ℕ → Resource → Resource
due_within t budget c = record c { due = option_map (λ due. moment (min (t + budget) due.0)) c.due }

-- the pool after the unit is replenished; a core that runs it asks again when the new budget is used up, if not before
abbrev pub after_replenish : ℕ → UnitId → Pool → Pool
after_replenish t u pool =
    let next : Pool = with_records (policy.records_after_replenish pool.scheduler.records t u) pool in
    elim (unit_core pool u) [
      | None ↦ next
      | Some r ↦ elim (unit_rtds_record next.scheduler.records u) [ None ↦ next | Some x ↦ change_core r (due_within t x.budget) next ]
    ]

-- the pool after an event of it, before the cores that are to decide anew are marked
abbrev pub after_in : ℕ → ℕ → Pool → Action → Pool
after_in g t pool Stall = pool
after_in g t pool Xl = pool
after_in g t pool (Moved r) = pool
after_in g t pool (DomMoved d) = pool
after_in g t pool (Wake v) = after_wake g t v pool
after_in g t pool (Block p) = elim (running_guest g pool p.0) [ None ↦ pool | Some v ↦ after_block g t p.0 v pool ]
after_in g t pool (Slice r) = change_core r.0 (λ c. record c { pending = true }) pool
after_in g t pool (Repl u) = after_replenish t u pool
after_in g t pool (Refill d) = with_records (policy.records_after_refill pool.scheduler.records t d.0) pool
after_in g t pool (Arrive p) = after_arrive g t p.0 pool
after_in g t pool (Decide r) = elim (at_place pool.resources r.0) [ None ↦ pool | Some c ↦ after_decide g t r.0 c pool ]
after_in g t pool (Leave p) = elim (at_place pool.resources (p.0 / g)) [ None ↦ pool | Some c ↦ after_leave g t p.0 c pool ]
after_in g t pool (Save r) = elim (at_place pool.resources r.0) [ None ↦ pool | Some c ↦ elim c.saving [ None ↦ pool | Some u ↦ after_save g r.0 u pool ] ]

-- stands where there is no vCPU to name
abbrev pub absent_vcpu : VcpuId
absent_vcpu = record { dom = domain 0; n = 0 }

-- the RTDS record of the unit after its replenishment
abbrev pub replenished_unit : ℕ → UnitId → Pool → Option RtdsUnit
replenished_unit t u pool = unit_rtds_record (policy.records_after_replenish pool.scheduler.records t u) u

-- the Credit2 record of the domain after its refill
abbrev pub refilled_domain : ℕ → ℕ → Pool → Option Credit2Domain
refilled_domain t d pool = domain_credit2_record (policy.records_after_refill pool.scheduler.records t d) d

-- what the core decides
abbrev pub decision_at : ℕ → ℕ → Pool → ℕ → Decision
decision_at g t pool r =
    elim (at_place pool.resources r) [
      | None ↦ record { unit = None; due = None; reset = 0; records = pool.scheduler.records }
      | Some c ↦ decision_of (core_ask g t pool r c) pool.scheduler
    ]

-- the unit that the core is saving, where these are the cores
abbrev pub saving_among : List (Option Resource) → ℕ → Option UnitId
saving_among cores r = elim (at_place cores r) [ None ↦ None | Some c ↦ c.saving ]

-- the unit that the core saves
abbrev pub saved_at : Pool → ℕ → UnitId
saved_at pool r = unwrap_or (saving_among pool.resources r) no_unit

-- the vCPU that the processor takes when it leaves
abbrev pub taken_at : ℕ → Pool → ℕ → Option VcpuId
taken_at g pool p = elim (at_place pool.resources (p / g)) [ None ↦ None | Some c ↦ vcpu_to_run g pool c (p % g) ]

-- an event of this pool, with its printed fields
abbrev pub event_in : ℕ → ℕ → Pool → Action → Event
event_in g t pool Stall = event.Stall (processor 0) (moment 0)
event_in g t pool Xl = event.Xl 0 (Ok reply.Done)
event_in g t pool (Moved r) = event.Moved (core r.0) None
event_in g t pool (DomMoved d) = event.DomMoved (domain d.0) (elim (at_place pool.domains d.0) [ None ↦ pool_number 0 | Some x ↦ unwrap_or x.moving (pool_number 0) ])
event_in g t pool (Wake v) = event.Wake v
event_in g t pool (Block p) = event.Block (processor p.0) (unwrap_or (running_guest g pool p.0) absent_vcpu)
event_in g t pool (Slice r) = event.Slice (core r.0)
event_in g t pool (Repl u) =
    event.Repl u
    (elim (replenished_unit t u pool) [ None ↦ moment 0 | Some x ↦ moment (x.deadline - x.period) ])
    (elim (replenished_unit t u pool) [ None ↦ moment 0 | Some x ↦ moment x.deadline ])
    (elim (replenished_unit t u pool) [ None ↦ span 0 | Some x ↦ span x.budget ])
    (elim (replenished_unit t u pool) [ None ↦ false | Some x ↦ x.extra ])
event_in g t pool (Refill d) =
    event.Refill (domain d.0)
    (elim (domain_credit2_record pool.scheduler.records d.0) [ None ↦ 0 | Some x ↦ passed_periods x t ])
    (elim (refilled_domain t d.0 pool) [ None ↦ pos 0 | Some x ↦ x.budget ])
event_in g t pool (Arrive p) = event.Arrive (processor p.0)
event_in g t pool (Decide r) =
    event.Decide (core r.0) (decision_at g t pool r.0).unit (decision_at g t pool r.0).due
    (elim (at_place pool.resources r.0) [ None ↦ span 0 | Some c ↦ span (lateness t c) ])
    (decision_at g t pool r.0).reset
event_in g t pool (Leave p) = event.Leave (processor p.0) (taken_at g pool p.0)
event_in g t pool (Save r) = event.Save (core r.0) (saved_at pool r.0) (may_unit_run g pool (saved_at pool r.0))

-- the core is pending where it is not leaving and is to decide anew
abbrev pub reconsidered_core : ℕ → ℕ → Scheduler → ℕ → Resource → Resource
reconsidered_core t home scheduler r c = (if c.leaving then c else record c { pending = c.pending || has_better_waiting c.cur c.since.0 t r home scheduler })

-- each core of the pool, looked at after an event
abbrev pub settled_pool : ℕ → Pool → Pool
settled_pool t pool = record pool { resources = change_each 0 (reconsidered_core t (pool_core_set pool) pool.scheduler) pool.resources }

-- how many units of g vCPUs a domain has
abbrev pub domain_unit_count : ℕ → Domain → ℕ
domain_unit_count g d = (length d.vcpus + g - 1) / g

-- the unit joins the queue where it is runnable and off
abbrev pub pool_with_queued_if_off : ℕ → UnitId → Pool → Pool
pool_with_queued_if_off g u pool = (if may_unit_run g pool u && is_unit_off pool u then queue_unit u pool else pool)

-- the same of the domain's units with these indices, one after another
abbrev pub pool_with_queued_units : ℕ → ℕ → List ℕ → Pool → Pool
pool_with_queued_units g d [] pool = pool
pool_with_queued_units g d (n ∷ ns) pool = pool_with_queued_units g d ns (pool_with_queued_if_off g (record { dom = domain d; n = n }) pool)

-- the domain joins the pool at t
abbrev pub pool_with_domain : ℕ → ℕ → ℕ → Domain → DomParams → Pool → Pool
pool_with_domain g t d joining params pool =
    let count = domain_unit_count g joining in
    pool_with_queued_units g d (numbers_from 0 count) (record pool { domains = put_at d joining pool.domains; scheduler = policy.joined_scheduler d count params t pool.scheduler })

-- the domain parts from the pool
abbrev pub pool_without_domain : ℕ → Pool → Pool
pool_without_domain d pool = record pool { domains = clear_at d pool.domains; scheduler = policy.parted_scheduler d pool.scheduler }

-- each core that runs a unit of the domain changed by f
abbrev pub change_cores_of : ℕ → (Resource → Resource) → Pool → Pool
change_cores_of d f pool = record pool { resources = change_each 0 (λ r c. (if is_domain_unit d c.cur then f c else c)) pool.resources }

-- the core is to decide anew
abbrev pub pending_core : Resource → Resource
pending_core c = record c { pending = true }

-- the domain's units stop waiting, and the cores that run one are to decide anew
abbrev pub withdrawn_pool : ℕ → Pool → Pool
withdrawn_pool d pool = change_cores_of d pending_core (record pool { scheduler = policy.scheduler_without_queued d pool.scheduler })

-- the domain changed by f
abbrev pub change_domain : ℕ → (Domain → Domain) → Pool → Pool
change_domain d f pool = record pool { domains = change_at d f pool.domains }

-- the domain is paused: its units stop waiting
abbrev pub paused_pool : ℕ → Pool → Pool
paused_pool d pool = (if test_at pool.domains d (λ domain. domain.paused) then pool else withdrawn_pool d (change_domain d (λ domain. record domain { paused = true }) pool))

-- the domain is no longer paused, and its units that may run wait
abbrev pub unpaused_pool : ℕ → ℕ → Pool → Pool
unpaused_pool g d pool =
    elim (at_place pool.domains d) [
      | None ↦ pool
      | Some domain ↦ (if domain.paused then pool_with_queued_units g d (numbers_from 0 (domain_unit_count g domain)) (change_domain d (λ x. record x { paused = false }) pool) else pool)
    ]

-- the domain is moving to the pool i
abbrev pub pool_with_moving : ℕ → ℕ → Pool → Pool
pool_with_moving d i pool = withdrawn_pool d (change_domain d (λ domain. record domain { moving = Some (pool_number i) }) pool)

-- the core is leaving; it is to decide where it has a unit
abbrev pub pool_with_leaving : ℕ → Pool → Pool
pool_with_leaving r pool = change_core r (λ c. record c { leaving = true; pending = c.pending || is_some c.cur }) pool

-- the cores that a change of parameters makes decide anew: those that run a unit of a domain whose cap is set, and that of a new frame
abbrev pub marked_pool : ParamChange → ℕ → Pool → Pool
marked_pool (changes.Dom d weight (Some cap)) t pool = change_cores_of d.0 (λ c. record c { pending = true; due = Some (moment t) }) pool
marked_pool (changes.Frame frame) t pool = record pool { resources = change_each 0 (λ r c. pending_core c) pool.resources }
marked_pool _ t pool = pool

-- the scheduler's parameters changed at t
abbrev pub changed_pool : ParamChange → ℕ → Pool → Pool
changed_pool change t pool = marked_pool change t (record pool { scheduler = policy.changed_scheduler change t pool.scheduler })
