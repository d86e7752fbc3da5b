-- The whole machine: what may happen, what follows, and its runs.
use Rattle.sched_base.specs.Numbers.{moment, processor as processor_number, core as core_number, pool as pool_number}
use Rattle.std.specs.Prelude.{ℕ, zero, suc, ◌+◌, ◌/◌, ◌%◌, ◌&&◌, ◌||◌, Bool, true, false, not, List, [], ◌∷◌, ◌++◌, Option, Some, None, Result, Ok, Err, is_some, option_map, unwrap_or, slice_get, filter, map, find, max, if◌then◌else◌, nat_lt, nat_le, filter_map}
use Rattle.std.specs.List.{list_any}
use Rattle.sched_base.specs.declared.Moment.{Moment}
use Rattle.sched_model.specs.declared.work.StallLine.{StallLine}
use Rattle.sched_model.specs.declared.work.CommandLine.{CommandLine}
use Rattle.sched_model.specs.declared.plan.Plan.{Plan}
use Rattle.sched_model.specs.declared.event.Refusal.{Refusal}
use Rattle.sched_model.specs.declared.event.Refusal.TheVariants as refusal
use Rattle.sched_model.specs.declared.event.Event.{Event}
use Rattle.sched_model.specs.declared.event.Event.TheVariants as event
use Rattle.sched_model.specs.declared.event.Entry.{Entry}
use Rattle.sched_model.specs.Places.{at_place, put_at, clear_at, change_at, change_item, numbered_items, test_at, least_number}
use Rattle.sched_model.specs.State.{Credit2Domain, Machine, FreeCore, Records, RtdsUnit, Pool, State}
use Rattle.sched_model.specs.declared.state.Resource.{Resource}
use Rattle.sched_model.specs.declared.state.Vcpu.{Vcpu}
use Rattle.sched_model.specs.declared.state.Domain.{Domain}
use Rattle.sched_model.specs.declared.state.Records.TheVariants.{Credit2Pool, RtdsPool, ArincPool, NullPool}
use Rattle.sched_model.specs.declared.event.Reply.{Reply}
use Rattle.sched_model.specs.declared.event.Reply.TheVariants as reply
use Rattle.sched_model.specs.Opening.{joined_core, absent_pool}
use Rattle.sched_model.specs.Policy.{standard_dom_params}
use Rattle.sched_model.specs.Pool.{Action, enabled_in, after_in, event_in, settled_pool, done_moment, change_processor, pool_with_domain, pool_without_domain}
use Rattle.sched_model.specs.declared.action.Action.TheVariants.{Stall, Xl, Moved, DomMoved}
use Rattle.sched_model.specs.Actions.{home_pool_of_core, home_pool_of_domain, home_pool_of_action, candidates, change_pool}
use Rattle.sched_model.specs.Commands.{judged_command, plan_reply, plan_pool, carried_out}

-- whether a core or a domain is on its way to another pool
abbrev pub has_move_under_way : State → Bool
has_move_under_way s =
    list_any (λ e. list_any (λ c. c.1.leaving) (numbered_items 0 e.1.resources) || list_any (λ d. is_some d.1.moving) (numbered_items 0 e.1.domains)) (numbered_items 0 s.pools)
    || list_any (λ e. is_some e.1.target) (numbered_items 0 s.free)

-- whether a core of no pool is leaving, and its first processor is up
abbrev pub is_free_core_ready : ℕ → FreeCore → Bool
is_free_core_ready t c = is_some c.target && elim c.stall_ends [ [] ↦ false | end ∷ ends ↦ nat_le end.0 t ]

-- whether the action may come at t, by the pool of its subject
abbrev pub enabled_at_home : Machine → State → ℕ → Action → Bool
enabled_at_home m s t action =
    elim (home_pool_of_action m.config.granularity s action) [ None ↦ false | Some i ↦ test_at s.pools i (λ pool. enabled_in m.config.granularity t pool action) ]

-- whether the action may come at t
abbrev pub is_action_enabled : Machine → State → ℕ → Action → Bool
is_action_enabled m s t Stall = elim (slice_get m.work.stalls s.next_stall) [ None ↦ false | Some line ↦ nat_le line.at.0 t ]
is_action_enabled m s t Xl = elim (slice_get m.work.commands s.next_command) [ None ↦ false | Some line ↦ nat_le line.at.0 t && not (has_move_under_way s) ]
is_action_enabled m s t (Moved r) = test_at s.free r.0 (is_free_core_ready t) || enabled_at_home m s t (Moved r)
is_action_enabled m s t action = enabled_at_home m s t action

-- the first action that may come at t
abbrev pub first_enabled_action : Machine → State → ℕ → Option Action
first_enabled_action m s t = find (is_action_enabled m s t) (candidates m.config)

-- the lists that f makes of the elements, joined
abbrev pub joined_lists : {X Y : Type 0} → (X → List Y) → List X → List Y
joined_lists f [] = []
joined_lists f (x ∷ xs) = f x ++ joined_lists f xs

abbrev pub some_of : List (Option Moment) → List ℕ
some_of moments = filter_map (option_map (λ (at : Moment). at.0)) moments

-- the moments that a core names
abbrev pub core_moments : Resource → List ℕ
core_moments c = some_of (c.due ∷ []) ++ map (λ p. p.stall_end.0) c.processors

-- the moments that a vCPU names
abbrev pub vcpu_moments : Vcpu → List ℕ
vcpu_moments v = some_of (v.asleep_until ∷ done_moment v ∷ [])

-- the moments that a scheduler names
abbrev pub records_moments : Records → List ℕ
records_moments (Credit2Pool records) = filter_map (λ (e : ℕ × Credit2Domain). e.1.refill) (numbered_items 0 records.domains)
records_moments (RtdsPool domains) = joined_lists (λ e. map (λ (x : RtdsUnit). x.deadline) e.1) (numbered_items 0 domains)
records_moments (ArincPool records) = []
records_moments (NullPool kept) = []

-- the moments that a pool names
abbrev pub pool_moments : Pool → List ℕ
pool_moments pool =
    joined_lists (λ e. core_moments e.1) (numbered_items 0 pool.resources)
    ++ joined_lists (λ e. joined_lists vcpu_moments e.1.vcpus) (numbered_items 0 pool.domains)
    ++ records_moments pool.scheduler.records

-- the moments that the whole state names
abbrev pub moments : Machine → State → List ℕ
moments m s =
    joined_lists (λ e. pool_moments e.1) (numbered_items 0 s.pools)
    ++ joined_lists (λ e. map (λ (end : Moment). end.0) e.1.stall_ends) (numbered_items 0 s.free)
    ++ some_of (option_map (λ line. line.at) (slice_get m.work.stalls s.next_stall) ∷ option_map (λ line. line.at) (slice_get m.work.commands s.next_command) ∷ [])

-- the least moment after t at which something may happen
abbrev pub least_later_moment : Machine → State → ℕ → Option ℕ
least_later_moment m s t = least_number (filter (λ later. nat_lt t later && is_some (first_enabled_action m s later)) (moments m s))

-- what f makes of the core r of the pool i, and the other value where there is none
abbrev pub of_core : {A : Type 0} → State → ℕ → ℕ → A → (Resource → A) → A
of_core s i r other f = elim (at_place s.pools i) [ None ↦ other | Some pool ↦ elim (at_place pool.resources r) [ None ↦ other | Some c ↦ f c ] ]

-- what f makes of the domain d of the pool i, and the other value where there is none
abbrev pub of_domain : {A : Type 0} → State → ℕ → ℕ → A → (Domain → A) → A
of_domain s i d other f = elim (at_place s.pools i) [ None ↦ other | Some pool ↦ elim (at_place pool.domains d) [ None ↦ other | Some domain ↦ f domain ] ]

-- the later of the two ends of a stall of the processor
abbrev pub later_stall_end : ℕ → State → ℕ → ℕ → ℕ
later_stall_end g s p end =
    elim (home_pool_of_core s (p / g)) [
      | None ↦ elim (at_place s.free (p / g)) [ None ↦ end | Some c ↦ elim (slice_get c.stall_ends (p % g)) [ None ↦ end | Some old ↦ max old.0 end ] ]
      | Some i ↦ of_core s i (p / g) end (λ c. elim (slice_get c.processors (p % g)) [ None ↦ end | Some q ↦ max q.stall_end.0 end ])
    ]

-- the processor stalls up to a moment
abbrev pub state_with_stall : ℕ → ℕ → ℕ → State → State
state_with_stall g p end s =
    elim (home_pool_of_core s (p / g)) [
      | None ↦ record s { free = change_at (p / g) (λ (c : FreeCore). record c { stall_ends = change_item (p % g) (λ old. moment end) c.stall_ends }) s.free }
      | Some i ↦ change_pool i (change_processor g p (λ q. record q { stall_end = moment end })) s
    ]

-- the state after a stall
abbrev pub after_stall : ℕ → ℕ → StallLine → State → State
after_stall g t line s = record (state_with_stall g line.cpu.0 (later_stall_end g s line.cpu.0 (t + line.span.0)) s) { next_stall = suc s.next_stall }

-- what is answered to a line with a command
abbrev pub line_verdict : Machine → State → CommandLine → Result Plan Refusal
line_verdict m s line = elim line.command [ Err fault ↦ Err (refusal.Syntax fault.place) | Ok command ↦ judged_command m s command ]

-- the cores of the pool looked at, where there is one
abbrev pub settled_at : ℕ → Option ℕ → State → State
settled_at t None s = s
settled_at t (Some i) s = change_pool i (settled_pool t) s

-- the state after a line with a command
abbrev pub after_command : Machine → ℕ → CommandLine → State → State
after_command m t line s =
    let next : State = record s { next_command = suc s.next_command } in
    elim (line_verdict m s line) [ Err fault ↦ next | Ok plan ↦ settled_at t (plan_pool s plan) (carried_out m t plan next) ]

-- what is printed of the answer
abbrev pub answer_of : Machine → State → CommandLine → Result Reply Refusal
answer_of m s line = elim (line_verdict m s line) [ Err fault ↦ Err fault | Ok plan ↦ Ok (plan_reply plan) ]

-- the pool with the core, whose processors' stalls have these ends, and without it, looked at
abbrev pub pool_with_core : ℕ → ℕ → List Moment → Pool → Pool
pool_with_core t r ends pool = settled_pool t (record pool { resources = put_at r (joined_core ends) pool.resources })

abbrev pub without_core : ℕ → ℕ → Pool → Pool
without_core t r pool = settled_pool t (record pool { resources = clear_at r pool.resources })

-- a core of no pool joins the pool i
abbrev pub with_core_in : ℕ → ℕ → ℕ → FreeCore → State → State
with_core_in t r i c s = change_pool i (pool_with_core t r c.stall_ends) (record s { free = clear_at r s.free })

-- a core of the pool i becomes free
abbrev pub without_core_in : ℕ → ℕ → ℕ → Resource → State → State
without_core_in t r i c s =
    record (change_pool i (without_core t r) s) {
      free = put_at r (record { target = None; stall_ends = map (λ p. p.stall_end) c.processors }) s.free;
    }

-- the state after the core is moved
abbrev pub state_after_moved : ℕ → ℕ → State → State
state_after_moved t r s =
    elim (at_place s.free r) [
      | Some c ↦ elim c.target [ None ↦ s | Some i ↦ with_core_in t r i c s ]
      | None ↦ elim (home_pool_of_core s r) [ None ↦ s | Some i ↦ of_core s i r s (λ c. without_core_in t r i c s) ]
    ]

-- whether it is the null scheduler
abbrev pub is_null_pool : Records → Bool
is_null_pool (Credit2Pool records) = false
is_null_pool (RtdsPool domains) = false
is_null_pool (ArincPool records) = false
is_null_pool (NullPool kept) = true

-- the pool that a domain left; a null pool's cores are looked at, since one of them may have become free for a waiting unit
abbrev pub left_by : ℕ → ℕ → Pool → Pool
left_by t d pool = (if is_null_pool pool.scheduler.records then settled_pool t (pool_without_domain d pool) else pool_without_domain d pool)

-- the domain joins its new pool with that scheduler's default parameters
abbrev pub joined_by : ℕ → ℕ → ℕ → Domain → Pool → Pool
joined_by g t d domain pool = settled_pool t (pool_with_domain g t d (record domain { moving = None }) (standard_dom_params pool.scheduler.records) pool)

-- the state after the domain is moved
abbrev pub after_dom_moved : ℕ → ℕ → ℕ → State → State
after_dom_moved g t d s =
    elim (home_pool_of_domain s d) [
      | None ↦ s
      | Some i ↦ of_domain s i d s (λ domain. elim domain.moving [ None ↦ s | Some j ↦ change_pool j.0 (joined_by g t d domain) (change_pool i (left_by t d) s) ])
    ]

-- the pool of the action's subject
abbrev pub home_pool : Machine → State → Action → Pool
home_pool m s action = elim (home_pool_of_action m.config.granularity s action) [ None ↦ absent_pool m.config | Some i ↦ unwrap_or (at_place s.pools i) (absent_pool m.config) ]

-- the event of an action that is enabled at t, with its printed fields
abbrev pub event_of : Machine → State → ℕ → Action → Event
event_of m s t Stall =
    event.Stall
    (elim (slice_get m.work.stalls s.next_stall) [ None ↦ processor_number 0 | Some line ↦ line.cpu ])
    (elim (slice_get m.work.stalls s.next_stall) [ None ↦ moment 0 | Some line ↦ moment (later_stall_end m.config.granularity s line.cpu.0 (t + line.span.0)) ])
event_of m s t Xl = event.Xl (suc s.next_command) (elim (slice_get m.work.commands s.next_command) [ None ↦ Ok reply.Done | Some line ↦ answer_of m s line ])
event_of m s t (Moved r) = event.Moved (core_number r.0) (elim (at_place s.free r.0) [ None ↦ None | Some c ↦ option_map pool_number c.target ])
event_of m s t action = event_in m.config.granularity t (home_pool m s action) action

-- the state after an action at its subject's home: the event of the pool, and then its cores that are to decide anew
abbrev pub after_at_home : ℕ → State → ℕ → Action → State
after_at_home g s t action = elim (home_pool_of_action g s action) [ None ↦ s | Some i ↦ change_pool i (λ pool. settled_pool t (after_in g t pool action)) s ]

-- the state after an action that is enabled at t
abbrev pub after : Machine → State → ℕ → Action → State
after m s t Stall = elim (slice_get m.work.stalls s.next_stall) [ None ↦ s | Some line ↦ after_stall m.config.granularity t line s ]
after m s t Xl = elim (slice_get m.work.commands s.next_command) [ None ↦ s | Some line ↦ after_command m t line s ]
after m s t (Moved r) = state_after_moved t r.0 s
after m s t (DomMoved d) = after_dom_moved m.config.granularity t d.0 s
after m s t action = after_at_home m.config.granularity s t action

-- the next moment of the run, where it is at most the horizon
abbrev pub next_in_horizon : Machine → State → Option ℕ
next_in_horizon m s = elim (least_later_moment m s s.now) [ None ↦ None | Some next ↦ (if nat_le next m.config.horizon.0 then Some next else None) ]

-- the run that takes the first enabled action each time, with at most this many entries
abbrev pub ordered_run : ℕ → Machine → State → List Entry
ordered_run zero m s = []
ordered_run (suc entries) m s =
    elim (first_enabled_action m s s.now) [
      | Some action ↦ record { at = moment s.now; event = event_of m s s.now action } ∷ ordered_run entries m (after m s s.now action)
      | None ↦ elim (next_in_horizon m s) [
        | Some next ↦ record { at = moment s.now; event = event.End (moment next) } ∷ ordered_run entries m (record s { now = next })
        | None ↦ record { at = moment s.now; event = event.Finish } ∷ []
      ]
    ]
