-- The least moment from which on something of a pool may come, and what it is the least of, part by part. g is the number of a core's processors.
use Rattle.sched_base.specs.Numbers.{domain, moment}
use Rattle.std.specs.Prelude.{ℕ, suc, ◌≡◌, ◌≤◌, ◌⊎◌, ◌&&◌, ◌||◌, Bool, not, min, List, [], ◌∷◌, Option, Some, None, is_none, is_some, option_map, length, if◌then◌else◌}
use Rattle.std.specs.List.{list_any, list_all}
use Rattle.sched_base.specs.declared.Moment.{Moment}
use Rattle.sched_base.specs.declared.UnitId.{UnitId}
use Rattle.sched_base.specs.declared.VcpuId.{VcpuId}
use Rattle.sched_model.specs.declared.action.Action.{Action}
use Rattle.sched_model.specs.declared.state.Credit2Domain.{Credit2Domain}
use Rattle.sched_model.specs.declared.state.Doing.TheVariants.{Guest, Idle, Held}
use Rattle.sched_model.specs.declared.state.Domain.{Domain}
use Rattle.sched_model.specs.declared.state.Pool.{Pool}
use Rattle.sched_model.specs.declared.state.Processor.{Processor}
use Rattle.sched_model.specs.declared.state.Records.{Records}
use Rattle.sched_model.specs.declared.state.Records.TheVariants.{Credit2Pool, RtdsPool, ArincPool, NullPool}
use Rattle.sched_model.specs.declared.state.Resource.{Resource}
use Rattle.sched_model.specs.declared.state.RtdsUnit.{RtdsUnit}
use Rattle.sched_model.specs.declared.state.Vcpu.{Vcpu}
use Rattle.sched_model.specs.Places.{has_listed_unit, numbered_items}
use Rattle.sched_model.specs.Pool.{unit_core, done_moment, is_held_back, is_domain_unit, is_gathering, pool_vcpu}
use Rattle.sched_laws.specs.EachPlace.{EachPlace}
use Rattle.pool_laws.specs.ReadyMoments.{first_stall_end, may_gather, later_of, lowest_stall_end, may_core_move, guarded_moment, ready_in}
use Rattle.pool_records.specs.Fits.{PoolFits}

-- the least of a number and of those that have a property
pub record IsLeastWith (best : ℕ) (IsOne : ℕ → Type 0) (least : ℕ) : Type 0 where
  pub no_more : least ≤ best
  pub no_later : (at : ℕ) → IsOne at → least ≤ at
  pub one : (least ≡ best) ⊎ IsOne least

-- it is the moment from which on some action may come in the pool
pub record IsReadyIn (g : ℕ) (pool : Pool) (at : ℕ) : Type 0 where
  pub action : Action
  pub ready : ready_in g pool action ≡ Some (moment at)

-- each core of the pool has g processors
abbrev pub AreWhole : ℕ → Pool → Type 0
AreWhole g pool = EachPlace (λ (c : Resource). length c.processors ≡ g) pool.resources

-- records that go by domain are of at most 64 domains
abbrev pub AreFewRecords : Records → Type 0
AreFewRecords (Credit2Pool records) = length records.domains ≤ 64
AreFewRecords (RtdsPool domains) = length domains ≤ 64
AreFewRecords (ArincPool records) = Unit {0}
AreFewRecords (NullPool kept) = Unit {0}

-- the numbers of the pool are in range
pub record ScanFits (pool : Pool) : Type 0 where
  pub fits : PoolFits pool
  pub few_records : AreFewRecords pool.scheduler.records

-- the lesser of a number and a moment, where there is one
abbrev pub lesser_moment : ℕ → Option Moment → ℕ
lesser_moment best None = best
lesser_moment best (Some at) = min best at.0

-- the least so far, after f has looked at each item in turn
abbrev pub least_each : {X : Type 0} → (ℕ → X → ℕ) → ℕ → List X → ℕ
least_each f best [] = best
least_each f best (x ∷ xs) = least_each f (f best x) xs

-- the vCPU that the processor runs
abbrev pub guest_on : Processor → Option VcpuId
guest_on q = elim q.doing [ Guest v ↦ Some v | Idle ↦ None | Held ↦ None ]

-- when the work of the vCPU is done
unfoldable pub work_done_moment : Pool → VcpuId → Option Moment
work_done_moment pool v = elim (pool_vcpu pool v) [ None ↦ None | Some x ↦ done_moment x ]

-- when the work of the vCPU that the processor runs is done
unfoldable pub running_work_moment : Pool → Processor → Option Moment
running_work_moment pool q = elim (guest_on q) [ None ↦ None | Some v ↦ work_done_moment pool v ]

-- from when on the processor of the core may arrive or leave
unfoldable pub move_moment : Resource → Processor → Option Moment
move_moment c q = (if is_held_back q then guarded_moment (not (is_gathering c)) (Some q.stall_end) else guarded_moment (may_gather c) (Some q.stall_end))

-- from when on the vCPU that it runs may block
unfoldable pub block_moment : Pool → Processor → Option Moment
block_moment pool q = later_of (running_work_moment pool q) (Some q.stall_end)

-- the least so far, and of the processor of the core
abbrev pub least_of_processor : Pool → Resource → ℕ → Processor → ℕ
least_of_processor pool c best q = lesser_moment (lesser_moment best (move_moment c q)) (block_moment pool q)

-- from when on the core's due has come, where it is not pending
unfoldable pub due_moment : Resource → Option Moment
due_moment c = guarded_moment (not c.pending) (later_of c.due (first_stall_end c))

-- from when on the core may decide
abbrev pub is_to_decide : Resource → Bool
is_to_decide c = list_all is_held_back c.processors && is_gathering c

unfoldable pub decide_moment : Resource → Option Moment
decide_moment c = guarded_moment (is_to_decide c) (first_stall_end c)

-- from when on the core may save
abbrev pub is_to_save : Resource → Bool
is_to_save c = is_some c.saving && not (list_any is_held_back c.processors)

unfoldable pub save_moment : Resource → Option Moment
save_moment c = guarded_moment (is_to_save c) (first_stall_end c)

-- from when on the core may leave the pool
unfoldable pub moved_moment : Resource → Option Moment
moved_moment c = guarded_moment (may_core_move c) (first_stall_end c)

-- the least so far, and of the core
unfoldable pub least_of_core : Pool → ℕ → Resource → ℕ
least_of_core pool best c =
    lesser_moment (lesser_moment (lesser_moment (lesser_moment (least_each (least_of_processor pool c) best c.processors) (due_moment c)) (decide_moment c)) (save_moment c)) (moved_moment c)

-- whether the core is not to decide, stays, saves nothing and has no processor that is held: of such a core only its due and blocks may come
abbrev pub is_core_calm : Resource → Bool
is_core_calm c = not c.pending && (not c.leaving && (is_none c.saving && not (list_any is_held_back c.processors)))

-- the least so far, and of the blocks of these processors
abbrev pub least_of_blocks : Pool → ℕ → List Processor → ℕ
least_of_blocks pool best processors = least_each (λ so_far (q : Processor). lesser_moment so_far (block_moment pool q)) best processors

-- and of each core
abbrev pub least_of_cores : Pool → ℕ → List (ℕ × Resource) → ℕ
least_of_cores pool best cores = least_each (λ so_far (e : ℕ × Resource). least_of_core pool so_far e.1) best cores

-- and of the wakes of vCPUs
abbrev pub least_of_vcpus : ℕ → List Vcpu → ℕ
least_of_vcpus best vcpus = least_each (λ so_far (x : Vcpu). lesser_moment so_far x.asleep_until) best vcpus

-- from when on the domain may move
abbrev pub may_domain_move : Pool → ℕ → Domain → Bool
may_domain_move pool d x = is_some x.moving && not (list_any (λ e. is_domain_unit d e.1.cur || is_domain_unit d e.1.saving) (numbered_items 0 pool.resources))

unfoldable pub dom_moved_moment : Pool → ℕ → Domain → Option Moment
dom_moved_moment pool d x = guarded_moment (may_domain_move pool d x) (Some (moment 0))

-- the least so far, and of the domain
unfoldable pub least_of_domain : Pool → ℕ → ℕ → Domain → ℕ
least_of_domain pool d best x = lesser_moment (least_of_vcpus best x.vcpus) (dom_moved_moment pool d x)

-- and of each domain
abbrev pub least_of_domains : Pool → ℕ → List (ℕ × Domain) → ℕ
least_of_domains pool best domains = least_each (λ so_far (e : ℕ × Domain). least_of_domain pool e.0 so_far e.1) best domains

-- from when on a domain of this record may be refilled, which is not before an end
unfoldable pub refill_end : Moment → Credit2Domain → Option Moment
refill_end end x = later_of (option_map moment x.refill) (Some end)

-- the least so far, and of the refills
abbrev pub least_of_refills : Moment → ℕ → List (ℕ × Credit2Domain) → ℕ
least_of_refills end best domains = least_each (λ so_far (e : ℕ × Credit2Domain). lesser_moment so_far (refill_end end e.1)) best domains

-- whether the unit waits or is on a core
abbrev pub is_waiting_or_on : Pool → UnitId → Bool
is_waiting_or_on pool u = has_listed_unit pool.scheduler.queue u || is_some (unit_core pool u)

-- from when on the unit of this deadline may be replenished, which is not before an end
unfoldable pub repl_end : Pool → Moment → UnitId → ℕ → Option Moment
repl_end pool end u deadline = later_of (guarded_moment (is_waiting_or_on pool u) (Some (moment deadline))) (Some end)

-- the least so far, and of these units of the domain d, of which the first has the index n
abbrev pub least_of_units : Pool → Moment → ℕ → ℕ → ℕ → List RtdsUnit → ℕ
least_of_units pool end d n best [] = best
least_of_units pool end d n best (x ∷ units) = least_of_units pool end d (suc n) (lesser_moment best (repl_end pool end (record { dom = domain d; n = n }) x.deadline)) units

-- and of each unit of these domains
abbrev pub least_of_all_units : Pool → Moment → ℕ → List (ℕ × List RtdsUnit) → ℕ
least_of_all_units pool end best domains = least_each (λ so_far (e : ℕ × List RtdsUnit). least_of_units pool end e.0 0 so_far e.1) best domains

-- and of the scheduler's timers, which do not come before an end
unfoldable pub least_of_timers : Pool → Moment → ℕ → Records → ℕ
least_of_timers pool end best (Credit2Pool records) = least_of_refills end best (numbered_items 0 records.domains)
least_of_timers pool end best (RtdsPool domains) = least_of_all_units pool end best (numbered_items 0 domains)
least_of_timers pool end best (ArincPool records) = best
least_of_timers pool end best (NullPool kept) = best

unfoldable pub least_of_scheduler : Pool → ℕ → ℕ
least_of_scheduler pool best = elim (lowest_stall_end pool) [ None ↦ best | Some end ↦ least_of_timers pool end best pool.scheduler.records ]
