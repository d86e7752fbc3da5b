-- Which cores of a pool become pending at a look, and for which waiting units.
use Rattle.std.specs.Prelude.{ℕ, ◌≡◌, ◌&&◌, ◌||◌, Bool, true, false, not, Option, Some, None, if◌then◌else◌, int_lt}
use Rattle.sched_model.specs.Credit2.{unit_credit}
use Rattle.sched_model.specs.Rtds.{is_unit_before}
use Rattle.sched_base.specs.declared.UnitId.{UnitId}
use Rattle.sched_model.specs.declared.state.Records.{Records}
use Rattle.sched_model.specs.declared.state.Records.TheVariants.{Credit2Pool, RtdsPool, ArincPool, NullPool}
use Rattle.sched_model.specs.declared.state.Resource.{Resource}
use Rattle.sched_model.specs.declared.state.Scheduler.{Scheduler}
use Rattle.sched_model.specs.declared.state.Pool.{Pool}
use Rattle.sched_model.specs.Places.{change_each}
use Rattle.sched_model.specs.EligibleUnits.{is_unit_eligible}
use Rattle.sched_model.specs.Policy.{has_better_waiting, is_unit_better}
use Rattle.sched_model.specs.Pool.{change_vcpu, pool_core_set, is_unit_off, vcpu_unit, woken_vcpu}
use Rattle.sched_model.specs.State.{may_unit_run}
use Rattle.sched_base.specs.declared.VcpuId.{VcpuId}
use Rattle.sched_laws.specs.EachPlace.{EachAt}

-- whether the core becomes pending: it is neither leaving nor pending, and is to decide anew
abbrev pub is_wanted : ℕ → ℕ → Scheduler → ℕ → Resource → Bool
is_wanted t home scheduler r c = not c.leaving && not c.pending && has_better_waiting c.cur c.since.0 t r home scheduler

-- no core of the pool becomes pending at t
abbrev pub NoneWanted : ℕ → Pool → Type 0
NoneWanted t pool = EachAt (λ r c. is_wanted t (pool_core_set pool) pool.scheduler r c ≡ false) pool.resources

-- whether the scheduler's answer to a core may change with the moment alone: Credit2 charges what runs, ARINC 653 has windows
abbrev pub reads_moment : Records → Bool
reads_moment (Credit2Pool records) = true
reads_moment (RtdsPool domains) = false
reads_moment (ArincPool records) = true
reads_moment (NullPool kept) = false

-- whether a core with this unit, if any, is to decide anew for that one, where it waits
abbrev pub waits_for : Option UnitId → ℕ → ℕ → ℕ → ℕ → Scheduler → UnitId → Bool
waits_for None since t core home scheduler u = is_unit_eligible scheduler home core t u
waits_for (Some cur) since t core home scheduler u = is_unit_eligible scheduler home core t u && is_unit_better scheduler.records cur since t u

-- the core is pending where it is not leaving and is to decide anew for the unit
abbrev pub reconsidered_for : ℕ → ℕ → Scheduler → UnitId → ℕ → Resource → Resource
reconsidered_for t home scheduler u r c = (if c.leaving then c else record c { pending = c.pending || waits_for c.cur c.since.0 t r home scheduler u })

-- each core of the pool, asked about the one waiting unit alone
abbrev pub settled_for : ℕ → UnitId → Pool → Pool
settled_for t u pool = record pool { resources = change_each 0 (reconsidered_for t (pool_core_set pool) pool.scheduler u) pool.resources }

-- whether the first of two units that a core may have is the better one; of ARINC 653 and null none is better than another
abbrev pub goes_before : Records → UnitId → UnitId → Bool
goes_before (Credit2Pool records) u w = int_lt (unit_credit records w) (unit_credit records u)
goes_before (RtdsPool domains) u w = is_unit_before domains u w
goes_before (ArincPool records) u w = false
goes_before (NullPool kept) u w = false

-- whether the unit of the vCPU joins the queue when that wakes: it is runnable then, and was nowhere
abbrev pub is_queued_by : ℕ → VcpuId → Pool → Bool
is_queued_by g v pool = may_unit_run g (change_vcpu v woken_vcpu pool) (vcpu_unit g v) && is_unit_off (change_vcpu v woken_vcpu pool) (vcpu_unit g v)
