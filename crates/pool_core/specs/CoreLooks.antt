-- Cores changed one after another, those of a set made pending, and what is known of a look before it is taken.
use Rattle.std.specs.Prelude.{ℕ, zero, suc, ◌≡◌, ◌&&◌, ◌||◌, ◌==◌, Bool, false, not, List, [], ◌∷◌, Option, Some, None, option_map, if◌then◌else◌}
use Rattle.sched_base.specs.declared.UnitId.{UnitId}
use Rattle.sched_model.specs.declared.state.Pool.{Pool}
use Rattle.sched_model.specs.declared.state.Records.{Records}
use Rattle.sched_model.specs.declared.state.Resource.{Resource}
use Rattle.sched_model.specs.declared.state.Scheduler.{Scheduler}
use Rattle.sched_model.specs.Places.{at_place}
use Rattle.sched_model.specs.Pool.{cores_from, pending_core}
use Rattle.sched_model.specs.State.{has_core_bit}
use Rattle.settle_laws.specs.Wanted.{reads_moment}
use Rattle.sched_ops.specs.Seen.{scheduler_without_unit}
use Rattle.sched_ops.specs.WantedCores.{is_core_wanted}
use Rattle.pool_core.specs.declared.settling.Mark.{Mark}

-- the first n things that stand at places changed by f, which is told the number of the place; the first place has the number k
abbrev pub change_first : {X : Type 0} → ℕ → ℕ → (ℕ → X → X) → List (Option X) → List (Option X)
change_first zero k f places = places
change_first (suc n) k f [] = []
change_first (suc n) k f (x ∷ places) = option_map (f k) x ∷ change_first n (suc k) f places

-- the core is pending where the set has its number
abbrev pub pending_where : ℕ → ℕ → Resource → Resource
pending_where set r c = (if has_core_bit set r then pending_core c else c)

-- none of these cores becomes pending at a look at t
abbrev pub IsNoneWanted : ℕ → Scheduler → List (Option Resource) → Type 0
IsNoneWanted t scheduler cores = (r : ℕ) → is_core_wanted t (cores_from 0 cores) scheduler r (at_place cores r) ≡ false

-- the scheduler, or the pool, without the unit among those that wait, where one is named
abbrev pub scheduler_but : Option UnitId → Scheduler → Scheduler
scheduler_but None scheduler = scheduler
scheduler_but (Some u) scheduler = scheduler_without_unit u scheduler

abbrev pub pool_but : Option UnitId → Pool → Pool
pool_but came pool = record pool { scheduler = scheduler_but came pool.scheduler }

-- whether a pool of these records with this mark is settled at t
abbrev pub is_still_settled : Mark → ℕ → Records → Bool
is_still_settled mark t records = mark.settled && (mark.latest.0 == t || not (reads_moment records))
