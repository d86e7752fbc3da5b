-- From when on something of a core or of a domain may come, at the earliest. g is the number of a core's processors.
use Rattle.std.specs.Prelude.{ℕ, suc, ◌≡◌, ◌≤◌, ◌&&◌, ◌||◌, Bool, true, not, List, [], ◌∷◌, Option, Some, None, is_none, is_some, nat_lt, option_map, if◌then◌else◌}
use Rattle.std.specs.List.{list_any}
use Rattle.sched_base.specs.Numbers.{domain, moment}
use Rattle.sched_base.specs.declared.Moment.{Moment}
use Rattle.sched_base.specs.declared.UnitId.{UnitId}
use Rattle.sched_model.specs.declared.action.Action.{Action}
use Rattle.sched_model.specs.declared.state.Credit2Domain.{Credit2Domain}
use Rattle.sched_model.specs.declared.state.Domain.{Domain}
use Rattle.sched_model.specs.declared.state.Pool.{Pool}
use Rattle.sched_model.specs.declared.state.Processor.{Processor}
use Rattle.sched_model.specs.declared.state.Records.{Records}
use Rattle.sched_model.specs.declared.state.Records.TheVariants.{Credit2Pool, RtdsPool, ArincPool, NullPool}
use Rattle.sched_model.specs.declared.state.Resource.{Resource}
use Rattle.sched_model.specs.declared.state.RtdsUnit.{RtdsUnit}
use Rattle.sched_model.specs.Places.{at_place}
use Rattle.sched_model.specs.Pool.{enabled_in, is_gathering, is_held_back}
use Rattle.pool_laws.specs.ReadyMoments.{guarded_moment}
use Rattle.plain_pool.specs.Ready.{is_waiting_or_on, least_each, least_of_vcpus, lesser_moment, running_work_moment}
use Rattle.sched_plain.specs.PoolFloors.{IsOfCore, IsOfDomain}
use Rattle.sched_plain.specs.Soonest.{last_moment}

-- no event of the core may come before this moment, and none of the domain
abbrev pub IsCoreWait : ℕ → Pool → ℕ → ℕ → Type 0
IsCoreWait g pool r wait = (t : ℕ) (action : Action) → IsOfCore g r action → enabled_in g t pool action ≡ true → wait ≤ t

abbrev pub IsDomainWait : ℕ → Pool → ℕ → ℕ → Type 0
IsDomainWait g pool d wait = (t : ℕ) (action : Action) → IsOfDomain d action → enabled_in g t pool action ≡ true → wait ≤ t

-- the core is not between two units: it is not to decide, gathers nobody, saves nothing and stays
abbrev pub is_calm : Resource → Bool
is_calm c = not c.pending && not c.leaving && is_gathering c && is_none c.saving && not (list_any is_held_back c.processors)

-- the least so far, and when the works of the vCPUs that these processors run are done
abbrev pub least_of_works : Pool → ℕ → List Processor → ℕ
least_of_works pool best processors = least_each (λ so_far (q : Processor). lesser_moment so_far (running_work_moment pool q)) best processors

-- a calm core waits for its due and for the works of its vCPUs
abbrev pub wait_of_core : Pool → Resource → ℕ
wait_of_core pool c = (if is_calm c then least_of_works pool (lesser_moment last_moment c.due) c.processors else 0)

abbrev pub core_wait_in : Pool → Option Resource → ℕ
core_wait_in pool None = last_moment
core_wait_in pool (Some c) = wait_of_core pool c

-- a domain that stays waits for the wakes of its vCPUs
abbrev pub wait_of_vcpus : Option Domain → ℕ
wait_of_vcpus None = last_moment
wait_of_vcpus (Some x) = (if is_some x.moving then 0 else least_of_vcpus last_moment x.vcpus)

-- the least so far, and the deadlines of these units of the domain d, of which the first has the index n; where one has come by the moment now,
-- only that of a unit that waits or is on a core
abbrev pub awaited_deadline : ℕ → Pool → UnitId → ℕ → Option Moment
awaited_deadline now pool u deadline = guarded_moment (nat_lt now deadline || is_waiting_or_on pool u) (Some (moment deadline))

abbrev pub least_of_deadlines : ℕ → Pool → ℕ → ℕ → ℕ → List RtdsUnit → ℕ
least_of_deadlines now pool d n best [] = best
least_of_deadlines now pool d n best (x ∷ units) = least_of_deadlines now pool d (suc n) (lesser_moment best (awaited_deadline now pool (record { dom = domain d; n = n }) x.deadline)) units

-- the same of the units, where a list of them stands there
abbrev pub least_of_units_at : ℕ → Pool → ℕ → ℕ → Option (List RtdsUnit) → ℕ
least_of_units_at now pool d best None = best
least_of_units_at now pool d best (Some units) = least_of_deadlines now pool d 0 best units

-- the least so far, and the refill of the domain, where it stands there
abbrev pub least_of_refill_at : ℕ → Option Credit2Domain → ℕ
least_of_refill_at best None = best
least_of_refill_at best (Some x) = lesser_moment best (option_map moment x.refill)

-- the least so far, and the timers of the domain
abbrev pub least_of_domain_timers : ℕ → Pool → ℕ → ℕ → Records → ℕ
least_of_domain_timers now pool d best (Credit2Pool records) = least_of_refill_at best (at_place records.domains d)
least_of_domain_timers now pool d best (RtdsPool domains) = least_of_units_at now pool d best (at_place domains d)
least_of_domain_timers now pool d best (ArincPool records) = best
least_of_domain_timers now pool d best (NullPool kept) = best

-- what the domain waits for, as it is found at the moment now
abbrev pub domain_wait_in : ℕ → Pool → ℕ → ℕ
domain_wait_in now pool d = least_of_domain_timers now pool d (wait_of_vcpus (at_place pool.domains d)) pool.scheduler.records
