-- What is on its way from a pool, after a step inside of the pool and after a core or a domain came or went.
use Rattle.std.proofs.Common.{◌≡◌, ◌≤◌, ◌+◌, ℕ, Bool, true, false, List, [], ◌∷◌, refl, arith, ap, sym, ◌∙◌}
use Rattle.std.specs.Prelude.{Option, Some, None, is_some, unwrap_or, ◌||◌, length}
use Rattle.sched_base.specs.Numbers.{domain as domain_number, pool as pool_number, span, one_if}
use Rattle.sched_base.specs.declared.Moment.{Moment}
use Rattle.sched_base.specs.declared.Span.{Span}
use Rattle.sched_base.specs.declared.UnitId.{UnitId}
use Rattle.sched_model.specs.declared.action.Action.{Action}
use Rattle.sched_model.specs.declared.config.Config.{Config}
use Rattle.sched_model.specs.declared.config.DomParams.{DomParams}
use Rattle.sched_model.specs.declared.config.PoolParams.{PoolParams}
use Rattle.sched_model.specs.declared.config.ParamChange.{ParamChange}
use Rattle.sched_model.specs.declared.config.ParamChange.TheVariants as changes
use Rattle.sched_model.specs.declared.state.Domain.{Domain}
use Rattle.sched_model.specs.declared.state.Pool.{Pool}
use Rattle.sched_model.specs.declared.state.Resource.{Resource}
use Rattle.sched_model.specs.Places.{at_place, put_at, clear_at, change_each, test_at, numbers_from}
use Rattle.sched_model.specs.Opening.{machine_core_count, fresh_pool, joined_core}
use Rattle.sched_model.specs.Policy as policy
use Rattle.sched_model.specs.Policy.{scheduler_without_queued, standard_dom_params, unit_rtds_record}
use Rattle.sched_model.specs.Pool as pools
use Rattle.sched_model.specs.Pool.{after_in, settled_pool, reconsidered_core, pool_core_set, change_core, change_cores_of, change_domain, is_domain_unit, pending_core, pool_with_leaving, pool_with_moving, changed_pool, paused_pool, unpaused_pool, pool_with_queued_units, domain_unit_count, pool_with_domain, pool_without_domain}
use Rattle.sched_model.specs.Commands.{pool_with_rtds, pool_with_rtds_unit}
use Rattle.sched_model.specs.Machine.{is_null_pool, left_by, joined_by}
use Rattle.sched_laws.proofs.Counts.{total_none, total-change_at_same, total-change_each, total-clear_at}
use Rattle.sched_laws.specs.Counts.{total}
use Rattle.sched_laws.proofs.EachPlace.{by_option, by_cond, EachPlace-empty}
use Rattle.sched_laws.proofs.Opened.{queue_units-domains, queue_units-resources, with_domain-domains, with_domain-resources}
use Rattle.composition_laws.specs.Faces.{Face, DomainFace, domain_face, face_of}
use Rattle.journal_core.specs.Parts.{is_leaving}
use Rattle.composition_laws.proofs.Faces.{face_kept}
use Rattle.composition_laws.proofs.Totals.{total-seen, total-change_at_more, total-put_at_more}
use Rattle.composition_laws.proofs.Counted.{leaves, moves, from_pool}

-- changes that leave which cores are leaving and which domains are moving
pub same_core : (r : ℕ) (f : Resource → Resource) (pool : Pool) → ((c : Resource) → (f c).leaving ≡ c.leaving) → from_pool (change_core r f pool) ≡ from_pool pool
same_core r f pool same = ap (λ n. n + total moves pool.domains) (total-change_at_same leaves r f pool.resources (λ c at. ap one_if (same c)))

same_each : (f : ℕ → Resource → Resource) (pool : Pool) → ((n : ℕ) (c : Resource) → (f n c).leaving ≡ c.leaving) → from_pool (record pool { resources = change_each 0 f pool.resources }) ≡ from_pool pool
same_each f pool same = ap (λ n. n + total moves pool.domains) (total-change_each leaves 0 f pool.resources (λ n c. ap one_if (same n c)))

same_domain : (d : ℕ) (f : Domain → Domain) (pool : Pool) → ((x : Domain) → (f x).moving ≡ x.moving) → from_pool (change_domain d f pool) ≡ from_pool pool
same_domain d f pool same = ap (λ n. total leaves pool.resources + n) (total-change_at_same moves d f pool.domains (λ x at. ap (λ o. one_if (is_some o)) (same x)))

pub same_settled : (t : ℕ) (pool : Pool) → from_pool (settled_pool t pool) ≡ from_pool pool
same_settled t pool = same_each (reconsidered_core t (pool_core_set pool) pool.scheduler) pool (λ r c. by_cond (λ (x : Resource). x.leaving ≡ c.leaving) c.leaving _ _ (λ is. refl) (λ is. refl))

-- an event of the pool leaves its face, which tells the count
abbrev by_face : Face → ℕ
by_face face = total one_if face.cores + total (λ (x : DomainFace). one_if (is_some x.moving)) face.domains

face_tells : (pool : Pool) → from_pool pool ≡ by_face (face_of pool)
face_tells pool =
    ap (λ n. n + total moves pool.domains) (total-seen is_leaving leaves one_if pool.resources (λ c. refl))
    ∙ ap (λ n. total one_if (face_of pool).cores + n) (total-seen domain_face moves (λ (x : DomainFace). one_if (is_some x.moving)) pool.domains (λ x. refl))

pub same_event : (g t : ℕ) (pool : Pool) (action : Action) → from_pool (settled_pool t (after_in g t pool action)) ≡ from_pool pool
same_event g t pool action = face_tells (settled_pool t (after_in g t pool action)) ∙ ap by_face (face_kept g t pool action) ∙ sym (face_tells pool)

-- what a command changes inside of a pool, but for the two that send something on its way
same_cores_of : (d : ℕ) (f : Resource → Resource) (pool : Pool) → ((c : Resource) → (f c).leaving ≡ c.leaving) → from_pool (change_cores_of d f pool) ≡ from_pool pool
same_cores_of d f pool same = same_each _ pool (λ r c. by_cond (λ (x : Resource). x.leaving ≡ c.leaving) (is_domain_unit d c.cur) (f c) c (λ is. same c) (λ is. refl))

same_withdrawn : (d : ℕ) (pool : Pool) → from_pool (pools.withdrawn_pool d pool) ≡ from_pool pool
same_withdrawn d pool = same_cores_of d pending_core (record pool { scheduler = scheduler_without_queued d pool.scheduler }) (λ c. refl)

same_queued : (g d : ℕ) (units : List ℕ) (pool : Pool) → from_pool (pool_with_queued_units g d units pool) ≡ from_pool pool
same_queued g d units pool =
    let cores : total leaves (pool_with_queued_units g d units pool).resources ≡ total leaves pool.resources = ap (total leaves) (queue_units-resources g d units pool) in
    let domains : total moves (pool_with_queued_units g d units pool).domains ≡ total moves pool.domains = ap (total moves) (queue_units-domains g d units pool) in
    omega (arith, cores, domains)

pub same_pause : (d : ℕ) (pool : Pool) → from_pool (paused_pool d pool) ≡ from_pool pool
same_pause d pool =
    let f : Domain → Domain = λ domain. record domain { paused = true } in
    by_cond (λ (next : Pool). from_pool next ≡ from_pool pool) (test_at pool.domains d (λ domain. domain.paused)) pool (pools.withdrawn_pool d (change_domain d f pool))
    (λ is. refl) (λ is. same_withdrawn d (change_domain d f pool) ∙ same_domain d f pool (λ x. refl))

pub same_unpause : (g d : ℕ) (pool : Pool) → from_pool (unpaused_pool g d pool) ≡ from_pool pool
same_unpause g d pool = by_option (λ (next : Pool). from_pool next ≡ from_pool pool) (at_place pool.domains d) _ _ (λ is. refl)
    (λ domain is. by_cond (λ (next : Pool). from_pool next ≡ from_pool pool) domain.paused _ _
    (λ is2. same_queued g d (numbers_from 0 (domain_unit_count g domain)) _ ∙ same_domain d (λ x. record x { paused = false }) pool (λ x. refl)) (λ is2. refl))

same_marked : (change : ParamChange) (t : ℕ) (pool : Pool) → from_pool (pools.marked_pool change t pool) ≡ from_pool pool
same_marked (changes.Dom d weight (Some cap)) t pool = same_cores_of d.0 _ pool (λ c. refl)
same_marked (changes.«Unit» u period budget extra) t pool = refl
same_marked (changes.Frame frame) t pool = same_each _ pool (λ n c. refl)
same_marked other t pool = refl

pub same_params : (change : ParamChange) (t : ℕ) (pool : Pool) → from_pool (changed_pool change t pool) ≡ from_pool pool
same_params change t pool = same_marked change t (record pool { scheduler = policy.changed_scheduler change t pool.scheduler })

same_rtds_unit : (t : ℕ) (period budget : Option Span) (extra : Option Bool) (u : UnitId) (pool : Pool) → from_pool (pool_with_rtds_unit t period budget extra u pool) ≡ from_pool pool
same_rtds_unit t period budget extra u pool = by_option (λ (next : Pool). from_pool next ≡ from_pool pool) (unit_rtds_record pool.scheduler.records u) _ _ (λ is. refl)
    (λ x is. same_params (changes.«Unit» u (unwrap_or period (span x.next_period)) (unwrap_or budget (span x.next_budget)) (unwrap_or extra x.next_extra)) t pool)

pub same_rtds : (t d : ℕ) (period budget : Option Span) (extra : Option Bool) (units : List ℕ) (pool : Pool) → from_pool (pool_with_rtds t d period budget extra units pool) ≡ from_pool pool
same_rtds t d period budget extra [] pool = refl
same_rtds t d period budget extra (n ∷ ns) pool =
    same_rtds t d period budget extra ns _ ∙ same_rtds_unit t period budget extra (record { dom = domain_number d; n = n }) pool

-- the commands that send a core or a domain on its way
pub more_leaving : (r : ℕ) (pool : Pool) → from_pool (pool_with_leaving r pool) ≤ 1 + from_pool pool
more_leaving r pool =
    let f : Resource → Resource = λ c. record c { leaving = true; pending = c.pending || is_some c.cur } in
    let a : total leaves (pool_with_leaving r pool).resources ≤ 1 + total leaves pool.resources = total-change_at_more leaves 1 r f pool.resources (λ c. omega arith) in
    omega (arith, a)

pub more_moving : (d i : ℕ) (pool : Pool) → from_pool (pool_with_moving d i pool) ≤ 1 + from_pool pool
more_moving d i pool =
    let f : Domain → Domain = λ x. record x { moving = Some (pool_number i) } in
    let next : Pool = change_domain d f pool in
    let same : from_pool (pool_with_moving d i pool) ≡ total leaves pool.resources + total moves next.domains = same_withdrawn d next in
    let a : total moves next.domains ≤ 1 + total moves pool.domains = total-change_at_more moves 1 d f pool.domains (λ x. omega arith) in
    omega (arith, same, a)

-- a pool without cores and domains
pub from_empty : (config : Config) (params : PoolParams) → from_pool (fresh_pool config params) ≡ 0
from_empty config params =
    let a : total leaves (fresh_pool config params).resources ≡ 0 = total_none leaves (fresh_pool config params).resources (λ r c at. absurd (EachPlace-empty {X = Resource} (λ y. ⊥) (machine_core_count config) r c at)) in
    let b : total moves (fresh_pool config params).domains ≡ 0 = total_none moves (fresh_pool config params).domains (λ d x at. absurd (EachPlace-empty {X = Domain} (λ y. ⊥) (length config.domains) d x at)) in
    omega (arith, a, b)

-- a core comes, and one that is leaving goes
pub core_comes : (t r : ℕ) (ends : List Moment) (pool : Pool) → from_pool (settled_pool t (record pool { resources = put_at r (joined_core ends) pool.resources })) ≤ 0 + from_pool pool
core_comes t r ends pool =
    let cores : List (Option Resource) = put_at r (joined_core ends) pool.resources in
    let same : from_pool (settled_pool t (record pool { resources = cores })) ≡ total leaves cores + total moves pool.domains = same_settled t (record pool { resources = cores }) in
    let a : total leaves cores ≤ 0 + total leaves pool.resources = total-put_at_more leaves r (joined_core ends) pool.resources in
    omega (arith, same, a)

pub core_goes : (t r : ℕ) (c : Resource) (pool : Pool) → at_place pool.resources r ≡ Some c → c.leaving ≡ true → 1 + from_pool (settled_pool t (record pool { resources = clear_at r pool.resources })) ≡ from_pool pool
core_goes t r c pool at leaving =
    let cores : List (Option Resource) = clear_at r pool.resources in
    let same : from_pool (settled_pool t (record pool { resources = cores })) ≡ total leaves cores + total moves pool.domains = same_settled t (record pool { resources = cores }) in
    let a : total leaves cores + leaves c ≡ total leaves pool.resources = total-clear_at leaves r c pool.resources at in
    let one : leaves c ≡ 1 = ap one_if leaving in
    omega (arith, same, a, one)

-- a domain comes, which does not move any more, and one that is moving goes
pub domain_comes : (g t d : ℕ) (x : Domain) (params : DomParams) (pool : Pool) → x.moving ≡ None → from_pool (pool_with_domain g t d x params pool) ≤ from_pool pool
domain_comes g t d x params pool still =
    let cores : total leaves (pool_with_domain g t d x params pool).resources ≡ total leaves pool.resources = ap (total leaves) (with_domain-resources g t d x params pool) in
    let domains : total moves (pool_with_domain g t d x params pool).domains ≡ total moves (put_at d x pool.domains) = ap (total moves) (with_domain-domains g t d x params pool) in
    let a : total moves (put_at d x pool.domains) ≤ moves x + total moves pool.domains = total-put_at_more moves d x pool.domains in
    let none : moves x ≡ 0 = ap (λ o. one_if (is_some o)) still in
    omega (arith, cores, domains, a, none)

pub domain_joins : (g t d : ℕ) (x : Domain) (pool : Pool) → from_pool (joined_by g t d x pool) ≤ 0 + from_pool pool
domain_joins g t d x pool =
    let next : Pool = pool_with_domain g t d (record x { moving = None }) (standard_dom_params pool.scheduler.records) pool in
    let same : from_pool (joined_by g t d x pool) ≡ from_pool next = same_settled t next in
    let a : from_pool next ≤ from_pool pool = domain_comes g t d (record x { moving = None }) (standard_dom_params pool.scheduler.records) pool refl in
    omega (arith, same, a)

pub domain_goes : (t d : ℕ) (x : Domain) (pool : Pool) → at_place pool.domains d ≡ Some x → is_some x.moving ≡ true → 1 + from_pool (left_by t d pool) ≡ from_pool pool
domain_goes t d x pool at moving =
    let a : total moves (clear_at d pool.domains) + moves x ≡ total moves pool.domains = total-clear_at moves d x pool.domains at in
    let one : moves x ≡ 1 = ap one_if moving in
    let gone : 1 + from_pool (pool_without_domain d pool) ≡ from_pool pool = omega (arith, a, one) in
    by_cond (λ (next : Pool). 1 + from_pool next ≡ from_pool pool) (is_null_pool pool.scheduler.records) (settled_pool t (pool_without_domain d pool)) (pool_without_domain d pool)
    (λ is. ap (λ n. 1 + n) (same_settled t (pool_without_domain d pool)) ∙ gone) (λ is. gone)
