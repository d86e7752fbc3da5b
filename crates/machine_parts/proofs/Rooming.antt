-- The room of a pool stays as its domains keep their vCPUs.
use Rattle.std.proofs.Common.{◌≡◌, ◌≤◌, ◌<◌, ◌∙◌, ℕ, ◌+◌, ◌-◌, ◌/◌, Bool, true, false, List, [], ◌∷◌, length, map, refl, sym, ap, subst, arith}
use Rattle.std.specs.Prelude.{Option, Some, None, option_map, unwrap_or}
use Rattle.sched_base.specs.Numbers.{domain as domain_number, pool as pool_number, span}
use Rattle.sched_base.specs.declared.Span.{Span}
use Rattle.sched_base.specs.declared.UnitId.{UnitId}
use Rattle.sched_model.specs.declared.action.Action.{Action}
use Rattle.sched_model.specs.declared.config.DomParams.{DomParams}
use Rattle.sched_model.specs.declared.config.ParamChange.{ParamChange}
use Rattle.sched_model.specs.declared.config.ParamChange.TheVariants as changes
use Rattle.sched_model.specs.declared.state.Domain.{Domain}
use Rattle.sched_model.specs.declared.state.Pool.{Pool}
use Rattle.sched_model.specs.Commands.{pool_with_rtds, pool_with_rtds_unit}
use Rattle.sched_model.specs.Places.{at_place, numbers_from, put_at, test_at}
use Rattle.sched_model.specs.Policy as policy
use Rattle.sched_model.specs.Pool.{change_domain, marked_pool, paused_pool, pool_with_moving, changed_pool, settled_pool, domain_unit_count, unpaused_pool, pool_with_domain, pool_without_domain}
use Rattle.sched_laws.proofs.EachPlace.{by_cond, by_option}
use Rattle.sched_laws.proofs.Opened.{queue_units-domains}
use Rattle.composition_laws.specs.Faces.{DomainFace, Face, domain_face}
use Rattle.composition_laws.proofs.Faces.{face_kept}
use Rattle.unit_state.specs.Guests.{units_in}
use Rattle.unit_state.proofs.PlaceLemmas.{units_in-put_at, units_in-clear_at, units_in-change_at}
use Rattle.pool_core.specs.Seen.{Seen, seen_after, seen_at, with_spare}
use Rattle.machine_parts.specs.Rooms.{IsPlaced}

-- how many units stand at a place that is seen by its face; at all places
abbrev face_units : ℕ → Option DomainFace → ℕ
face_units g None = 0
face_units g (Some face) = (face.vcpus + g - 1) / g

abbrev faces_units : ℕ → List (Option DomainFace) → ℕ
faces_units g [] = 0
faces_units g (face ∷ faces) = face_units g face + faces_units g faces

by-faces : (g : ℕ) (places : List (Option Domain)) → units_in g places ≡ faces_units g (map (option_map domain_face) places)
by-faces g [] = refl
by-faces g (None ∷ places) = ap (λ (n : ℕ). 0 + n) (by-faces g places)
by-faces g (Some d ∷ places) = ap (λ (n : ℕ). domain_unit_count g d + n) (by-faces g places)

pub units-same : (g : ℕ) (places others : List (Option Domain)) → map (option_map domain_face) places ≡ map (option_map domain_face) others → units_in g places ≡ units_in g others
units-same g places others same = by-faces g places ∙ ap (faces_units g) same ∙ sym (by-faces g others)

-- an event of the pool keeps its room
pub placed-happened : (t : ℕ) (action : Action) (seen : Seen) → IsPlaced seen → IsPlaced (seen_after t action seen)
placed-happened t action seen placed = record {
  used = placed.used;
  roomy = record { room = ap (λ n. n + seen.spare) (units-same seen.granularity _ seen.pool.domains (ap (λ (face : Face). face.domains) (face_kept seen.granularity t seen.pool action))) ∙ placed.roomy.room };
}

-- what a view by f says of what is inside
pub view-none : {X Y : Type 0} (f : X → Y) (o : Option X) (v : Option Y) → option_map f o ≡ v → o ≡ None → v ≡ None
view-none f o v is none = sym is ∙ ap (option_map f) none

pub view-some : {X Y : Type 0} (f : X → Y) (o : Option X) (v : Option Y) → option_map f o ≡ v → (x : X) → o ≡ Some x → v ≡ Some (f x)
view-some f o v is x at = sym is ∙ ap (option_map f) at

pub some-out : {X : Type 0} (P : X → Type 0) (b x : X) → Some b ≡ Some x → P b → P x
some-out P b x is holds = (let same : b ≡ x = cc in subst P same holds)

pub same-value : {X Y : Type 0} (f : X → Y) (o : Option X) (v : Option Y) → option_map f o ≡ v → (x : X) → o ≡ Some x → (y : Y) → v ≡ Some y → f x ≡ y
same-value f o v is x at y there = (let one : v ≡ Some (f x) = view-some f o v is x at in cc)

-- what keeps the pool's domains keeps its room
pub placed-same : (seen : Seen) (t : ℕ) (pool : Pool) → units_in seen.granularity pool.domains ≡ units_in seen.granularity seen.pool.domains → IsPlaced seen → IsPlaced (seen_at t pool seen)
placed-same seen t pool same placed = record { used = placed.used; roomy = record { room = ap (λ n. n + seen.spare) same ∙ placed.roomy.room } }

pub placed-still : (seen : Seen) (pool : Pool) → units_in seen.granularity pool.domains ≡ units_in seen.granularity seen.pool.domains → IsPlaced seen → IsPlaced (record seen { pool = pool })
placed-still seen pool same placed = record { used = placed.used; roomy = record { room = ap (λ n. n + seen.spare) same ∙ placed.roomy.room } }

pub units-paused : (g d : ℕ) (pool : Pool) → units_in g (paused_pool d pool).domains ≡ units_in g pool.domains
units-paused g d pool =
    by_cond (λ (next : Pool). units_in g next.domains ≡ units_in g pool.domains) (test_at pool.domains d (λ domain. domain.paused)) _ _ (λ already. refl) (λ not_yet. units_in-change_at g d (λ domain. record domain { paused = true }) pool.domains (λ x. refl))

pub units-moving : (g d i : ℕ) (pool : Pool) → units_in g (pool_with_moving d i pool).domains ≡ units_in g pool.domains
units-moving g d i pool = units_in-change_at g d (λ domain. record domain { moving = Some (pool_number i) }) pool.domains (λ x. refl)

pub units-unpaused : (g d : ℕ) (pool : Pool) → units_in g (unpaused_pool g d pool).domains ≡ units_in g pool.domains
units-unpaused g d pool =
    by_option (λ (next : Pool). units_in g next.domains ≡ units_in g pool.domains) (at_place pool.domains d) _ _ (λ none. refl)
    (λ x at. by_cond (λ (next : Pool). units_in g next.domains ≡ units_in g pool.domains) x.paused _ _
    (λ is. ap (units_in g) (queue_units-domains g d (numbers_from 0 (domain_unit_count g x)) (change_domain d (λ y. record y { paused = false }) pool)) ∙ units_in-change_at g d (λ y. record y { paused = false }) pool.domains (λ y. refl))
    (λ is. refl))

domains-marked : (change : ParamChange) (t : ℕ) (pool : Pool) → (marked_pool change t pool).domains ≡ pool.domains
domains-marked (changes.Dom d weight (Some cap)) t pool = refl
domains-marked (changes.Dom d weight None) t pool = refl
domains-marked change t pool = refl

pub units-set : (g t : ℕ) (change : ParamChange) (pool : Pool) → units_in g (changed_pool change t pool).domains ≡ units_in g pool.domains
units-set g t change pool = ap (units_in g) (domains-marked change t (record pool { scheduler = policy.changed_scheduler change t pool.scheduler }))

units-rtds_unit : (g t : ℕ) (period budget : Option Span) (extra : Option Bool) (u : UnitId) (pool : Pool) → units_in g (pool_with_rtds_unit t period budget extra u pool).domains ≡ units_in g pool.domains
units-rtds_unit g t period budget extra u pool =
    by_option (λ (next : Pool). units_in g next.domains ≡ units_in g pool.domains) (policy.unit_rtds_record pool.scheduler.records u) _ _ (λ none. refl)
    (λ x at. units-set g t (changes.«Unit» u (unwrap_or period (span x.next_period)) (unwrap_or budget (span x.next_budget)) (unwrap_or extra x.next_extra)) pool)

pub units-rtds : (g t d : ℕ) (period budget : Option Span) (extra : Option Bool) (ns : List ℕ) (pool : Pool) → units_in g (pool_with_rtds t d period budget extra ns pool).domains ≡ units_in g pool.domains
units-rtds g t d period budget extra [] pool = refl
units-rtds g t d period budget extra (n ∷ ns) pool =
    let u : UnitId = record { dom = domain_number d; n = n } in
    units-rtds g t d period budget extra ns (pool_with_rtds_unit t period budget extra u pool) ∙ units-rtds_unit g t period budget extra u pool

-- a domain that comes and one that goes
placed-given_here : (seen : Seen) (t d : ℕ) (x : Domain) (params : DomParams) → d < length seen.pool.domains → at_place seen.pool.domains d ≡ None → domain_unit_count seen.granularity x ≤ seen.spare → IsPlaced seen
    → IsPlaced (with_spare (seen.spare - domain_unit_count seen.granularity x) (seen_at t (settled_pool t (pool_with_domain seen.granularity t d x params seen.pool)) seen))
placed-given_here seen t d x params inside absent room placed =
    let g = seen.granularity in
    let queued : units_in g (pool_with_domain g t d x params seen.pool).domains ≡ units_in g (put_at d x seen.pool.domains) =
    ap (units_in g) (queue_units-domains g d (numbers_from 0 (domain_unit_count g x)) (record seen.pool { domains = put_at d x seen.pool.domains; scheduler = policy.joined_scheduler d (domain_unit_count g x) params t seen.pool.scheduler })) in
    let put = units_in-put_at g d x seen.pool.domains inside absent in
    let all = placed.roomy.room in
    record { used = placed.used; roomy = record { room = omega (arith, queued, put, all, room) } }

placed-taken_here : (seen : Seen) (d : ℕ) (x : Domain) → at_place seen.pool.domains d ≡ Some x → IsPlaced seen
    → IsPlaced (with_spare (seen.spare + domain_unit_count seen.granularity x) (record seen { pool = pool_without_domain d seen.pool }))
placed-taken_here seen d x at placed =
    let cleared = units_in-clear_at seen.granularity d x seen.pool.domains at in
    let all = placed.roomy.room in
    record { used = placed.used; roomy = record { room = omega (arith, cleared, all) } }

-- the same, where the domain's own number of a unit's vCPUs is the pool's
pub placed-given : (seen : Seen) (t d k : ℕ) (x : Domain) (params : DomParams) → k ≡ seen.granularity → d < length seen.pool.domains → at_place seen.pool.domains d ≡ None → domain_unit_count k x ≤ seen.spare → IsPlaced seen
    → IsPlaced (with_spare (seen.spare - domain_unit_count k x) (seen_at t (settled_pool t (pool_with_domain seen.granularity t d x params seen.pool)) seen))
placed-given seen t d k x params is inside absent room placed =
    subst (λ (n : ℕ). domain_unit_count n x ≤ seen.spare → IsPlaced (with_spare (seen.spare - domain_unit_count n x) (seen_at t (settled_pool t (pool_with_domain seen.granularity t d x params seen.pool)) seen))) (sym is)
    (λ fits. placed-given_here seen t d x params inside absent fits placed) room

pub placed-taken : (seen : Seen) (d k : ℕ) (x : Domain) → k ≡ seen.granularity → at_place seen.pool.domains d ≡ Some x → IsPlaced seen
    → IsPlaced (with_spare (seen.spare + domain_unit_count k x) (record seen { pool = pool_without_domain d seen.pool }))
placed-taken seen d k x is at placed =
    subst (λ (n : ℕ). IsPlaced (with_spare (seen.spare + domain_unit_count n x) (record seen { pool = pool_without_domain d seen.pool }))) (sym is) (placed-taken_here seen d x at placed)
