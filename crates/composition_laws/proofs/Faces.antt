-- An event of a pool leaves its face as it was.
use Rattle.std.proofs.Common.{◌≡◌, ℕ, zero, suc, ◌+◌, ◌*◌, ◌/◌, ◌%◌, List, [], ◌∷◌, map, Bool, refl, sym, ◌∙◌, ap}
use Rattle.std.specs.Prelude.{Option, Some, None, option_map}
use Rattle.sched_base.specs.declared.VcpuId.{VcpuId}
use Rattle.sched_model.specs.declared.action.Action.{Action}
use Rattle.sched_model.specs.declared.config.SchedKind.{SchedKind}
use Rattle.sched_model.specs.declared.state.Vcpu.{Vcpu}
use Rattle.sched_model.specs.declared.state.Processor.{Processor}
use Rattle.sched_model.specs.declared.state.Resource.{Resource}
use Rattle.sched_model.specs.declared.state.Records.{Records}
use Rattle.sched_model.specs.declared.state.Scheduler.{Scheduler}
use Rattle.sched_model.specs.declared.state.Pool.{Pool}
use Rattle.sched_model.specs.Places.{at_place, put_at, change_at, change_each, change_item}
use Rattle.sched_model.specs.declared.ask.Ask.{Ask}
use Rattle.sched_model.specs.EligibleUnits.{Decision}
use Rattle.sched_model.specs.Policy as policy
use Rattle.sched_model.specs.Policy.{records_kind, decision_of, after_decision}
use Rattle.sched_model.specs.Pool.{after_in, settled_pool, reconsidered_core, change_core, change_processor, change_vcpu, with_doing, woken_vcpu, put_to_sleep, stopped_vcpu, started_on, vcpu_to_run, core_ask, decided_core, same_choice, reopened_core, after_arrive, after_decide, after_leave, saved_core, with_records, due_within, running_guest, is_held_back, pool_core_set, pending_core}
use Rattle.std.specs.List.{list_any}
use Rattle.sched_model.specs.declared.state.Doing.TheVariants.{Guest, Idle, Held}
use Rattle.sched_laws.proofs.EachPlace.{by_option, by_cond, by_test}
use Rattle.sched_laws.proofs.Lists.{length_change_item}
use Rattle.sched_laws.proofs.Records.{same_replenish, same_refill, same_decision}
use Rattle.sched_laws.proofs.Events.{Anyway, KeptBySteps, kept_by_event}
use Rattle.composition_laws.specs.Faces.{Face, DomainFace, domain_face, face_of}
use Rattle.journal_core.specs.Parts.{is_leaving}

-- what is seen of each place stays where a change keeps it
pub seen_change_at : {X Y : Type 0} (see : X → Y) (i : ℕ) (f : X → X) (places : List (Option X)) → ((x : X) → see (f x) ≡ see x) → map (option_map see) (change_at i f places) ≡ map (option_map see) places
seen_change_at see i f [] keeps = refl
seen_change_at see zero f (None ∷ places) keeps = refl
seen_change_at see zero f (Some x ∷ places) keeps = ap (λ y. Some y ∷ map (option_map see) places) (keeps x)
seen_change_at see (suc i) f (p ∷ places) keeps = ap (λ ys. option_map see p ∷ ys) (seen_change_at see i f places keeps)

pub seen_change_each : {X Y : Type 0} (see : X → Y) (n : ℕ) (f : ℕ → X → X) (places : List (Option X)) → ((k : ℕ) (x : X) → see (f k x) ≡ see x) → map (option_map see) (change_each n f places) ≡ map (option_map see) places
seen_change_each see n f [] keeps = refl
seen_change_each see n f (None ∷ places) keeps = ap (λ ys. None ∷ ys) (seen_change_each see (suc n) f places keeps)
seen_change_each see n f (Some x ∷ places) keeps =
    ap (λ y. Some y ∷ map (option_map see) (change_each (suc n) f places)) (keeps n x) ∙ ap (λ ys. Some (see x) ∷ ys) (seen_change_each see (suc n) f places keeps)

pub seen_put_at : {X Y : Type 0} (see : X → Y) (i : ℕ) (x y : X) (places : List (Option X)) → at_place places i ≡ Some x → see y ≡ see x → map (option_map see) (put_at i y places) ≡ map (option_map see) places
seen_put_at see i x y [] at keeps = refl
seen_put_at see zero x y (p ∷ places) at keeps =
    let here : p ≡ Some x = at in
    ap (λ z. Some z ∷ map (option_map see) places) keeps ∙ ap (λ o. option_map see o ∷ map (option_map see) places) (sym here)
seen_put_at see (suc i) x y (p ∷ places) at keeps = ap (λ ys. option_map see p ∷ ys) (seen_put_at see i x y places at keeps)

-- the face by its parts
face_is : (pool next : Pool) → records_kind next.scheduler.records ≡ records_kind pool.scheduler.records → map (option_map is_leaving) next.resources ≡ map (option_map is_leaving) pool.resources
    → map (option_map domain_face) next.domains ≡ map (option_map domain_face) pool.domains → face_of next ≡ face_of pool
face_is pool next kind cores domains =
    ap (λ (k : SchedKind). record { kind = k; cores = map (option_map is_leaving) next.resources; domains = map (option_map domain_face) next.domains }) kind
    ∙ ap (λ (cs : List (Option Bool)). record { kind = records_kind pool.scheduler.records; cores = cs; domains = map (option_map domain_face) next.domains }) cores
    ∙ ap (λ (ds : List (Option DomainFace)). record { kind = records_kind pool.scheduler.records; cores = map (option_map is_leaving) pool.resources; domains = ds }) domains

face_core : (r : ℕ) (f : Resource → Resource) (pool : Pool) → ((c : Resource) → (f c).leaving ≡ c.leaving) → face_of (change_core r f pool) ≡ face_of pool
face_core r f pool keeps = face_is pool (change_core r f pool) refl (seen_change_at is_leaving r f pool.resources keeps) refl

face_processor : (g n : ℕ) (f : Processor → Processor) (pool : Pool) → face_of (change_processor g n f pool) ≡ face_of pool
face_processor g n f pool = face_core (n / g) _ pool (λ c. refl)

face_vcpu : (v : VcpuId) (f : Vcpu → Vcpu) (pool : Pool) → face_of (change_vcpu v f pool) ≡ face_of pool
face_vcpu v f pool =
    face_is pool (change_vcpu v f pool) refl refl
    (seen_change_at domain_face v.dom.0 (λ d. record d { vcpus = change_item v.n f d.vcpus }) pool.domains
    (λ d. ap (λ (k : ℕ). record { vcpus = k; moving = d.moving }) (length_change_item v.n f d.vcpus)))

face_records : (records : Records) (pool : Pool) → records_kind records ≡ records_kind pool.scheduler.records → face_of (with_records records pool) ≡ face_of pool
face_records records pool kind = face_is pool (with_records records pool) kind refl refl

-- a scheduler keeps its kind
kind_decided : (ask : Ask) (scheduler : Scheduler) → records_kind (after_decision (decision_of ask scheduler) scheduler).records ≡ records_kind scheduler.records
kind_decided ask scheduler = same_decision records_kind (λ a b. refl) (λ a b. refl) (λ a b. refl) scheduler.records ask scheduler refl

-- looking at the cores
leaving_kept : (t home : ℕ) (scheduler : Scheduler) (r : ℕ) (c : Resource) → (reconsidered_core t home scheduler r c).leaving ≡ c.leaving
leaving_kept t home scheduler r c = by_cond (λ (d : Resource). d.leaving ≡ c.leaving) c.leaving _ _ (λ is. refl) (λ is. refl)

face_settled : (t : ℕ) (pool : Pool) → face_of (settled_pool t pool) ≡ face_of pool
face_settled t pool = face_is pool (settled_pool t pool) refl (seen_change_each is_leaving 0 (reconsidered_core t (pool_core_set pool) pool.scheduler) pool.resources (leaving_kept t (pool_core_set pool) pool.scheduler)) refl

-- the events
module _ (g t : ℕ) where
  face_started : (n : ℕ) (v : VcpuId) (pool : Pool) → face_of (started_on g t n v pool) ≡ face_of pool
  face_started n v pool = face_processor g n (with_doing (Guest v)) (change_vcpu v _ pool) ∙ face_vcpu v _ pool

  face_arrive : (n : ℕ) (pool : Pool) → face_of (after_arrive g t n pool) ≡ face_of pool
  face_arrive n pool =
      by_option (λ (next : Pool). face_of (change_processor g n (with_doing Held) next) ≡ face_of pool) (running_guest g pool n) _ _
      (λ none. face_processor g n (with_doing Held) pool)
      (λ v is. face_processor g n (with_doing Held) (change_vcpu v (stopped_vcpu t) pool) ∙ face_vcpu v (stopped_vcpu t) pool)

  leaving_decided : (decision : Decision) (c : Resource) → (decided_core t decision c).leaving ≡ c.leaving
  leaving_decided decision c = by_test (λ (d : Resource). d.leaving ≡ c.leaving) (same_choice decision.unit c.cur) _ _ (λ same. refl) (λ other. refl)

  face_decide : (r : ℕ) (c : Resource) (pool : Pool) → at_place pool.resources r ≡ Some c → face_of (after_decide g t r c pool) ≡ face_of pool
  face_decide r c pool at =
      face_is pool (after_decide g t r c pool) (kind_decided (core_ask g t pool r c) pool.scheduler)
      (seen_put_at is_leaving r c (decided_core t (decision_of (core_ask g t pool r c) pool.scheduler) c) pool.resources at (leaving_decided (decision_of (core_ask g t pool r c) pool.scheduler) c)) refl

  leaving_open : (c : Resource) → (reopened_core c).leaving ≡ c.leaving
  leaving_open c = by_cond (λ (d : Resource). d.leaving ≡ c.leaving) (list_any is_held_back c.processors) _ _ (λ some. refl) (λ none. refl)

  face_leave : (n : ℕ) (c : Resource) (pool : Pool) → face_of (after_leave g t n c pool) ≡ face_of pool
  face_leave n c pool =
      by_option (λ (next : Pool). face_of (change_core (n / g) reopened_core next) ≡ face_of pool) (vcpu_to_run g pool c (n % g)) _ _
      (λ none. face_core (n / g) reopened_core (change_processor g n (with_doing Idle) pool) leaving_open ∙ face_processor g n (with_doing Idle) pool)
      (λ v is. face_core (n / g) reopened_core (started_on g t n v pool) leaving_open ∙ face_started n v pool)

  face_steps : (face : Face) → KeptBySteps g t Anyway (λ next. face_of next ≡ face)
  face_steps face = record {
    pends = λ r pool same. face_core r pending_core pool (λ c. refl) ∙ same;
    queues = λ u pool runs same. same;
    wakes = λ v pool on same. face_vcpu v woken_vcpu pool ∙ same;
    joins = λ v r q pool is is2 idle awake same. face_started (r * g + v.n % g) v pool ∙ same;
    blocks = λ p v pool guest on same. face_processor g p (with_doing Idle) (change_vcpu v (put_to_sleep t) pool) ∙ face_vcpu v (put_to_sleep t) pool ∙ same;
    arrives = λ p pool on same. face_arrive p pool ∙ same;
    decides = λ r c pool at on same. face_decide r c pool at ∙ same;
    leaves = λ p c pool at on same. face_leave p c pool ∙ same;
    saves = λ r c u pool at is on same. face_core r saved_core pool (λ x. refl) ∙ same;
    replenishes = λ u pool on same. face_records (policy.records_after_replenish pool.scheduler.records t u) pool (same_replenish records_kind (λ a b. refl) (λ a b. refl) pool.scheduler.records t u) ∙ same;
    dues = λ r u x old pool on is same. face_core r (due_within t x.budget) pool (λ c. refl) ∙ same;
    refills = λ d pool on same. face_records (policy.records_after_refill pool.scheduler.records t d) pool (same_refill records_kind (λ a b. refl) (λ a b. refl) pool.scheduler.records t d) ∙ same;
  }

  -- an event of a pool, after which its cores are looked at
  pub face_kept : (pool : Pool) (action : Action) → face_of (settled_pool t (after_in g t pool action)) ≡ face_of pool
  face_kept pool action = face_settled t (after_in g t pool action) ∙ kept_by_event (face_steps (face_of pool)) pool action tt refl
