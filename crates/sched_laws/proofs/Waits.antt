-- A processor that has arrived is held, and its core's stage open, until the core decides.
use Rattle.std.proofs.Common.{◌≡◌, ℕ, zero, suc, Bool, true, false, not, List, [], ◌∷◌, refl, subst, sym, ◌∙◌, ap, inl, inr}
use Rattle.std.specs.Prelude.{Option, Some, None, slice_get, ◌+◌, ◌*◌, ◌/◌, ◌%◌}
use Rattle.std.proofs.lemmas.Bool.{not-true, and_from}
use Rattle.sched_base.specs.Numbers.{moment, core}
use Rattle.sched_base.specs.declared.VcpuId.{VcpuId}
use Rattle.sched_model.specs.declared.config.ParamChange.{ParamChange}
use Rattle.sched_model.specs.declared.config.DomParams.{DomParams}
use Rattle.sched_model.specs.declared.state.Domain.{Domain}
use Rattle.sched_model.specs.declared.state.Doing.{Doing}
use Rattle.sched_model.specs.declared.state.Doing.TheVariants.{Guest, Idle, Held}
use Rattle.sched_model.specs.declared.state.Stage.TheVariants.{Open, Decided}
use Rattle.sched_model.specs.declared.state.Processor.{Processor}
use Rattle.sched_model.specs.declared.state.Resource.{Resource}
use Rattle.sched_model.specs.Places.{at_place, put_at, change_item, test_at, numbers_from}
use Rattle.sched_model.specs.declared.state.Pool.{Pool}
use Rattle.sched_model.specs.Policy as policy
use Rattle.sched_model.specs.Pool as pools
use Rattle.sched_model.specs.Pool.{change_core, change_processor, change_vcpu, with_doing, started_on, changed_pool, pool_with_domain, is_held_back, is_gathering, pool_processor, running_guest}
use Rattle.sched_model.specs.declared.action.Action.TheVariants.{Decide}
use Rattle.sched_laws.specs.RunLaws.{core_waits, waits_in}
use Rattle.sched_laws.proofs.EachPlace.{by_option}
use Rattle.sched_laws.proofs.Lists.{test_at-change_at_keeps, test_at-put_at_other, some-test_at, test_at-some}
use Rattle.sched_laws.proofs.Events.{LikePlaces, like_is, like_map, capped, like_of_domain, IsMarked, Enabled, KeptByCommands, KeptBySteps, kept_marked, kept_queue_units, kept_pending}
use Rattle.sched_laws.proofs.Sound.{processor_of_is, guest_of_is}
use Rattle.sched_laws.proofs.Kept.{passes_at}
use Rattle.sched_base.proofs.Bools.{and_left, and_right}

-- whether the i-th processor is held
abbrev held_at : ℕ → List Processor → Bool
held_at i ps = elim (slice_get ps i) as (λ _. Bool) [ None ↦ false | Some q ↦ is_held_back q ]

held_at-change_item : (j i : ℕ) (f : Processor → Processor) (ps : List Processor) → ((q : Processor) → i ≡ j → slice_get ps i ≡ Some q → is_held_back q ≡ true → is_held_back (f q) ≡ true) → held_at j ps ≡ true → held_at j (change_item i f ps) ≡ true
held_at-change_item j i f [] keeps held = held
held_at-change_item zero zero f (q ∷ ps) keeps held = keeps q refl refl held
held_at-change_item (suc j) zero f (q ∷ ps) keeps held = held
held_at-change_item zero (suc i) f (q ∷ ps) keeps held = held
held_at-change_item (suc j) (suc i) f (q ∷ ps) keeps held = held_at-change_item j i f ps (λ x e at. keeps x (ap suc e) at) held

held_not_guest : (q : Processor) (v : VcpuId) → q.doing ≡ Guest v → is_held_back q ≡ true → ⊥
held_not_guest q v is held = (let e : is_held_back q ≡ false = rw (is, is_held_back) refl in absurd (cc))

held_not_idle : (q : Processor) → pools.is_idling q ≡ true → is_held_back q ≡ true → ⊥
held_not_idle q idle held = by_doing q.doing idle held
  where
    by_doing : (doing : Doing) → elim doing as (λ _. Bool) [ Guest v ↦ false | Idle ↦ true | Held ↦ false ] ≡ true → elim doing as (λ _. Bool) [ Guest v ↦ false | Idle ↦ false | Held ↦ true ] ≡ true → ⊥
    by_doing (Guest v) a b = absurd (cc)
    by_doing Idle a b = absurd (cc)
    by_doing Held a b = absurd (cc)

module _ (g p : ℕ) where
  abbrev W : Pool → Type 0
  W pool = waits_in g p pool ≡ true

  w_change_core : (r : ℕ) (f : Resource → Resource) (pool : Pool) → ((c : Resource) → r ≡ p / g → at_place pool.resources r ≡ Some c → core_waits (p % g) c ≡ true → core_waits (p % g) (f c) ≡ true) → W pool → W (change_core r f pool)
  w_change_core r f pool keeps w = test_at-change_at_keeps r (p / g) f (core_waits (p % g)) pool.resources keeps w

  -- cores that let it wait on
  abbrev LetsWait : Resource → Resource → Type 0
  LetsWait c d = core_waits (p % g) c ≡ true → core_waits (p % g) d ≡ true

  w_like : (cores : List (Option Resource)) (pool : Pool) → LikePlaces LetsWait pool.resources cores → W pool → W (record pool { resources = cores })
  w_like cores pool like w =
      let was = some-test_at pool.resources (p / g) (core_waits (p % g)) w in
      let now = like_is LetsWait pool.resources cores (p / g) was.0 like was.1 in
      test_at-some cores (p / g) (core_waits (p % g)) now.0 now.1 (now.2 was.2)

  w_marked : (c d : Resource) → IsMarked c d → LetsWait c d
  w_marked c d marked here =
      and_from (is_gathering d) _ (elim marked.stage [
        | inl same ↦ ap (λ st. elim st as (λ _. Bool) [ Open ↦ true | Decided ↦ false ]) same ∙ and_left (is_gathering c) (held_at (p % g) c.processors) here
        | inr opened ↦ ap (λ st. elim st as (λ _. Bool) [ Open ↦ true | Decided ↦ false ]) opened.0
      ]) (subst (λ ps. held_at (p % g) ps ≡ true) (sym marked.processors) (and_right (is_gathering c) (held_at (p % g) c.processors) here))

  -- a processor that stays held, where it is ours
  pub w_change_processor : (q : ℕ) (f : Processor → Processor) (pool : Pool) → ((x : Processor) → pool_processor g pool q ≡ Some x → is_held_back x ≡ true → is_held_back (f x) ≡ true) → W pool → W (change_processor g q f pool)
  w_change_processor q f pool keeps w =
      w_change_core (q / g) (λ c. record c { processors = change_item (q % g) f c.processors }) pool
      (λ c e at here. and_from (is_gathering c) _ (and_left (is_gathering c) (held_at (p % g) c.processors) here)
      (held_at-change_item (p % g) (q % g) f c.processors (λ x e2 at2 held. keeps x (rw (pool_processor, at) at2) held) (and_right (is_gathering c) (held_at (p % g) c.processors) here))) w

  w_started_on : (t q : ℕ) (v : VcpuId) (pool : Pool) → ((x : Processor) → pool_processor g pool q ≡ Some x → is_held_back x ≡ true → ⊥) → W pool → W (started_on g t q v pool)
  w_started_on t q v pool none w = w_change_processor q (with_doing (Guest v)) (change_vcpu v (λ x. record x { started = Some (moment t) }) pool) (λ x at held. absurd (none x at held)) w

  w_joins : (t : ℕ) (v : VcpuId) (n : ℕ) (q : Processor) (pool : Pool) → pool_processor g pool n ≡ Some q → pools.is_idling q ≡ true → W pool → W (started_on g t n v pool)
  w_joins t v n q pool is idle w = w_started_on t n v pool (λ x at held. held_not_idle q idle (let e : x ≡ q = cc in subst (λ (y : Processor). is_held_back y ≡ true) e held)) w

  w_blocks : (t q : ℕ) (v : VcpuId) (pool : Pool) → running_guest g pool q ≡ Some v → W pool → W (change_processor g q (with_doing Idle) (change_vcpu v (pools.put_to_sleep t) pool))
  w_blocks t q v pool guest w =
      let found = guest_of_is g pool q v guest in
      w_change_processor q (with_doing Idle) (change_vcpu v (pools.put_to_sleep t) pool)
      (λ x at held. absurd (
      let r = processor_of_is g pool q x at in
      let e : r.0 ≡ found.0 = cc in
      let at_x : slice_get found.0.processors (q % g) ≡ Some x = subst (λ (c : Resource). slice_get c.processors (q % g) ≡ Some x) e r.2 in
      let same : found.1 ≡ x = cc in
      held_not_guest x v (subst (λ (y : Processor). y.doing ≡ Guest v) same found.4) held)) w

  w_after_arrive : (t q : ℕ) (pool : Pool) → W pool → W (pools.after_arrive g t q pool)
  w_after_arrive t q pool w =
      by_option (λ (next : Pool). W (change_processor g q (with_doing Held) next)) (running_guest g pool q) _ _
      (λ is. w_change_processor q (with_doing Held) pool (λ x at held. refl) w) (λ v is. w_change_processor q (with_doing Held) (change_vcpu v (pools.stopped_vcpu t) pool) (λ x at held. refl) w)

  w_after_leave : (t q : ℕ) (c : Resource) (pool : Pool) → at_place pool.resources (q / g) ≡ Some c → is_gathering c ≡ false → W pool → W (pools.after_leave g t q c pool)
  w_after_leave t q c pool at closed w =
      let other : q / g ≡ p / g → ⊥ = λ e. (
      let here = passes_at pool.resources (p / g) (core_waits (p % g)) c (subst (λ k. at_place pool.resources k ≡ Some c) e at) w in
      let o : is_gathering c ≡ true = and_left (is_gathering c) (held_at (p % g) c.processors) here in absurd (cc)) in
      by_option (λ (next : Pool). W (change_core (q / g) pools.reopened_core next)) (pools.vcpu_to_run g pool c (q % g)) _ _
      (λ is. w_change_core (q / g) pools.reopened_core (change_processor g q (with_doing Idle) pool) (λ d e at2 old. absurd (other e)) (w_change_core (q / g) _ pool (λ d e at2 old. absurd (other e)) w))
      (λ v is. w_change_core (q / g) pools.reopened_core (started_on g t q v pool) (λ d e at2 old. absurd (other e)) (w_change_core (q / g) _ pool (λ d e at2 old. absurd (other e)) w))

  pub w_commands : KeptByCommands g W
  w_commands = record {
    marks = λ cores pool like. w_like cores pool (like_map IsMarked LetsWait pool.resources cores w_marked like);
    queues = λ u pool runs w. w;
    dequeues = λ d pool w. w;
    pausing = λ d paused pool w. w;
  }

  -- each event but a Decide of the core
  pub w_steps : (t : ℕ) → KeptBySteps g t (λ pool action. (action ≡ Decide (core (p / g)) → ⊥) × Enabled g t pool action) W
  w_steps t = record {
    pends = kept_pending w_commands;
    queues = w_commands.queues;
    wakes = λ v pool on w. w;
    joins = λ v r q pool is is2 idle awake. w_joins t v (r * g + v.n % g) q pool is2 idle;
    blocks = λ q v pool guest on. w_blocks t q v pool guest;
    arrives = λ q pool on. w_after_arrive t q pool;
    decides = λ r c pool at on w. test_at-put_at_other r (p / g) _ (core_waits (p % g)) pool.resources (λ e. on.0 (ap (λ n. Decide (core n)) (sym e))) ∙ w;
    leaves = λ q c pool at on. w_after_leave t q c pool at (not-true (is_gathering c) (passes_at pool.resources (q / g) (λ (x : Resource). not (is_gathering x)) c at (and_left (test_at pool.resources (q / g) (λ (x : Resource). not (is_gathering x))) _ on.1)));
    saves = λ r c u pool at is on. w_change_core r pools.saved_core pool (λ x e there old. old);
    replenishes = λ u pool on w. w;
    dues = λ r u x old pool on is. w_change_core r (pools.due_within t x.budget) pool (λ c e at here. here);
    refills = λ d pool on w. w;
  }

  pub w_set_params : (change : ParamChange) (t : ℕ) (pool : Pool) → W pool → W (changed_pool change t pool)
  w_set_params change t pool w =
      kept_marked w_commands t (λ d next. w_like _ next (like_of_domain LetsWait d (capped t) next.resources (λ c here. here) (λ c here. here)))
      change (record pool { scheduler = policy.changed_scheduler change t pool.scheduler }) w

  pub w_with_domain : (t d : ℕ) (domain : Domain) (params : DomParams) (pool : Pool) → W pool → W (pool_with_domain g t d domain params pool)
  w_with_domain t d domain params pool w =
      kept_queue_units w_commands d (numbers_from 0 (pools.domain_unit_count g domain)) (record pool { domains = put_at d domain pool.domains; scheduler = policy.joined_scheduler d (pools.domain_unit_count g domain) params t pool.scheduler }) w
