-- What each small change of a pool keeps, each event and each command of the pool keeps.
use Rattle.std.proofs.Common.{◌≡◌, ℕ, zero, suc, Bool, true, false, List, [], ◌∷◌, refl, subst, cond, ◌⊎◌, inl, inr, length}
use Rattle.std.specs.Prelude.{Option, Some, None, option_map, is_some, slice_get, ◌&&◌, ◌||◌, ◌+◌, ◌*◌, ◌/◌, ◌%◌}
use Rattle.std.specs.List.{list_any}
use Rattle.sched_base.specs.Numbers.{moment, domain as domain_number, core, processor}
use Rattle.sched_base.specs.declared.UnitId.{UnitId}
use Rattle.sched_base.specs.declared.VcpuId.{VcpuId}
use Rattle.sched_model.specs.declared.action.Action.{Action}
use Rattle.sched_model.specs.declared.action.Action.TheVariants.{Wake, Block, Slice, Repl, Refill, Arrive, Decide, Leave, Save}
use Rattle.sched_model.specs.declared.config.ParamChange.{ParamChange}
use Rattle.sched_model.specs.declared.config.ParamChange.TheVariants as changes
use Rattle.sched_model.specs.declared.state.Domain.{Domain}
use Rattle.sched_model.specs.declared.state.Vcpu.{Vcpu}
use Rattle.sched_model.specs.declared.state.Doing.TheVariants.{Guest, Idle, Held}
use Rattle.sched_model.specs.declared.state.Stage.{Stage}
use Rattle.sched_model.specs.declared.state.Stage.TheVariants.{Open}
use Rattle.sched_model.specs.declared.state.Processor.{Processor}
use Rattle.sched_model.specs.declared.state.Resource.{Resource}
use Rattle.sched_model.specs.declared.state.RtdsUnit.{RtdsUnit}
use Rattle.sched_model.specs.declared.state.Pool.{Pool}
use Rattle.sched_model.specs.Places.{at_place, change_at, change_each, change_item, test_at, numbers_from}
use Rattle.sched_model.specs.State.{may_unit_run}
use Rattle.sched_model.specs.Policy as policy
use Rattle.sched_model.specs.Policy.{scheduler_without_queued, unit_rtds_record}
use Rattle.sched_model.specs.Pool as pools
use Rattle.sched_model.specs.Pool.{enabled_in, after_in, settled_pool, pool_core_set, reconsidered_core, change_core, change_processor, change_vcpu, change_domain, change_cores_of, pending_core, pool_with_leaving, with_doing, queue_unit, started_on, with_records, paused_pool, unpaused_pool, vcpu_unit, unit_core, pool_processor, pool_vcpu, running_guest, is_idling, is_held_back, is_domain_unit, domain_unit_count, vcpu_among}
use Rattle.sched_laws.specs.EachPlace.{EachAt}
use Rattle.sched_laws.proofs.EachPlace.{by_option, by_test, by_cond, length_set, length_change_each, read_change_at}
use Rattle.sched_laws.proofs.Lists.{length_change_item, read_change_item}
use Rattle.sched_base.proofs.Bools.{and_left, or_more}

-- what stands at a place of each of two lists is related, or nothing stands at either
abbrev pub LikePlace : {X : Type 0} → (X → X → Type 0) → Option X → Option X → Type 0
LikePlace R None None = Unit {0}
LikePlace R None (Some y) = ⊥
LikePlace R (Some x) None = ⊥
LikePlace R (Some x) (Some y) = R x y

pub record LikePlaces {X : Type 0} (R : X → X → Type 0) (old next : List (Option X)) : Type 0 where
  pub count : length next ≡ length old
  pub at : (i : ℕ) → LikePlace R (at_place old i) (at_place next i)

-- the core has the same cur
abbrev pub SameCur : Resource → Resource → Type 0
SameCur c d = d.cur ≡ c.cur

-- each core that has a unit in the first row has it in the second
abbrev pub Stays : List (Option Resource) → List (Option Resource) → Type 0
Stays old new = (r : ℕ) (c : Resource) (u : UnitId) → at_place old r ≡ Some c → c.cur ≡ Some u → (d : Resource) × (at_place new r ≡ Some d) × (d.cur ≡ Some u)

module _ {X : Type 0} (R : X → X → Type 0) where
  like_itself : ((x : X) → R x x) → (o : Option X) → LikePlace R o o
  like_itself same None = tt
  like_itself same (Some x) = same x

  like_mapped : (f : X → X) (o : Option X) → ((x : X) → o ≡ Some x → R x (f x)) → LikePlace R o (option_map f o)
  like_mapped f None now = tt
  like_mapped f (Some x) now = now x refl

  -- one place changed, and each place
  pub like_change_at : (i : ℕ) (f : X → X) (places : List (Option X)) → ((x : X) → R x x) → ((x : X) → at_place places i ≡ Some x → R x (f x)) → LikePlaces R places (change_at i f places)
  like_change_at i f places same now = record { count = length_set i _ places; at = there i places now }
    where
      there : (i : ℕ) (places : List (Option X)) → ((x : X) → at_place places i ≡ Some x → R x (f x)) → (j : ℕ) → LikePlace R (at_place places j) (at_place (change_at i f places) j)
      there zero [] now j = like_itself same (at_place [] j)
      there (suc i) [] now j = like_itself same (at_place [] j)
      there zero (o ∷ places) now zero = like_mapped f o now
      there zero (o ∷ places) now (suc j) = like_itself same (at_place places j)
      there (suc i) (o ∷ places) now zero = like_itself same o
      there (suc i) (o ∷ places) now (suc j) = there i places now j

  pub like_change_each : (f : ℕ → X → X) (places : List (Option X)) → ((n : ℕ) (x : X) → R x (f n x)) → LikePlaces R places (change_each 0 f places)
  like_change_each f places now = record { count = length_change_each 0 f places; at = there 0 places }
    where
      none : (j : ℕ) → LikePlace R (at_place [] j) (at_place [] j)
      none zero = tt
      none (suc j) = tt

      there : (n : ℕ) (places : List (Option X)) (j : ℕ) → LikePlace R (at_place places j) (at_place (change_each n f places) j)
      there n [] j = none j
      there n (o ∷ places) zero = like_mapped (f n) o (λ x is. now n x)
      there n (o ∷ places) (suc j) = there (suc n) places j

  -- what stands at a place, from what stands there in the other list
  pub like_was : (old next : List (Option X)) (i : ℕ) (y : X) → LikePlaces R old next → at_place next i ≡ Some y → (x : X) × (at_place old i ≡ Some x) × R x y
  like_was old next i y like at = from (at_place old i) refl (subst (LikePlace R (at_place old i)) at (like.at i))
    where
      from : (o : Option X) → at_place old i ≡ o → LikePlace R o (Some y) → (x : X) × (at_place old i ≡ Some x) × R x y
      from None is none = absurd none
      from (Some x) is now = (x, is, now)

  pub like_is : (old next : List (Option X)) (i : ℕ) (x : X) → LikePlaces R old next → at_place old i ≡ Some x → (y : X) × (at_place next i ≡ Some y) × R x y
  like_is old next i x like at = from (at_place next i) refl (subst (λ (o : Option X). LikePlace R o (at_place next i)) at (like.at i))
    where
      from : (o : Option X) → at_place next i ≡ o → LikePlace R (Some x) o → (y : X) × (at_place next i ≡ Some y) × R x y
      from None is none = absurd none
      from (Some y) is now = (y, is, now)

  pub EachAt-like : (P : ℕ → X → Type 0) (old next : List (Option X)) → LikePlaces R old next → ((i : ℕ) (x y : X) → R x y → P i x → P i y) → EachAt P old → EachAt P next
  EachAt-like P old next like keeps each i y at = (let was = like_was old next i y like at in keeps i was.0 y was.2 (each i was.0 was.1))

  -- what is seen of each place is the same
  pub like_look : {Y : Type 0} (look : Option X → Y) (old next : List (Option X)) → ((x y : X) → R x y → look (Some y) ≡ look (Some x)) → LikePlaces R old next → (i : ℕ) → look (at_place next i) ≡ look (at_place old i)
  like_look look old next same like i = there (at_place old i) (at_place next i) (like.at i)
    where
      there : (o n : Option X) → LikePlace R o n → look n ≡ look o
      there None None now = refl
      there None (Some y) none = absurd none
      there (Some x) None none = absurd none
      there (Some x) (Some y) now = same x y now

pub like_map : {X : Type 0} (R S : X → X → Type 0) (old next : List (Option X)) → ((x y : X) → R x y → S x y) → LikePlaces R old next → LikePlaces S old next
like_map {X} R S old next to like = record { count = like.count; at = λ i. place (at_place old i) (at_place next i) (like.at i) }
  where
    place : (o p : Option X) → LikePlace R o p → LikePlace S o p
    place None None same = tt
    place None (Some y) none = absurd none
    place (Some x) None none = absurd none
    place (Some x) (Some y) now = to x y now

-- the core keeps its units, its times and the number of its processors; it may become pending or leaving, its stage another
pub record KeepsCore (c d : Resource) : Type 0 where
  pub cur : d.cur ≡ c.cur
  pub saving : d.saving ≡ c.saving
  pub since : d.since ≡ c.since
  pub due : d.due ≡ c.due
  pub count : length d.processors ≡ length c.processors
  pub leaving : c.leaving ≡ true → d.leaving ≡ true
  pub pending : c.pending ≡ true → d.pending ≡ true

-- the core keeps its processors too, and its stage, but that it may be open again where nobody is held
pub record IsMarked (c d : Resource) : Type 0 where
  pub keeps : KeepsCore c d
  pub processors : d.processors ≡ c.processors
  pub stage : (d.stage ≡ c.stage) ⊎ ((d.stage ≡ Open) × (list_any is_held_back c.processors ≡ false))

keeps_marks : (c : Resource) (stage : Stage) (leaves pends : Bool) → (c.leaving ≡ true → leaves ≡ true) → (c.pending ≡ true → pends ≡ true) → KeepsCore c (record c { stage = stage; leaving = leaves; pending = pends })
keeps_marks c stage leaves pends leaving pending = record { cur = refl; saving = refl; since = refl; due = refl; count = refl; leaving = leaving; pending = pending }

is_marked : (c : Resource) (leaves pends : Bool) → (c.leaving ≡ true → leaves ≡ true) → (c.pending ≡ true → pends ≡ true) → IsMarked c (record c { leaving = leaves; pending = pends })
is_marked c leaves pends leaving pending = record { keeps = keeps_marks c c.stage leaves pends leaving pending; processors = refl; stage = inl refl }

marked_itself : (c : Resource) → IsMarked c c
marked_itself c = is_marked c c.leaving c.pending (λ e. e) (λ e. e)

marked_pending : (c : Resource) → IsMarked c (pending_core c)
marked_pending c = is_marked c c.leaving true (λ e. e) (λ e. refl)

marked_open : (c : Resource) → IsMarked c (pools.reopened_core c)
marked_open c = by_cond (IsMarked c) (list_any is_held_back c.processors) c (record c { stage = Open }) (λ any. marked_itself c) (λ none. record { keeps = keeps_marks c Open c.leaving c.pending (λ e. e) (λ e. e); processors = refl; stage = inr (refl, none) })

-- the core asks again at once, since the cap of its unit's domain is set
abbrev pub capped : ℕ → Resource → Resource
capped t c = record c { pending = true; due = Some (moment t) }

-- the cores of a domain changed, and no other
pub like_of_domain : (R : Resource → Resource → Type 0) (d : ℕ) (f : Resource → Resource) (cores : List (Option Resource)) → ((c : Resource) → R c c) → ((c : Resource) → R c (f c)) → LikePlaces R cores (change_each 0 (λ r c. cond (is_domain_unit d c.cur) (f c) c) cores)
like_of_domain R d f cores same now =
    like_change_each R (λ r c. cond (is_domain_unit d c.cur) (f c) c) cores (λ r c. by_cond (R c) (is_domain_unit d c.cur) (f c) c (λ is. now c) (λ is. same c))

-- the vCPU after a change of it
pub vcpu_after : (v : VcpuId) (f : Vcpu → Vcpu) (pool : Pool) (y : Vcpu) → pool_vcpu (change_vcpu v f pool) v ≡ Some y → (x : Vcpu) × (pool_vcpu pool v ≡ Some x) × (f x ≡ y)
vcpu_after v f pool y is =
    let change : Domain → Domain = λ d. record d { vcpus = change_item v.n f d.vcpus } in
    by_option (λ (o : Option Vcpu). o ≡ Some y → (x : Vcpu) × (pool_vcpu pool v ≡ Some x) × (f x ≡ y)) (at_place (change_at v.dom.0 change pool.domains) v.dom.0) None (λ d. slice_get d.vcpus v.n)
    (λ none e. absurd (cc))
    (λ d2 at e. elim (read_change_at v.dom.0 v.dom.0 change pool.domains d2 at) [
      | inl was ↦ absurd (was.0 refl)
      | inr r ↦ (
          let has : slice_get (change_item v.n f r.0.vcpus) v.n ≡ Some y = rw (← r.3) at e in
          elim (read_change_item v.n v.n f r.0.vcpus y has) [ inl was ↦ absurd (was.0 refl) | inr x ↦ (x.0, rw (pool_vcpu, vcpu_among, r.1) x.1, x.3) ])
    ]) is

-- nothing is known of an event that comes; it may come
abbrev pub Anyway : Pool → Action → Type 0
Anyway pool action = Unit {0}

abbrev pub Enabled : ℕ → ℕ → Pool → Action → Type 0
Enabled g t pool action = enabled_in g t pool action ≡ true

-- kept by what commands do to the marks, the queue and the paused domains
pub record KeptByCommands (g : ℕ) (P : Pool → Type 0) : Type 0 where
  pub marks : (cores : List (Option Resource)) (pool : Pool) → LikePlaces IsMarked pool.resources cores → P pool → P (record pool { resources = cores })
  pub queues : (u : UnitId) (pool : Pool) → may_unit_run g pool u ≡ true → P pool → P (queue_unit u pool)
  pub dequeues : (d : ℕ) (pool : Pool) → P pool → P (record pool { scheduler = scheduler_without_queued d pool.scheduler })
  pub pausing : (d : ℕ) (paused : Bool) (pool : Pool) → P pool → P (change_domain d (λ x. record x { paused = paused }) pool)

-- kept by each step of an event at t, of which On tells what is known when it comes
pub record KeptBySteps (g t : ℕ) (On : Pool → Action → Type 0) (P : Pool → Type 0) : Type 0 where
  pub pends : (r : ℕ) (pool : Pool) → P pool → P (change_core r pending_core pool)
  pub queues : (u : UnitId) (pool : Pool) → may_unit_run g pool u ≡ true → P pool → P (queue_unit u pool)
  pub wakes : (v : VcpuId) (pool : Pool) → On pool (Wake v) → P pool → P (change_vcpu v pools.woken_vcpu pool)
  pub joins : (v : VcpuId) (r : ℕ) (q : Processor) (pool : Pool) → unit_core pool (vcpu_unit g v) ≡ Some r → pool_processor g pool (r * g + v.n % g) ≡ Some q → is_idling q ≡ true → ((x : Vcpu) → pool_vcpu pool v ≡ Some x → x.asleep_until ≡ None)
      → P pool → P (started_on g t (r * g + v.n % g) v pool)
  pub blocks : (p : ℕ) (v : VcpuId) (pool : Pool) → running_guest g pool p ≡ Some v → On pool (Block (processor p)) → P pool → P (change_processor g p (with_doing Idle) (change_vcpu v (pools.put_to_sleep t) pool))
  pub arrives : (p : ℕ) (pool : Pool) → On pool (Arrive (processor p)) → P pool → P (pools.after_arrive g t p pool)
  pub decides : (r : ℕ) (c : Resource) (pool : Pool) → at_place pool.resources r ≡ Some c → On pool (Decide (core r)) → P pool → P (pools.after_decide g t r c pool)
  pub leaves : (p : ℕ) (c : Resource) (pool : Pool) → at_place pool.resources (p / g) ≡ Some c → On pool (Leave (processor p)) → P pool → P (pools.after_leave g t p c pool)
  pub saves : (r : ℕ) (c : Resource) (u : UnitId) (pool : Pool) → at_place pool.resources r ≡ Some c → c.saving ≡ Some u → On pool (Save (core r)) → P pool → P (change_core r pools.saved_core pool)
  pub replenishes : (u : UnitId) (pool : Pool) → On pool (Repl u) → P pool → P (with_records (policy.records_after_replenish pool.scheduler.records t u) pool)
  pub dues : (r : ℕ) (u : UnitId) (x : RtdsUnit) (old pool : Pool) → On old (Repl u) → unit_rtds_record pool.scheduler.records u ≡ Some x → P pool → P (change_core r (pools.due_within t x.budget) pool)
  pub refills : (d : ℕ) (pool : Pool) → On pool (Refill (domain_number d)) → P pool → P (with_records (policy.records_after_refill pool.scheduler.records t d) pool)

-- the same, where nothing but the cores' units and times, the domains' sizes and moves, the queue and the records count
pub record KeptByParts (g t : ℕ) (On : Pool → Action → Type 0) (P : Pool → Type 0) : Type 0 where
  pub cores : (cores : List (Option Resource)) (pool : Pool) → LikePlaces KeepsCore pool.resources cores → P pool → P (record pool { resources = cores })
  pub domains : (d : ℕ) (f : Domain → Domain) (pool : Pool) → ((x : Domain) → length (f x).vcpus ≡ length x.vcpus) → ((x : Domain) → (f x).moving ≡ x.moving) → P pool → P (change_domain d f pool)
  pub queues : (u : UnitId) (pool : Pool) → may_unit_run g pool u ≡ true → P pool → P (queue_unit u pool)
  pub dequeues : (d : ℕ) (pool : Pool) → P pool → P (record pool { scheduler = scheduler_without_queued d pool.scheduler })
  pub decides : (r : ℕ) (c : Resource) (pool : Pool) → at_place pool.resources r ≡ Some c → On pool (Decide (core r)) → P pool → P (pools.after_decide g t r c pool)
  pub saves : (r : ℕ) (c : Resource) (u : UnitId) (pool : Pool) → at_place pool.resources r ≡ Some c → c.saving ≡ Some u → On pool (Save (core r)) → P pool → P (change_core r pools.saved_core pool)
  pub replenishes : (u : UnitId) (pool : Pool) → On pool (Repl u) → P pool → P (with_records (policy.records_after_replenish pool.scheduler.records t u) pool)
  pub dues : (r : ℕ) (u : UnitId) (x : RtdsUnit) (old pool : Pool) → On old (Repl u) → unit_rtds_record pool.scheduler.records u ≡ Some x → P pool → P (change_core r (pools.due_within t x.budget) pool)
  pub refills : (d : ℕ) (pool : Pool) → On pool (Refill (domain_number d)) → P pool → P (with_records (policy.records_after_refill pool.scheduler.records t d) pool)

module _ {g : ℕ} {P : Pool → Type 0} (kept : KeptByCommands g P) where
  kept_marked_core : (r : ℕ) (f : Resource → Resource) (pool : Pool) → ((c : Resource) → IsMarked c (f c)) → P pool → P (change_core r f pool)
  kept_marked_core r f pool marked here = kept.marks (change_at r f pool.resources) pool (like_change_at IsMarked r f pool.resources marked_itself (λ c at. marked c)) here

  kept_marked_each : (f : ℕ → Resource → Resource) (pool : Pool) → ((r : ℕ) (c : Resource) → IsMarked c (f r c)) → P pool → P (record pool { resources = change_each 0 f pool.resources })
  kept_marked_each f pool marked here = kept.marks (change_each 0 f pool.resources) pool (like_change_each IsMarked f pool.resources marked) here

  pub kept_pending : (r : ℕ) (pool : Pool) → P pool → P (change_core r pending_core pool)
  kept_pending r pool here = kept_marked_core r pending_core pool marked_pending here

  pub kept_opened : (r : ℕ) (pool : Pool) → P pool → P (change_core r pools.reopened_core pool)
  kept_opened r pool here = kept_marked_core r pools.reopened_core pool marked_open here

  pub kept_set_leaving : (r : ℕ) (pool : Pool) → P pool → P (pool_with_leaving r pool)
  kept_set_leaving r pool here = kept_marked_core r (λ c. record c { leaving = true; pending = c.pending || is_some c.cur }) pool (λ c. is_marked c true (c.pending || is_some c.cur) (λ e. refl) (or_more c.pending (is_some c.cur))) here

  pub kept_settled : (t : ℕ) (pool : Pool) → P pool → P (settled_pool t pool)
  kept_settled t pool here =
      kept_marked_each (reconsidered_core t (pool_core_set pool) pool.scheduler) pool
      (λ r c. by_cond (IsMarked c) c.leaving c _ (λ is. marked_itself c) (λ is. is_marked c c.leaving _ (λ e. e) (or_more c.pending _))) here

  -- the cores of a domain, and each core, are to decide anew
  pub kept_cores_pending : (d : ℕ) (pool : Pool) → P pool → P (change_cores_of d pending_core pool)
  kept_cores_pending d pool here = kept.marks _ pool (like_of_domain IsMarked d pending_core pool.resources marked_itself marked_pending) here

  pub kept_withdrawn : (d : ℕ) (pool : Pool) → P pool → P (pools.withdrawn_pool d pool)
  kept_withdrawn d pool here = kept_cores_pending d (record pool { scheduler = scheduler_without_queued d pool.scheduler }) (kept.dequeues d pool here)

  pub kept_pause : (d : ℕ) (pool : Pool) → P pool → P (paused_pool d pool)
  kept_pause d pool here =
      by_cond P (test_at pool.domains d (λ x. x.paused)) _ _ (λ is. here) (λ is. kept_withdrawn d (change_domain d (λ x. record x { paused = true }) pool) (kept.pausing d true pool here))

  pub kept_queue_units : (d : ℕ) (units : List ℕ) (pool : Pool) → P pool → P (pools.pool_with_queued_units g d units pool)
  kept_queue_units d [] pool here = here
  kept_queue_units d (n ∷ ns) pool here =
      let u : UnitId = record { dom = domain_number d; n = n } in
      kept_queue_units d ns (pools.pool_with_queued_if_off g u pool) (by_cond P (may_unit_run g pool u && pools.is_unit_off pool u) (queue_unit u pool) pool (λ is. kept.queues u pool (and_left (may_unit_run g pool u) (pools.is_unit_off pool u) is) here) (λ is. here))

  pub kept_unpause : (d : ℕ) (pool : Pool) → P pool → P (unpaused_pool g d pool)
  kept_unpause d pool here =
      by_option P (at_place pool.domains d) _ _ (λ is. here)
      (λ domain is. by_cond P domain.paused _ _
      (λ is2. kept_queue_units d (numbers_from 0 (domain_unit_count g domain)) (change_domain d (λ x. record x { paused = false }) pool) (kept.pausing d false pool here)) (λ is2. here))

  -- what a change of parameters marks; a cap that is set makes the cores of the domain due
  pub kept_marked : (t : ℕ) → ((d : ℕ) (pool : Pool) → P pool → P (change_cores_of d (capped t) pool)) → (change : ParamChange) (pool : Pool) → P pool → P (pools.marked_pool change t pool)
  kept_marked t caps (changes.Dom d weight (Some percent)) pool here = caps d.0 pool here
  kept_marked t caps (changes.Frame frame) pool here = kept_marked_each (λ r c. pending_core c) pool (λ r. marked_pending) here
  kept_marked t caps change pool here = here

module _ {g t : ℕ} {On : Pool → Action → Type 0} {P : Pool → Type 0} (kept : KeptBySteps g t On P) where
  kept_after_wake : (v : VcpuId) (pool : Pool) → On pool (Wake v) → P pool → P (pools.after_wake g t v pool)
  kept_after_wake v pool on here =
      let next : Pool = change_vcpu v pools.woken_vcpu pool in
      let woken : P next = kept.wakes v pool on here in
      let awake : (y : Vcpu) → pool_vcpu next v ≡ Some y → y.asleep_until ≡ None = λ y has. (let x = vcpu_after v pools.woken_vcpu pool y has in subst (λ (z : Vcpu). z.asleep_until ≡ None) x.2 refl) in
      by_test P (may_unit_run g next (vcpu_unit g v)) _ _
      (λ runs. by_cond P (pools.is_unit_off next (vcpu_unit g v)) _ _ (λ off. kept.queues (vcpu_unit g v) next runs woken)
      (λ off. by_option P (unit_core next (vcpu_unit g v)) _ _ (λ is. woken)
      (λ r is. by_option P (pool_processor g next (r * g + v.n % g)) _ _ (λ is2. woken)
      (λ q is2. by_cond P (is_idling q) _ _ (λ idle. kept.joins v r q next is is2 idle awake woken) (λ idle. woken)))))
      (λ runs. woken)

  kept_after_block : (p : ℕ) (v : VcpuId) (pool : Pool) → running_guest g pool p ≡ Some v → On pool (Block (processor p)) → P pool → P (pools.after_block g t p v pool)
  kept_after_block p v pool guest on here =
      let next : Pool = change_processor g p (with_doing Idle) (change_vcpu v (pools.put_to_sleep t) pool) in
      let slept : P next = kept.blocks p v pool guest on here in
      by_cond P (may_unit_run g next (vcpu_unit g v)) _ _ (λ runs. slept) (λ runs. kept.pends (p / g) next slept)

  kept_after_save : (r : ℕ) (c : Resource) (u : UnitId) (pool : Pool) → at_place pool.resources r ≡ Some c → c.saving ≡ Some u → On pool (Save (core r)) → P pool → P (pools.after_save g r u pool)
  kept_after_save r c u pool at is on here =
      let next : Pool = change_core r pools.saved_core pool in
      let saved : P next = kept.saves r c u pool at is on here in
      by_cond P (may_unit_run g pool u) _ _ (λ runs. kept.queues u next runs saved) (λ runs. saved)

  kept_after_replenish : (u : UnitId) (pool : Pool) → On pool (Repl u) → P pool → P (pools.after_replenish t u pool)
  kept_after_replenish u pool on here =
      let next : Pool = with_records (policy.records_after_replenish pool.scheduler.records t u) pool in
      let replenished : P next = kept.replenishes u pool on here in
      by_option P (unit_core pool u) _ _ (λ is. replenished)
      (λ r is. by_option P (unit_rtds_record next.scheduler.records u) _ _ (λ is2. replenished) (λ x is2. kept.dues r u x pool next on is2 replenished))

  pub kept_by_event : (pool : Pool) (action : Action) → On pool action → P pool → P (after_in g t pool action)
  kept_by_event pool (Wake v) on here = kept_after_wake v pool on here
  kept_by_event pool (Block p) on here = by_option P (running_guest g pool p.0) _ _ (λ is. here) (λ v is. kept_after_block p.0 v pool is on here)
  kept_by_event pool (Slice r) on here = kept.pends r.0 pool here
  kept_by_event pool (Repl u) on here = kept_after_replenish u pool on here
  kept_by_event pool (Refill d) on here = kept.refills d.0 pool on here
  kept_by_event pool (Arrive p) on here = kept.arrives p.0 pool on here
  kept_by_event pool (Decide r) on here = by_option P (at_place pool.resources r.0) _ _ (λ is. here) (λ c is. kept.decides r.0 c pool is on here)
  kept_by_event pool (Leave p) on here = by_option P (at_place pool.resources (p.0 / g)) _ _ (λ is. here) (λ c is. kept.leaves p.0 c pool is on here)
  kept_by_event pool (Save r) on here = by_option P (at_place pool.resources r.0) _ _ (λ is. here) (λ c is. by_option P c.saving _ _ (λ is2. here) (λ u is2. kept_after_save r.0 c u pool is is2 on here))
  kept_by_event pool action on here = here

module _ {g t : ℕ} {On : Pool → Action → Type 0} {P : Pool → Type 0} (kept : KeptByParts g t On P) where
  pub kept_processor : (p : ℕ) (f : Processor → Processor) (pool : Pool) → P pool → P (change_processor g p f pool)
  kept_processor p f pool here =
      kept.cores _ pool (like_change_at KeepsCore (p / g) (λ c. record c { processors = change_item (p % g) f c.processors }) pool.resources (λ c. (marked_itself c).keeps)
      (λ c at. record { cur = refl; saving = refl; since = refl; due = refl; count = length_change_item (p % g) f c.processors; leaving = λ e. e; pending = λ e. e })) here

  kept_vcpu : (v : VcpuId) (f : Vcpu → Vcpu) (pool : Pool) → P pool → P (change_vcpu v f pool)
  kept_vcpu v f pool here = kept.domains v.dom.0 (λ d. record d { vcpus = change_item v.n f d.vcpus }) pool (λ d. length_change_item v.n f d.vcpus) (λ d. refl) here

  kept_started_on : (p : ℕ) (v : VcpuId) (pool : Pool) → P pool → P (started_on g t p v pool)
  kept_started_on p v pool here =
      let f : Vcpu → Vcpu = λ x. record x { started = Some (moment t) } in
      kept_processor p (with_doing (Guest v)) (change_vcpu v f pool) (kept_vcpu v f pool here)

  pub commands_of : KeptByCommands g P
  commands_of = record {
    marks = λ cores pool like. kept.cores cores pool (like_map IsMarked KeepsCore pool.resources cores (λ c d marked. marked.keeps) like);
    queues = kept.queues;
    dequeues = kept.dequeues;
    pausing = λ d paused pool. kept.domains d (λ x. record x { paused = paused }) pool (λ x. refl) (λ x. refl);
  }

  pub steps_of : KeptBySteps g t On P
  steps_of = record {
    pends = kept_pending commands_of;
    queues = kept.queues;
    wakes = λ v pool on. kept_vcpu v pools.woken_vcpu pool;
    joins = λ v r q pool is is2 idle awake. kept_started_on (r * g + v.n % g) v pool;
    blocks = λ p v pool guest on here. kept_processor p (with_doing Idle) (change_vcpu v (pools.put_to_sleep t) pool) (kept_vcpu v (pools.put_to_sleep t) pool here);
    arrives = λ p pool on here. by_option (λ (next : Pool). P (change_processor g p (with_doing Held) next)) (running_guest g pool p) _ _ (λ is. kept_processor p (with_doing Held) pool here)
        (λ v is. kept_processor p (with_doing Held) (change_vcpu v (pools.stopped_vcpu t) pool) (kept_vcpu v (pools.stopped_vcpu t) pool here));
    decides = kept.decides;
    leaves = λ p c pool at on here. by_option (λ (next : Pool). P (change_core (p / g) pools.reopened_core next)) (pools.vcpu_to_run g pool c (p % g)) _ _
        (λ is. kept_opened commands_of (p / g) (change_processor g p (with_doing Idle) pool) (kept_processor p (with_doing Idle) pool here))
        (λ v is. kept_opened commands_of (p / g) (started_on g t p v pool) (kept_started_on p v pool here));
    saves = kept.saves;
    replenishes = kept.replenishes;
    dues = kept.dues;
    refills = kept.refills;
  }

  pub kept_by_parts : (pool : Pool) (action : Action) → On pool action → P pool → P (after_in g t pool action)
  kept_by_parts pool action on here = kept_by_event steps_of pool action on here
