-- The moments at which the works in hand are done, after each event of a pool.
use Rattle.sched_base.specs.Numbers.{core as core_number, processor as processor_number}
use Rattle.std.proofs.Common.{◌≡◌, ◌<◌, ◌≤◌, ◌+◌, ◌*◌, ◌/◌, ◌%◌, ℕ, Bool, true, false, List, refl, sym, ap, subst, ◌∙◌, cond, inl, inr, arith, length}
use Rattle.std.specs.Prelude.{Option, Some, None, option_map, slice_set, not, ◌&&◌}
use Rattle.std.specs.List.{list_any}
use Rattle.std.proofs.lemmas.Bool.{cases_lt}
use Rattle.std.proofs.lemmas.Nat.{div-mul-add, mod-mul-add, mod_below}
use Rattle.sched_base.specs.declared.Moment.{Moment}
use Rattle.sched_base.specs.declared.UnitId.{UnitId}
use Rattle.sched_base.specs.declared.VcpuId.{VcpuId}
use Rattle.sched_model.specs.declared.action.Action.TheVariants.{Arrive, Block, Decide, Leave, Repl, Save, Slice, Wake}
use Rattle.sched_model.specs.declared.state.Doing.TheVariants.{Idle, Held}
use Rattle.sched_model.specs.declared.state.Pool.{Pool}
use Rattle.sched_model.specs.declared.state.Processor.{Processor}
use Rattle.sched_model.specs.declared.state.Resource.{Resource}
use Rattle.sched_model.specs.declared.state.Vcpu.{Vcpu}
use Rattle.sched_model.specs.CheckedMachine.{IsGranularity}
use Rattle.sched_model.specs.Places.{at_place, change_at, is_unit, put_at, test_at}
use Rattle.sched_model.specs.Policy.{decision_of, records_after_replenish, unit_rtds_record}
use Rattle.sched_model.specs.EligibleUnits.{Decision}
use Rattle.sched_model.specs.Pool as pools
use Rattle.sched_model.specs.Pool.{after_in, change_processor, change_vcpu, with_doing, enabled_in, running_guest, pool_processor, put_to_sleep, started_on, stopped_vcpu, taken_at, vcpu_unit, woken_vcpu, vcpu_among}
use Rattle.sched_model.specs.State.{is_awake, may_unit_run, is_not_stalled}
use Rattle.sched_laws.proofs.Choices.{is_unit_same}
use Rattle.sched_laws.proofs.EachPlace.{by_option, by_test, by_cond, found_at}
use Rattle.sched_base.proofs.Bools.{and_left, and_right}
use Rattle.sched_laws.specs.PoolFacts.{IsKnownPool}
use Rattle.sched_laws.proofs.Lists.{some-test_at}
use Rattle.core_state.specs.Seen.{processor_among}
use Rattle.core_state.proofs.Arming.{core_of_past}
use Rattle.unit_state.specs.Seen.{done_among}
use Rattle.pool_core.specs.ProcessorEvents.{parted_with, work_of}
use Rattle.pool_core.specs.PoolState.{AreWorks}
use Rattle.pool_core.specs.Wakes.{done_started, idles_among, joined_works, woken_works}
use Rattle.pool_core.proofs.Asking.{only_guest, only_there}
use Rattle.pool_core.proofs.Processors.{idle_runs_none, held_runs_none}
use Rattle.pool_core.proofs.Works.{works_core, works_freed, works_same, works_started, works_stopped, works_woken}

-- a processor of a core that is there is one of at most 64
pub few_processors : (g p : ℕ) (cores : List (Option Resource)) (c : Resource) → IsGranularity g → length cores * g ≤ 64 → at_place cores (p / g) ≡ Some c → p < 64
few_processors g p cores c granularity few at = elim (cases_lt p 64) [
  | inl low ↦ low
  | inr past ↦ absurd (let none = core_of_past g cores p granularity few past in cc)
]

module _ (g t : ℕ) (works : List (Option Moment)) (pool : Pool) (known : IsKnownPool g pool) (are : AreWorks g works pool) where
  pub works_slice : (r : ℕ) → AreWorks g works (after_in g t pool (Slice (core_number r)))
  works_slice r = works_core g r (λ (c : Resource). record c { pending = true }) works pool (λ c at. refl) are

  pub works_block : (p : ℕ) (v : VcpuId) → running_guest g pool p ≡ Some v → AreWorks g (slice_set works p None) (after_in g t pool (Block (processor_number p)))
  works_block p v guest =
      let next : Pool = change_processor g p (with_doing Idle) (change_vcpu v (put_to_sleep t) pool) in
      let here : AreWorks g (slice_set works p None) next = works_stopped g p works pool are Idle idle_runs_none v (put_to_sleep t) (only_guest g pool p v known guest) in
      let after : AreWorks g (slice_set works p None) (pools.after_block g t p v pool) =
      by_cond (AreWorks g (slice_set works p None)) (may_unit_run g next (vcpu_unit g v)) _ _
      (λ is. here) (λ is. works_core g (p / g) (λ (c : Resource). record c { pending = true }) (slice_set works p None) next (λ c at. refl) here) in
      subst (λ (o : Option VcpuId). AreWorks g (slice_set works p None) (elim o as (λ _. Pool) [ None ↦ pool | Some w ↦ pools.after_block g t p w pool ])) (sym guest) after

  pub works_arrive : (p : ℕ) → AreWorks g (slice_set works p None) (after_in g t pool (Arrive (processor_number p)))
  works_arrive p =
      by_option (λ (next : Pool). AreWorks g (slice_set works p None) (change_processor g p (with_doing Held) next)) (running_guest g pool p) _ _
      (λ is. works_freed g p works pool are Held held_runs_none)
      (λ v is. works_stopped g p works pool are Held held_runs_none v (stopped_vcpu t) (only_guest g pool p v known is))

  -- the processors of a core that decides do what they did
  decided_same : (decision : Decision) (c : Resource) → (pools.decided_core t decision c).processors ≡ c.processors
  decided_same decision c = by_test (λ (x : Resource). x.processors ≡ c.processors) (pools.same_choice decision.unit c.cur) _ _ (λ is. refl) (λ is. refl)

  pub works_decide : (r : ℕ) → AreWorks g works (after_in g t pool (Decide (core_number r)))
  works_decide r = by_core (at_place pool.resources r) refl
    where
      by_core : (o : Option Resource) → at_place pool.resources r ≡ o → AreWorks g works (elim o as (λ _. Pool) [ None ↦ pool | Some c ↦ pools.after_decide g t r c pool ])
      by_core None is = are
      by_core (Some c) is =
          let decision : Decision = decision_of (pools.core_ask g t pool r c) pool.scheduler in
          let changed : AreWorks g works (pools.change_core r (pools.decided_core t decision) pool) = works_core g r (pools.decided_core t decision) works pool (λ x at. decided_same decision x) are in
          let same : change_at r (pools.decided_core t decision) pool.resources ≡ put_at r (pools.decided_core t decision c) pool.resources = ap (λ (o : Option Resource). slice_set pool.resources r (option_map (pools.decided_core t decision) o)) is in
          works_same g works (pools.change_core r (pools.decided_core t decision) pool) (pools.after_decide g t r c pool) refl (λ p. ap (λ (cores : List (Option Resource)). processor_among g cores p) (sym same)) changed

  pub works_save : (r : ℕ) → AreWorks g works (after_in g t pool (Save (core_number r)))
  works_save r =
      by_option (AreWorks g works) (at_place pool.resources r) _ _ (λ is. are)
      (λ c is. by_option (AreWorks g works) c.saving _ _ (λ is2. are)
      (λ u is2. by_cond (AreWorks g works) (may_unit_run g pool u) _ _ (λ runs. put_away) (λ runs. put_away)))
    where
      put_away : AreWorks g works (pools.change_core r pools.saved_core pool)
      put_away = works_core g r pools.saved_core works pool (λ c at. refl) are

  pub works_replenish : (u : UnitId) → AreWorks g works (after_in g t pool (Repl u))
  works_replenish u =
      let next : Pool = pools.with_records (records_after_replenish pool.scheduler.records t u) pool in
      by_option (AreWorks g works) (pools.unit_core pool u) _ _ (λ is. are)
      (λ r is. by_option (AreWorks g works) (unit_rtds_record next.scheduler.records u) _ _ (λ is2. are)
      (λ x is2. works_core g r (pools.due_within t x.budget) works next (λ c at. refl) are))

-- after the processor, which is there, took the vCPU that it is to take
pub works_parted : (g t p : ℕ) (works : List (Option Moment)) (pool : Pool) (x : Processor) (taken : Option VcpuId) → IsKnownPool g pool → AreWorks g works pool → p < length works → pool_processor g pool p ≡ Some x
    → ((v : VcpuId) → taken ≡ Some v → (q : ℕ) → running_guest g pool q ≡ Some v → q ≡ p)
    → AreWorks g (slice_set works p (work_of (parted_with g t p taken pool).domains taken)) (parted_with g t p taken pool)
works_parted g t p works pool x None known are inside there only =
    works_core g (p / g) pools.reopened_core (slice_set works p None) (change_processor g p (with_doing Idle) pool) (λ c at. open_same c) (works_freed g p works pool are Idle idle_runs_none)
  where
    open_same : (c : Resource) → (pools.reopened_core c).processors ≡ c.processors
    open_same c = by_cond (λ (y : Resource). y.processors ≡ c.processors) (list_any pools.is_held_back c.processors) _ _ (λ is. refl) (λ is. refl)
works_parted g t p works pool x (Some v) known are inside there only =
    works_core g (p / g) pools.reopened_core (slice_set works p (done_among (started_on g t p v pool).domains v)) (started_on g t p v pool) (λ c at. open_same c) (works_started g p works pool are t v x inside there (only v refl))
  where
    open_same : (c : Resource) → (pools.reopened_core c).processors ≡ c.processors
    open_same c = by_cond (λ (y : Resource). y.processors ≡ c.processors) (list_any pools.is_held_back c.processors) _ _ (λ is. refl) (λ is. refl)

-- the vCPU that belongs on a processor: its unit is that of the core, and its place that of the processor
belongs : (g : ℕ) (pool : Pool) (c : Resource) (i : ℕ) (v : VcpuId) → i < g → pools.vcpu_to_run g pool c i ≡ Some v → (c.cur ≡ Some (vcpu_unit g v)) × (v.n % g ≡ i)
belongs g pool c i v inside found =
    let Q : Option VcpuId → Type 0 = λ o. o ≡ Some v → (c.cur ≡ Some (vcpu_unit g v)) × (v.n % g ≡ i) in
    by_option Q c.cur _ _ (λ is e. absurd (cc))
    (λ u is. by_option Q (pools.pool_vcpu pool (record { dom = u.dom; n = u.n * g + i })) _ _ (λ is2 e. absurd (cc))
    (λ x is2. by_cond Q (may_unit_run g pool u && is_awake x) _ _ (λ is3 e. own u is e) (λ is3 e. absurd (cc)))) found
  where
    own : (u : UnitId) → c.cur ≡ Some u → Some (record { dom = u.dom; n = u.n * g + i }) ≡ Some v → (c.cur ≡ Some (vcpu_unit g v)) × (v.n % g ≡ i)
    own u is e =
        let same : ◌≡◌ {A = VcpuId} (record { dom = u.dom; n = u.n * g + i }) v = cc in
        let at : c.cur ≡ Some (record { dom = u.dom; n = (u.n * g + i) / g }) = rw (div-mul-add u.n g i inside) is in
        subst (λ (w : VcpuId). (c.cur ≡ Some (vcpu_unit g w)) × (w.n % g ≡ i)) same (at, mod-mul-add u.n g i inside)

-- what is known of a processor that may leave: it is there, its core is, and the vCPU that it takes is run by no other
pub record Leaves (g t p : ℕ) (pool : Pool) : Type 0 where
  pub core : Resource
  pub at : at_place pool.resources (p / g) ≡ Some core
  pub processor : Processor
  pub there : pool_processor g pool p ≡ Some processor
  pub only : (v : VcpuId) → taken_at g pool p ≡ Some v → (q : ℕ) → running_guest g pool q ≡ Some v → q ≡ p
  pub after : parted_with g t p (taken_at g pool p) pool ≡ after_in g t pool (Leave (processor_number p))

pub may_leave : (g t p : ℕ) (pool : Pool) → 0 < g → IsKnownPool g pool → enabled_in g t pool (Leave (processor_number p)) ≡ true → Leaves g t p pool
may_leave g t p pool some known on =
    let found = some-test_at pool.resources (p / g) (λ (c : Resource). not (pools.is_gathering c)) (and_left (test_at pool.resources (p / g) (λ (c : Resource). not (pools.is_gathering c))) _ on) in
    let there = is_there (pool_processor g pool p) (and_right (test_at pool.resources (p / g) (λ (c : Resource). not (pools.is_gathering c))) _ on) in
    let c : Resource = found.0 in
    let taken : taken_at g pool p ≡ pools.vcpu_to_run g pool c (p % g) = ap (λ (o : Option Resource). elim o as (λ _. Option VcpuId) [ None ↦ None | Some x ↦ pools.vcpu_to_run g pool x (p % g) ]) found.1 in
    record {
      core = c;
      at = found.1;
      processor = there.0;
      there = there.1;
      only = λ v is q runs. (let own = belongs g pool c (p % g) v (mod_below p g some) (sym taken ∙ is) in only_there g pool p c v known found.1 own.0 own.1 q runs);
      after = ap (λ (o : Option VcpuId). parted_with g t p o pool) taken ∙ ap (λ (o : Option Resource). elim o as (λ _. Pool) [ None ↦ pool | Some x ↦ pools.after_leave g t p x pool ]) (sym found.1);
    }
  where
    is_there : (o : Option Processor) → elim o as (λ _. Bool) [ None ↦ false | Some q ↦ pools.is_held_back q && is_not_stalled t q ] ≡ true → (x : Processor) × (o ≡ Some x)
    is_there None e = absurd (cc)
    is_there (Some q) e = (q, refl)

-- after the vCPU, which was not started, woke
pub works_wake : (g t : ℕ) (v : VcpuId) (works : List (Option Moment)) (pool : Pool) → 0 < g → IsGranularity g → length pool.resources * g ≤ 64 → length works ≡ 64 → IsKnownPool g pool → ((x : Vcpu) → vcpu_among pool.domains v ≡ Some x → x.started ≡ None) → AreWorks g works pool
    → AreWorks g (woken_works g t v pool works) (after_in g t pool (Wake v))
works_wake g t v works pool some granularity few count known still are =
    by_two (may_unit_run g (change_vcpu v woken_vcpu pool) (vcpu_unit g v)) (pools.is_unit_off (change_vcpu v woken_vcpu pool) (vcpu_unit g v)) (by_core (pools.unit_core pool (vcpu_unit g v)) refl)
  where
    next : Pool
    next = change_vcpu v woken_vcpu pool

    here : AreWorks g works next
    here = works_woken g v works pool still are

    place : ℕ → ℕ
    place r = r * g + v.n % g

    joins : (r : ℕ) → pools.unit_core pool (vcpu_unit g v) ≡ Some r → (x : Processor) → pool_processor g pool (place r) ≡ Some x → AreWorks g (slice_set works (place r) (done_started t v next.domains)) (started_on g t (place r) v next)
    joins r is x there =
        let low : v.n % g < g = omega arith in
        let core : place r / g ≡ r = div-mul-add r g (v.n % g) low in
        let sibling : place r % g ≡ v.n % g = mod-mul-add r g (v.n % g) low in
        let found = found_at r (λ (c : Resource). is_unit c.cur (vcpu_unit g v)) pool.resources is in
        let at : at_place pool.resources (place r / g) ≡ Some found.0 = subst (λ (k : ℕ). at_place pool.resources k ≡ Some found.0) (sym core) found.1 in
        let inside = few_processors g (place r) pool.resources found.0 granularity few at in
        works_started g (place r) works next here t v x (omega (arith, inside, count)) there
        (only_there g pool (place r) found.0 v known at (is_unit_same found.0.cur (vcpu_unit g v) found.2) (sym sibling))

    by_idle : (r : ℕ) → pools.unit_core pool (vcpu_unit g v) ≡ Some r → (x : Processor) → pool_processor g pool (place r) ≡ Some x → (b : Bool) → AreWorks g (cond b (slice_set works (place r) (done_started t v next.domains)) works) (cond b (started_on g t (place r) v next) next)
    by_idle r is x there false = here
    by_idle r is x there true = joins r is x there

    by_processor : (r : ℕ) → pools.unit_core pool (vcpu_unit g v) ≡ Some r → (o : Option Processor) → pool_processor g pool (place r) ≡ o
        → AreWorks g (cond (elim o as (λ _. Bool) [ None ↦ false | Some x ↦ pools.is_idling x ]) (slice_set works (place r) (done_started t v next.domains)) works) (elim o as (λ _. Pool) [ None ↦ next | Some x ↦ cond (pools.is_idling x) (started_on g t (place r) v next) next ])
    by_processor r is None none = here
    by_processor r is (Some x) there = by_idle r is x there (pools.is_idling x)

    by_core : (o : Option ℕ) → pools.unit_core pool (vcpu_unit g v) ≡ o
        → AreWorks g (elim o as (λ _. List (Option Moment)) [ None ↦ works | Some r ↦ cond (idles_among g pool.resources (r * g + v.n % g)) (slice_set works (r * g + v.n % g) (done_started t v next.domains)) works ])
        (elim o as (λ _. Pool) [ None ↦ next | Some r ↦ elim (pool_processor g next (r * g + v.n % g)) as (λ _. Pool) [ None ↦ next | Some q ↦ cond (pools.is_idling q) (started_on g t (r * g + v.n % g) v next) next ] ])
    by_core None is = here
    by_core (Some r) is = by_processor r is (pool_processor g pool (place r)) refl

    by_two : (runs off : Bool) → AreWorks g (joined_works g v (done_started t v next.domains) pool.resources works) (pools.joined_siblings g t v next)
        → AreWorks g (elim runs as (λ _. List (Option Moment)) [ false ↦ works | true ↦ cond off works (joined_works g v (done_started t v next.domains) pool.resources works) ])
        (elim runs as (λ _. Pool) [ false ↦ next | true ↦ cond off (pools.queue_unit (vcpu_unit g v) next) (pools.joined_siblings g t v next) ])
    by_two false off joined = here
    by_two true true joined = here
    by_two true false joined = joined
