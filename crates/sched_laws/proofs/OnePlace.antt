-- A unit has at most one place in its pool, and one where it is runnable.
use Rattle.std.proofs.Common.{◌≡◌, ◌≢◌, ◌<◌, ◌≤◌, ℕ, suc, Bool, true, false, not, List, [], ◌∷◌, refl, arith, subst, sym, ◌∙◌, ap, cond, ◌⊎◌, inl, inr}
use Rattle.std.specs.Prelude.{Option, Some, None, ◌&&◌, ◌||◌, ◌+◌, ◌*◌, ◌/◌, ◌%◌}
use Rattle.std.specs.List.{list_any, AllByRecursion}
use Rattle.std.proofs.lemmas.Bool.{not-true}
use Rattle.sched_base.specs.Numbers.{moment}
use Rattle.sched_base.specs.declared.Moment.{Moment}
use Rattle.sched_base.specs.declared.UnitId.{UnitId}
use Rattle.sched_base.specs.declared.VcpuId.{VcpuId}
use Rattle.sched_model.specs.declared.config.ParamChange.{ParamChange}
use Rattle.sched_model.specs.declared.config.ParamChange.TheVariants as changes
use Rattle.sched_model.specs.declared.state.Domain.{Domain}
use Rattle.sched_model.specs.declared.state.Vcpu.{Vcpu}
use Rattle.sched_model.specs.declared.state.Doing.TheVariants.{Guest, Idle, Held}
use Rattle.sched_model.specs.declared.state.Stage.TheVariants.{Open}
use Rattle.sched_model.specs.declared.state.Processor.{Processor}
use Rattle.sched_model.specs.declared.state.Resource.{Resource}
use Rattle.sched_model.specs.Places.{at_place, put_at, change_at, change_each, change_item, numbered_items, without_unit, same_unit, is_unit, has_listed_unit}
use Rattle.sched_model.specs.declared.state.Pool.{Pool}
use Rattle.sched_model.specs.declared.state.Scheduler.{Scheduler}
use Rattle.sched_model.specs.declared.state.Records.{Records}
use Rattle.sched_model.specs.State.{is_awake, may_unit_run, runnable_among}
use Rattle.sched_model.specs.EligibleUnits.{Decision}
use Rattle.sched_model.specs.Policy as policy
use Rattle.sched_model.specs.Policy.{decision_of, after_decision, unit_rtds_record}
use Rattle.sched_model.specs.Pool as pools
use Rattle.sched_model.specs.Pool.{settled_pool, pool_core_set, reconsidered_core, change_core, change_processor, change_vcpu, change_cores_of, pending_core, with_doing, queue_unit, started_on, decided_core, same_choice, core_ask, with_records, is_domain_unit}
use Rattle.sched_laws.proofs.EachPlace.{EachAt-change_to, EachPlace-change_at, EachPlace-put_at, EachPlace-change_each, by_option, by_test, by_cond}
use Rattle.sched_laws.proofs.Lists.{none_passes, at_numbered}
use Rattle.sched_base.proofs.Lists.{AllByRecursion-map, AllByRecursion-push, AllByRecursion-filter}
use Rattle.sched_laws.proofs.Choices.{is_unit_same, same_unit_same, decision_has}
use Rattle.sched_laws.specs.PoolFacts.{IfUnit}
use Rattle.sched_laws.proofs.Counts.{same_unit_refl, same_unit_other, total-change_at, total-change_at_same, total-change_each, total-put_at, total_at, total_two, total_none, times-push, times-filter_yes, times-filter_no, times_none, times_some}
use Rattle.sched_laws.specs.Counts.{total, one, one_at, times}
use Rattle.sched_laws.proofs.Awake.{runnable-same, runnable-other, runnable-more}
use Rattle.sched_laws.proofs.Sound.{guest_of_is, change_at-twice}
use Rattle.sched_laws.specs.PoolFacts.{AreSound}
use Rattle.sched_base.proofs.Bools.{and_left, and_right, not_false, or_left, or_right, or_more}
use Rattle.sched_laws.specs.PoolFacts.{core_places, places, CurRuns, OneBut, OnePlace}

-- the core keeps its units, and stays pending
abbrev pub KeepsUnits : Resource → Resource → Type 0
KeepsUnits c d = (d.cur ≡ c.cur) × (d.saving ≡ c.saving) × (c.pending ≡ true → d.pending ≡ true)

places_kept : (u : UnitId) (c d : Resource) → KeepsUnits c d → core_places u d ≡ core_places u c
places_kept u c d keeps = ap (λ o. one_at u o + one_at u d.saving) keeps.0 ∙ ap (λ o. one_at u c.cur + one_at u o) keeps.1

pub one_same : (u : UnitId) → one_at u (Some u) ≡ 1
one_same u = rw (same_unit_refl u) refl

one_is : (u w : UnitId) → one u w ≡ one_at u (Some w)
one_is u w =
    elim (same_unit u w) as (λ b. same_unit u w ≡ b → ◌≡◌ {A = ℕ} (cond b 1 0) (one_at u (Some w))) [
      | true ↦ λ is. subst (λ (x : UnitId). 1 ≡ one_at u (Some x)) (same_unit_same u w is) (sym (one_same u))
      | false ↦ λ is. elim (same_unit w u) as (λ b. same_unit w u ≡ b → ◌≡◌ {A = ℕ} 0 (cond b 1 0)) [
        | true ↦ λ is2. absurd (same_unit_other u w is (sym (same_unit_same w u is2)))
        | false ↦ λ is2. refl
      ] refl
    ] refl

-- the same unit, or another
pub same_or_other : (u w : UnitId) → (u ≡ w) ⊎ (u ≢ w)
same_or_other u w = elim (same_unit u w) as (λ b. same_unit u w ≡ b → (u ≡ w) ⊎ (u ≢ w)) [ true ↦ λ is. inl (same_unit_same u w is) | false ↦ λ is. inr (same_unit_other u w is) ] refl

one_other : (u w : UnitId) → u ≢ w → one_at u (Some w) ≡ 0
one_other u w other = elim (same_unit w u) as (λ b. same_unit w u ≡ b → ◌≡◌ {A = ℕ} (cond b 1 0) 0) [ true ↦ λ is. absurd (other (sym (same_unit_same w u is))) | false ↦ λ is. refl ] refl

pub one_at_some : (u : UnitId) (o : Option UnitId) → 1 ≤ one_at u o → o ≡ Some u
one_at_some u o some = elim (is_unit o u) as (λ b. is_unit o u ≡ b → 1 ≤ cond b 1 0 → o ≡ Some u) [ true ↦ λ is e. is_unit_same o u is | false ↦ λ is e. absurd (omega (arith, e)) ] refl some

-- both of two things that hold of each
pub both_of : (P Q : UnitId → Type 0) (units : List UnitId) → AllByRecursion P units → AllByRecursion Q units → AllByRecursion (λ u. P u × Q u) units
both_of P Q [] a b = tt
both_of P Q (u ∷ units) a b = ((a.0, b.0), both_of P Q units a.1 b.1)

-- each unit of the list stands in it
pub there_each : (units : List UnitId) → AllByRecursion (λ u. 1 ≤ times u units) units
there_each [] = tt
there_each (u ∷ units) = ((let e : one u u ≡ 1 = rw (same_unit_refl u) refl in omega (arith, e)), AllByRecursion-map (λ w. 1 ≤ times w units) (λ w. 1 ≤ one w u + times w units) (λ w some. omega (arith, some)) units (there_each units))

-- a unit that is off has no place, and one that is not has one
off_each : (u : UnitId) (n : ℕ) (cores : List (Option Resource)) → list_any (λ (e : ℕ × Resource). is_unit e.1.cur u || is_unit e.1.saving u) (numbered_items n cores) ≡ false → total (core_places u) cores ≡ 0
off_each u n cores none =
    total_none (core_places u) cores (λ i c at.
    let no = at_numbered (λ (c : Resource). (is_unit c.cur u || is_unit c.saving u) ≡ false) n cores (none_passes _ _ none) i c at in
    let a : is_unit c.cur u ≡ false = or_left _ _ no in
    let b : is_unit c.saving u ≡ false = or_right (is_unit c.cur u) _ no in
    rw (a, b) refl)

on_some : (u : UnitId) (n : ℕ) (cores : List (Option Resource)) → list_any (λ (e : ℕ × Resource). is_unit e.1.cur u || is_unit e.1.saving u) (numbered_items n cores) ≡ true → 1 ≤ total (core_places u) cores
on_some u n [] some = absurd (cc)
on_some u n (None ∷ cores) some = on_some u (suc n) cores some
on_some u n (Some c ∷ cores) some =
    elim (is_unit c.cur u) as (λ a. (a || is_unit c.saving u || list_any (λ (e : ℕ × Resource). is_unit e.1.cur u || is_unit e.1.saving u) (numbered_items (suc n) cores)) ≡ true → 1 ≤ (cond a 1 0 + one_at u c.saving) + total (core_places u) cores) [
      | true ↦ λ e. omega arith
      | false ↦ λ e. elim (is_unit c.saving u) as (λ b. (b || list_any (λ (e : ℕ × Resource). is_unit e.1.cur u || is_unit e.1.saving u) (numbered_items (suc n) cores)) ≡ true → 1 ≤ (0 + cond b 1 0) + total (core_places u) cores) [
        | true ↦ λ e2. omega arith
        | false ↦ λ e2. (let r = on_some u (suc n) cores e2 in omega (arith, r))
      ] e
    ] some

pub off_is : (pool : Pool) (u : UnitId) → pools.is_unit_off pool u ≡ true → places pool u ≡ 0
off_is pool u off =
    let a = times_none u pool.scheduler.queue (not-true _ (and_left (not (has_listed_unit pool.scheduler.queue u)) _ off)) in
    let b = off_each u 0 pool.resources (not-true _ (and_right (not (has_listed_unit pool.scheduler.queue u)) _ off)) in
    omega (arith, a, b)

pub on_is : (pool : Pool) (u : UnitId) → pools.is_unit_off pool u ≡ false → 1 ≤ places pool u
on_is pool u on =
    elim (has_listed_unit pool.scheduler.queue u) as (λ b. has_listed_unit pool.scheduler.queue u ≡ b → (not b && not (list_any (λ (e : ℕ × Resource). is_unit e.1.cur u || is_unit e.1.saving u) (numbered_items 0 pool.resources))) ≡ false → 1 ≤ places pool u) [
      | true ↦ λ is e. (let r = times_some u pool.scheduler.queue is in omega (arith, r))
      | false ↦ λ is e. (let r = on_some u 0 pool.resources (not_false _ e) in omega (arith, r))
    ] refl on

module _ (g : ℕ) (some : 0 < g) (Rest : UnitId → Type 0) where
  abbrev One : Pool → Type 0
  One = OneBut g Rest

  cur_kept : (domains : List (Option Domain)) (c d : Resource) → KeepsUnits c d → CurRuns g domains c → CurRuns g domains d
  cur_kept domains c d keeps here u is = elim (here u (sym keeps.0 ∙ is)) [ inl runs ↦ inl runs | inr pending ↦ inr (keeps.2 pending) ]

  -- cores that keep their units
  pub one_change_each : (f : ℕ → Resource → Resource) (pool : Pool) → ((r : ℕ) (c : Resource) → KeepsUnits c (f r c)) → One pool → One (record pool { resources = change_each 0 f pool.resources })
  one_change_each f pool keeps one =
      let same : (u : UnitId) → total (core_places u) (change_each 0 f pool.resources) ≡ total (core_places u) pool.resources = λ u. total-change_each (core_places u) 0 f pool.resources (λ r c. places_kept u c (f r c) (keeps r c)) in
      record {
        most = λ u. (let a = one.most u in let e = same u in omega (arith, a, e));
        runs = λ u runs. elim (one.runs u runs) [ inl has ↦ inl (let e = same u in omega (arith, has, e)) | inr rest ↦ inr rest ];
        waits = one.waits;
        cur = EachPlace-change_each (CurRuns g pool.domains) f pool.resources one.cur (λ r c at. cur_kept pool.domains c (f r c) (keeps r c));
      }

  pub one_change_core : (r : ℕ) (f : Resource → Resource) (pool : Pool) → ((c : Resource) → KeepsUnits c (f c)) → One pool → One (change_core r f pool)
  one_change_core r f pool keeps one =
      let same : (u : UnitId) → total (core_places u) (change_at r f pool.resources) ≡ total (core_places u) pool.resources = λ u. total-change_at_same (core_places u) r f pool.resources (λ c at. places_kept u c (f c) (keeps c)) in
      record {
        most = λ u. (let a = one.most u in let e = same u in omega (arith, a, e));
        runs = λ u runs. elim (one.runs u runs) [ inl has ↦ inl (let e = same u in omega (arith, has, e)) | inr rest ↦ inr rest ];
        waits = one.waits;
        cur = EachPlace-change_at (CurRuns g pool.domains) r f pool.resources one.cur (λ c at. cur_kept pool.domains c (f c) (keeps c));
      }

  pub one_change_processor : (p : ℕ) (f : Processor → Processor) (pool : Pool) → One pool → One (change_processor g p f pool)
  one_change_processor p f pool one = one_change_core (p / g) _ pool (λ c. (refl, refl, λ e. e)) one

  -- domains under which the same units are runnable
  pub one_domains : (domains : List (Option Domain)) (pool : Pool) → ((u : UnitId) → runnable_among g domains u ≡ may_unit_run g pool u) → One pool → One (record pool { domains = domains })
  one_domains domains pool same one = record {
    most = one.most;
    runs = λ u runs. one.runs u (sym (same u) ∙ runs);
    waits = AllByRecursion-map (λ u. may_unit_run g pool u ≡ true) (λ u. runnable_among g domains u ≡ true) (λ u runs. same u ∙ runs) pool.scheduler.queue one.waits;
    cur = λ r c at u is. elim (one.cur r c at u is) [ inl runs ↦ inl (same u ∙ runs) | inr pending ↦ inr pending ];
  }

  pub one_change_vcpu : (v : VcpuId) (f : Vcpu → Vcpu) (pool : Pool) → ((x : Vcpu) → is_awake (f x) ≡ is_awake x) → One pool → One (change_vcpu v f pool)
  one_change_vcpu v f pool same one = one_domains _ pool (runnable-same g some v f same pool) one

  pub one_started_on : (t p : ℕ) (v : VcpuId) (pool : Pool) → One pool → One (started_on g t p v pool)
  one_started_on t p v pool one = one_change_processor p (with_doing (Guest v)) (change_vcpu v (λ x. record x { started = Some (moment t) }) pool) (one_change_vcpu v (λ x. record x { started = Some (moment t) }) pool (λ x. refl) one)

  -- a unit that gets a place in the queue
  pub one_queue_unit : (u : UnitId) (pool : Pool) → places pool u ≡ 0 → may_unit_run g pool u ≡ true → OneBut g (λ w. (w ≡ u) ⊎ Rest w) pool → One (queue_unit u pool)
  one_queue_unit u pool off runs one =
      let more : (w : UnitId) → places (queue_unit u pool) w ≡ places pool w + one_at w (Some u) = λ w. (let a = times-push w u pool.scheduler.queue in let b = one_is w u in omega (arith, a, b)) in
      record {
        most = λ w. elim (same_or_other w u) [
          | inl e ↦ subst (λ x. places (queue_unit u pool) x ≤ 1) (sym e) (let m = more u in let o = one_same u in omega (arith, m, o, off))
          | inr e ↦ (let m = more w in let o = one_other w u e in let a = one.most w in omega (arith, m, o, a))
        ];
        runs = λ w r. elim (one.runs w r) [
          | inl has ↦ inl (let m = more w in omega (arith, m, has))
          | inr rest ↦ elim rest [
            | inl e ↦ inl (subst (λ x. 1 ≤ places (queue_unit u pool) x) (sym e) (let m = more u in let o = one_same u in omega (arith, m, o)))
            | inr later ↦ inr later
          ]
        ];
        waits = AllByRecursion-push (λ w. may_unit_run g pool w ≡ true) pool.scheduler.queue u one.waits runs;
        cur = one.cur;
      }

  -- a unit that has a place, or is not runnable, is none of the rest
  pub one_less : (u : UnitId) (pool : Pool) → (may_unit_run g pool u ≡ true → 1 ≤ places pool u) → OneBut g (λ w. (w ≡ u) ⊎ Rest w) pool → One pool
  one_less u pool has one = record {
    most = one.most;
    runs = λ w r. elim (one.runs w r) [
      | inl there ↦ inl there
      | inr rest ↦ elim rest [
        | inl e ↦ inl (subst (λ x. 1 ≤ places pool x) (sym e) (has (subst (λ x. may_unit_run g pool x ≡ true) e r)))
        | inr later ↦ inr later
      ]
    ];
    waits = one.waits;
    cur = one.cur;
  }

  pub one_settled : (t : ℕ) (pool : Pool) → One pool → One (settled_pool t pool)
  one_settled t pool one =
      one_change_each (reconsidered_core t (pool_core_set pool) pool.scheduler) pool
      (λ r c. by_cond (KeepsUnits c) c.leaving c _ (λ is. (refl, refl, λ e. e)) (λ is. (refl, refl, λ e. or_more c.pending _ e))) one

  pub one_joined_siblings : (t : ℕ) (v : VcpuId) (pool : Pool) → One pool → One (pools.joined_siblings g t v pool)
  one_joined_siblings t v pool one =
      by_option One (pools.unit_core pool (pools.vcpu_unit g v)) _ _ (λ is. one)
      (λ r is. by_option One (pools.pool_processor g pool (r * g + v.n % g)) _ _ (λ is2. one)
      (λ q is2. by_cond One (pools.is_idling q) _ _ (λ idle. one_started_on t (r * g + v.n % g) v pool one) (λ idle. one)))

  one_change_cores_of : (d : ℕ) (f : Resource → Resource) (pool : Pool) → ((c : Resource) → KeepsUnits c (f c)) → One pool → One (change_cores_of d f pool)
  one_change_cores_of d f pool keeps one = one_change_each (λ r c. cond (is_domain_unit d c.cur) (f c) c) pool (λ r c. by_cond (KeepsUnits c) (is_domain_unit d c.cur) (f c) c (λ is. keeps c) (λ is. (refl, refl, λ e. e))) one

  pub one_scheduler : (scheduler : Scheduler) (pool : Pool) → scheduler.queue ≡ pool.scheduler.queue → One pool → One (record pool { scheduler = scheduler })
  one_scheduler scheduler pool same one =
      let e : (u : UnitId) → times u scheduler.queue ≡ times u pool.scheduler.queue = λ u. ap (times u) same in
      record {
        most = λ u. (let a = one.most u in let b = e u in omega (arith, a, b));
        runs = λ u runs. elim (one.runs u runs) [ inl has ↦ inl (let b = e u in omega (arith, has, b)) | inr rest ↦ inr rest ];
        waits = subst (AllByRecursion (λ u. may_unit_run g pool u ≡ true)) (sym same) one.waits;
        cur = one.cur;
      }

  pub one_marked : (change : ParamChange) (t : ℕ) (pool : Pool) → One pool → One (pools.marked_pool change t pool)
  one_marked (changes.Dom d weight (Some cap)) t pool one = one_change_cores_of d.0 _ pool (λ c. (refl, refl, λ e. refl)) one
  one_marked (changes.Frame frame) t pool one = one_change_each (λ r c. pending_core c) pool (λ r c. (refl, refl, λ e. refl)) one
  one_marked change t pool one = one

-- an Arrive
stopped_awake : (t : ℕ) (x : Vcpu) → is_awake (pools.stopped_vcpu t x) ≡ is_awake x
stopped_awake t x = by_option (λ (y : Vcpu). is_awake y ≡ is_awake x) x.started _ _ (λ is. refl) (λ from is. refl)

module _ (g : ℕ) (some : 0 < g) where
  abbrev One0 : Pool → Type 0
  One0 = OnePlace g

  abbrev Nobody : UnitId → Type 0
  Nobody u = ⊥

  -- a wake: its unit may have become runnable, and no other
  one_woken : (v : VcpuId) (pool : Pool) → One0 pool → OneBut g (λ w. (w ≡ pools.vcpu_unit g v) ⊎ ⊥) (change_vcpu v pools.woken_vcpu pool)
  one_woken v pool one =
      let next : Pool = change_vcpu v pools.woken_vcpu pool in
      let more : (u : UnitId) → may_unit_run g pool u ≡ true → may_unit_run g next u ≡ true = λ u runs. runnable-more g some v pools.woken_vcpu (λ x. refl) pool u runs in
      record {
        most = one.most;
        runs = λ u runs. elim (same_or_other u (pools.vcpu_unit g v)) [
          | inl e ↦ inr (inl e)
          | inr e ↦ elim (one.runs u (sym (runnable-other g some v pools.woken_vcpu pool u e) ∙ runs)) [ inl has ↦ inl has | inr none ↦ absurd none ]
        ];
        waits = AllByRecursion-map (λ u. may_unit_run g pool u ≡ true) (λ u. may_unit_run g next u ≡ true) more pool.scheduler.queue one.waits;
        cur = λ r c at u is. elim (one.cur r c at u is) [ inl runs ↦ inl (more u runs) | inr pending ↦ inr pending ];
      }

  pub one_after_wake : (t : ℕ) (v : VcpuId) (pool : Pool) → One0 pool → One0 (pools.after_wake g t v pool)
  one_after_wake t v pool one =
      let u : UnitId = pools.vcpu_unit g v in
      let next : Pool = change_vcpu v pools.woken_vcpu pool in
      let woken : OneBut g (λ w. (w ≡ u) ⊎ ⊥) next = one_woken v pool one in
      by_test One0 (may_unit_run g next u) _ _
      (λ runs. by_cond One0 (pools.is_unit_off next u) _ _
      (λ off. one_queue_unit g some Nobody u next (off_is next u off) runs woken)
      (λ off. one_joined_siblings g some Nobody t v next (one_less g some Nobody u next (λ r. on_is next u off) woken)))
      (λ runs. one_less g some Nobody u next (λ r. absurd (cc)) woken)

  -- a block: its unit, which is the core's own, may be no longer runnable, and then the core is pending
  pub one_after_block : (t p : ℕ) (v : VcpuId) (pool : Pool) → pools.running_guest g pool p ≡ Some v → AreSound g pool → One0 pool → One0 (pools.after_block g t p v pool)
  one_after_block t p v pool guest sound one =
      let u : UnitId = pools.vcpu_unit g v in
      let found = guest_of_is g pool p v guest in
      let c0 : Resource = found.0 in
      let own : c0.cur ≡ Some u = ((sound (p / g) c0 found.2).guests (p % g) found.1 v found.3 found.4).0 in
      let slept : Pool = change_vcpu v (pools.put_to_sleep t) pool in
      let next : Pool = change_processor g p (with_doing Idle) slept in
      let has : 1 ≤ total (core_places u) pool.resources = (let a = total_at (core_places u) (p / g) c0 pool.resources found.2 in let b : one_at u c0.cur ≡ 1 = rw own (one_same u) in omega (arith, a, b)) in
      let other : (w : UnitId) → w ≢ u → may_unit_run g slept w ≡ may_unit_run g pool w = λ w e. runnable-other g some v (pools.put_to_sleep t) pool w e in
      let most : (w : UnitId) → may_unit_run g slept w ≡ true → (1 ≤ places pool w) ⊎ ⊥ = λ w runs. elim (same_or_other w u) [
        | inl e ↦ inl (subst (λ (x : UnitId). 1 ≤ places pool x) (sym e) (omega (arith, has)))
        | inr e ↦ one.runs w (sym (other w e) ∙ runs)
      ] in
      let waits : AllByRecursion (λ w. may_unit_run g slept w ≡ true) pool.scheduler.queue =
      AllByRecursion-map (λ w. (1 ≤ times w pool.scheduler.queue) × (may_unit_run g pool w ≡ true)) (λ w. may_unit_run g slept w ≡ true)
      (λ w both. elim (same_or_other w u) [
        | inl e ↦ absurd (let a = one.most u in let b = subst (λ (x : UnitId). 1 ≤ times x pool.scheduler.queue) e both.0 in omega (arith, a, b, has))
        | inr e ↦ other w e ∙ both.1
      ]) pool.scheduler.queue (both_of _ _ pool.scheduler.queue (there_each pool.scheduler.queue) one.waits) in
      by_cond One0 (may_unit_run g next u) _ _
      (λ runs. one_change_processor g some Nobody p (with_doing Idle) slept (record {
        most = one.most;
        runs = most;
        waits = waits;
        cur = λ r c at w is. elim (same_or_other w u) [
          | inl e ↦ inl (subst (λ (x : UnitId). may_unit_run g slept x ≡ true) (sym e) runs)
          | inr e ↦ elim (one.cur r c at w is) [ inl old ↦ inl (other w e ∙ old) | inr pending ↦ inr pending ]
        ];
      }))
      (λ runs.
      let f : Resource → Resource = λ c. record c { pending = true; processors = change_item (p % g) (with_doing Idle) c.processors } in
      let same : (w : UnitId) → total (core_places w) (change_at (p / g) f pool.resources) ≡ total (core_places w) pool.resources = λ w. total-change_at_same (core_places w) (p / g) f pool.resources (λ c at. refl) in
      subst (λ (cores : List (Option Resource)). One0 (record slept { resources = cores })) (sym (change_at-twice (p / g) (λ c. record c { pending = true }) (λ c. record c { processors = change_item (p % g) (with_doing Idle) c.processors }) pool.resources)) (record {
        most = λ w. (let a = one.most w in let e = same w in omega (arith, a, e));
        runs = λ w r. elim (most w r) [ inl there ↦ inl (let e = same w in omega (arith, there, e)) | inr none ↦ absurd none ];
        waits = waits;
        cur = EachAt-change_to (λ r c. (at_place pool.resources r ≡ Some c) × CurRuns g pool.domains c) (λ r. CurRuns g slept.domains) (p / g) f pool.resources (λ r c at. (at, one.cur r c at))
            (λ r c elsewhere known w is. elim (same_or_other w u) [
              | inl e ↦ absurd (
                  let two = total_two (core_places u) (p / g) r c0 c pool.resources (λ e2. elsewhere (sym e2)) found.2 known.0 in
                  let a : one_at u c0.cur ≡ 1 = rw own (one_same u) in
                  let b : one_at u c.cur ≡ 1 = rw is (subst (λ (x : UnitId). one_at u (Some x) ≡ 1) (sym e) (one_same u)) in
                  let m = one.most u in
                  omega (arith, two, a, b, m))
              | inr e ↦ elim (known.1 w is) [ inl old ↦ inl (other w e ∙ old) | inr pending ↦ inr pending ]
            ])
            (λ c at known w is. inr refl);
      }))

  pub one_after_arrive : (t p : ℕ) (pool : Pool) → One0 pool → One0 (pools.after_arrive g t p pool)
  one_after_arrive t p pool one =
      one_change_processor g some Nobody p (with_doing Held) _ (by_option One0 (pools.running_guest g pool p) _ _ (λ is. one) (λ v is. one_change_vcpu g some Nobody v (pools.stopped_vcpu t) pool (stopped_awake t) one))

  pub one_after_leave : (t p : ℕ) (c : Resource) (pool : Pool) → One0 pool → One0 (pools.after_leave g t p c pool)
  one_after_leave t p c pool one =
      one_change_core g some Nobody (p / g) pools.reopened_core _ (λ c2. by_cond (KeepsUnits c2) (list_any pools.is_held_back c2.processors) c2 (record c2 { stage = Open }) (λ is. (refl, refl, λ e. e)) (λ is. (refl, refl, λ e. e)))
      (by_option One0 (pools.vcpu_to_run g pool c (p % g)) _ _ (λ is. one_change_processor g some Nobody p (with_doing Idle) pool one) (λ v is. one_started_on g some Nobody t p v pool one))

  -- a save: the unit leaves the core, and joins the queue where it is runnable
  pub one_after_save : (r : ℕ) (u : UnitId) (c : Resource) (pool : Pool) → at_place pool.resources r ≡ Some c → c.saving ≡ Some u → One0 pool → One0 (pools.after_save g r u pool)
  one_after_save r u c pool at saves one =
      let next : Pool = change_core r pools.saved_core pool in
      let less : (w : UnitId) → places next w + one_at w (Some u) ≡ places pool w = λ w. (
      let a = total-change_at (core_places w) r pools.saved_core pool.resources c at in
      let b : one_at w c.saving ≡ one_at w (Some u) = ap (one_at w) saves in
      omega (arith, a, b)) in
      let base : OneBut g (λ w. (w ≡ u) ⊎ ⊥) next = record {
        most = λ w. (let a = one.most w in let b = less w in omega (arith, a, b));
        runs = λ w runs. elim (same_or_other w u) [
          | inl e ↦ inr (inl e)
          | inr e ↦ elim (one.runs w runs) [ inl has ↦ inl (let b = less w in let o = one_other w u e in omega (arith, has, b, o)) | inr none ↦ absurd none ]
        ];
        waits = one.waits;
        cur = EachPlace-change_at (CurRuns g pool.domains) r pools.saved_core pool.resources one.cur (λ x at2 here. here);
      } in
      let off : places next u ≡ 0 = (let a = one.most u in let b = less u in let o = one_same u in omega (arith, a, b, o)) in
      by_cond One0 (may_unit_run g pool u) _ _ (λ runs. one_queue_unit g some Nobody u next off runs base) (λ runs. one_less g some Nobody u next (λ is. absurd (cc)) base)

  pub one_after_replenish : (t : ℕ) (u : UnitId) (pool : Pool) → One0 pool → One0 (pools.after_replenish t u pool)
  one_after_replenish t u pool one =
      let here : One0 (with_records (policy.records_after_replenish pool.scheduler.records t u) pool) = one_scheduler g some Nobody _ pool refl one in
      by_option One0 (pools.unit_core pool u) _ _ (λ is. here)
      (λ r is. by_option One0 (unit_rtds_record (policy.records_after_replenish pool.scheduler.records t u) u) _ _ (λ is2. here) (λ x is2. one_change_core g some Nobody r _ _ (λ c. (refl, refl, λ e. e)) here))

-- choices that are the same
pub same_choice_same : (a b : Option UnitId) → same_choice a b ≡ true → a ≡ b
same_choice_same None None is = refl
same_choice_same None (Some w) is = absurd (cc)
same_choice_same (Some u) None is = absurd (cc)
same_choice_same (Some u) (Some w) is = ap (λ x. Some x) (same_unit_same u w is)

-- the core has the unit that was decided for it
pub decided_cur : (t : ℕ) (decision : Decision) (c : Resource) → (decided_core t decision c).cur ≡ decision.unit
decided_cur t decision c = by_test (λ (d : Resource). d.cur ≡ decision.unit) (same_choice decision.unit c.cur) _ _ (λ is. sym (same_choice_same decision.unit c.cur is)) (λ is. refl)

times_without : (u : UnitId) (units : List UnitId) → times u (without_unit u units) ≡ 0
times_without u units = times-filter_no u (λ w. not (same_unit u w)) units (rw (same_unit_refl u) refl)

times_without_other : (u w : UnitId) (units : List UnitId) → u ≢ w → times w (without_unit u units) ≡ times w units
times_without_other u w units other = times-filter_yes w (λ x. not (same_unit u x)) units (elim (same_unit u w) as (λ b. same_unit u w ≡ b → not b ≡ true) [ true ↦ λ is. absurd (other (same_unit_same u w is)) | false ↦ λ is. refl ] refl)

-- the queue without the chosen unit
abbrev unqueued : Option UnitId → List UnitId → List UnitId
unqueued unit queue = elim unit [ None ↦ queue | Some u ↦ without_unit u queue ]

module _ (g : ℕ) (t r : ℕ) (c : Resource) (pool : Pool) (at : at_place pool.resources r ≡ Some c) (no_saving : c.saving ≡ None) (one : OnePlace g pool) where
  abbrev MayBe : UnitId → Type 0
  MayBe u = (may_unit_run g pool u ≡ true) × ((1 ≤ times u pool.scheduler.queue) ⊎ (c.cur ≡ Some u))

  -- what leaves the queue comes to the core
  moved_to_cur : (unit : Option UnitId) → IfUnit MayBe unit → same_choice unit c.cur ≡ false → (w : UnitId) → times w (unqueued unit pool.scheduler.queue) + one_at w unit ≡ times w pool.scheduler.queue
  moved_to_cur None may other w = omega arith
  moved_to_cur (Some u) may other w =
      elim (same_or_other u w) [
        | inl e ↦ subst (λ (x : UnitId). times x (without_unit u pool.scheduler.queue) + one_at x (Some u) ≡ times x pool.scheduler.queue) e
            (elim may.1 [
              | inl waits ↦ (let a = times_without u pool.scheduler.queue in let b = one_same u in let m = one.most u in omega (arith, a, b, m, waits))
              | inr own ↦ absurd (let same : same_choice (Some u) c.cur ≡ true = rw own (same_unit_refl u) in cc)
            ])
        | inr e ↦ (let a = times_without_other u w pool.scheduler.queue e in let b = one_other w u (λ e2. e (sym e2)) in omega (arith, a, b))
      ]

  -- the core's own is in no queue
  own_not_queued : (unit : Option UnitId) → unit ≡ c.cur → (w : UnitId) → times w (unqueued unit pool.scheduler.queue) ≡ times w pool.scheduler.queue
  own_not_queued None is w = refl
  own_not_queued (Some u) is w =
      elim (same_or_other u w) [
        | inl e ↦ subst (λ (x : UnitId). times x (without_unit u pool.scheduler.queue) ≡ times x pool.scheduler.queue) e
            (let a = times_without u pool.scheduler.queue in let m = one.most u in let h = total_at (core_places u) r c pool.resources at in let b : one_at u c.cur ≡ 1 = rw (← is) (one_same u) in omega (arith, a, m, h, b))
        | inr e ↦ times_without_other u w pool.scheduler.queue e
      ]

  same_count : (unit : Option UnitId) (due : Option Moment) (reset : ℕ) (records : Records) → IfUnit MayBe unit → (w : UnitId)
      → times w (unqueued unit pool.scheduler.queue) + core_places w (decided_core t (record { unit = unit; due = due; reset = reset; records = records }) c) ≡ times w pool.scheduler.queue + core_places w c
  same_count unit due reset records may w =
      by_test (λ (d : Resource). times w (unqueued unit pool.scheduler.queue) + core_places w d ≡ times w pool.scheduler.queue + core_places w c) (same_choice unit c.cur) _ _
      (λ is. (let e = own_not_queued unit (same_choice_same unit c.cur is) w in omega (arith, e)))
      (λ is. (let e = moved_to_cur unit may is w in let z : one_at w c.saving ≡ 0 = rw no_saving refl in omega (arith, e, z)))

  if_unit_is : (P : UnitId → Type 0) (unit : Option UnitId) (w : UnitId) → IfUnit P unit → unit ≡ Some w → P w
  if_unit_is P unit w may is = subst (IfUnit P) is may

  now_runs : (unit : Option UnitId) (due : Option Moment) (reset : ℕ) (records : Records) → IfUnit MayBe unit → CurRuns g pool.domains (decided_core t (record { unit = unit; due = due; reset = reset; records = records }) c)
  now_runs unit due reset records may w =
      by_test (λ (d : Resource). d.cur ≡ Some w → (may_unit_run g pool w ≡ true) ⊎ (d.pending ≡ true)) (same_choice unit c.cur) _ _
      (λ is e. inl (if_unit_is MayBe unit w may (same_choice_same unit c.cur is ∙ e)).0)
      (λ is e. inl (if_unit_is MayBe unit w may e).0)

  waits_on : (unit : Option UnitId) → AllByRecursion (λ u. may_unit_run g pool u ≡ true) (unqueued unit pool.scheduler.queue)
  waits_on None = one.waits
  waits_on (Some u) = AllByRecursion-filter (λ w. may_unit_run g pool w ≡ true) (λ w. may_unit_run g pool w ≡ true) (λ w. not (same_unit u w)) (λ w is here. here) pool.scheduler.queue one.waits

  one_decided : (d : Decision) → IfUnit MayBe d.unit → OnePlace g (record pool { scheduler = after_decision d pool.scheduler; resources = put_at r (decided_core t d c) pool.resources })
  one_decided d may =
      let same : (w : UnitId) → times w (unqueued d.unit pool.scheduler.queue) + total (core_places w) (put_at r (decided_core t d c) pool.resources) ≡ places pool w = λ w. (
      let a = total-put_at (core_places w) r (decided_core t d c) c pool.resources at in
      let b = same_count d.unit d.due d.reset d.records may w in
      omega (arith, a, b)) in
      record {
        most = λ w. (let e = same w in let m = one.most w in omega (arith, e, m));
        runs = λ w runs. elim (one.runs w runs) [ inl has ↦ inl (let e = same w in omega (arith, e, has)) | inr none ↦ absurd none ];
        waits = waits_on d.unit;
        cur = EachPlace-put_at (CurRuns g pool.domains) r (decided_core t d c) pool.resources one.cur (now_runs d.unit d.due d.reset d.records may);
      }

  asked : (u : UnitId) → c.cur ≡ Some u → elim c.cur as (λ _. Bool) [ None ↦ false | Some w ↦ may_unit_run g pool w ] ≡ true → may_unit_run g pool u ≡ true
  asked u is runs = rw is at runs

  pub one_after_decide : OnePlace g (pools.after_decide g t r c pool)
  one_after_decide =
      let queue : List UnitId = pool.scheduler.queue in
      one_decided (decision_of (core_ask g t pool r c) pool.scheduler)
      (decision_has MayBe (core_ask g t pool r c) pool.scheduler
      (AllByRecursion-map (λ u. (1 ≤ times u queue) × (may_unit_run g pool u ≡ true)) MayBe (λ u both. (both.1, inl both.0)) queue (both_of _ _ queue (there_each queue) one.waits))
      (λ u is runs. (asked u is runs, inr is)))
