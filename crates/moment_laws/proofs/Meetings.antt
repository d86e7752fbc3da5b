-- What an arrival, a leaving and a save leave to the cores of their pool.
use Rattle.std.proofs.Common.{◌≡◌, ◌≢◌, ◌≤◌, ◌<◌, ◌+◌, ◌-◌, ◌*◌, ◌/◌, ◌%◌, ℕ, suc, Bool, true, false, not, List, [], ◌∷◌, ◌++◌, refl, arith, ap, cond, subst, sym, ◌∙◌, length}
use Rattle.std.specs.Prelude.{Option, Some, None, is_some, is_none, slice_get, ◌&&◌}
use Rattle.std.specs.List.{list_any}
use Rattle.std.proofs.lemmas.Bool.{not-true}
use Rattle.sched_base.specs.Numbers.{moment, core, processor, one_if}
use Rattle.sched_base.specs.declared.UnitId.{UnitId}
use Rattle.sched_model.specs.declared.machine.Machine.{Machine}
use Rattle.sched_model.specs.declared.state.Pool.{Pool}
use Rattle.sched_model.specs.declared.state.Domain.{Domain}
use Rattle.sched_model.specs.declared.state.Vcpu.{Vcpu}
use Rattle.sched_model.specs.declared.state.Resource.{Resource}
use Rattle.sched_model.specs.declared.state.Processor.{Processor}
use Rattle.sched_model.specs.declared.state.Doing.{Doing}
use Rattle.sched_model.specs.declared.state.Doing.TheVariants.{Guest, Idle, Held}
use Rattle.sched_model.specs.declared.state.Stage.TheVariants.{Open}
use Rattle.sched_model.specs.declared.state.Scheduler.{Scheduler}
use Rattle.sched_model.specs.declared.state.Records.{Records}
use Rattle.sched_model.specs.declared.state.Records.TheVariants.{Credit2Pool}
use Rattle.sched_model.specs.declared.action.Action.TheVariants.{Arrive, Leave, Save}
use Rattle.sched_model.specs.Places.{at_place, change_at, change_item, test_at}
use Rattle.sched_model.specs.State.{is_awake, may_unit_run, is_not_stalled}
use Rattle.sched_model.specs.EligibleUnits.{is_unit_allowed}
use Rattle.sched_model.specs.Pool as pools
use Rattle.sched_model.specs.Pool.{enabled_in, pool_core_set, is_held_back, is_gathering, with_doing, change_vcpu, change_processor, change_core, reopened_core, saved_core, is_first_processor_up}
use Rattle.sched_laws.specs.EachPlace.{EachPlace}
use Rattle.sched_laws.proofs.Awake.{runnable-same}
use Rattle.sched_base.proofs.Bools.{and_left, and_right}
use Rattle.sched_laws.proofs.EachPlace.{by_option, by_cond}
use Rattle.sched_laws.proofs.Lists.{some-test_at, length_change_item}
use Rattle.sched_laws.proofs.Sound.{change_at-twice, processor_of_is}
use Rattle.moment_laws.specs.Stretches.{cores, units}
use Rattle.moment_laws.specs.Turns.{how_many, weight_of, chances, changes_left, meeting, is_stirred, is_secure, keeps, ahead}
use Rattle.moment_laws.proofs.Sums.{many, many_is, many_none, how_many_most, how_many_changed, how_many_none, weighs_less}
use Rattle.moment_laws.proofs.Changed.{Falls, under, changed}

-- what is left of a meeting while the siblings gather, and while they leave
pub meeting_open : (g : ℕ) (stirred : Bool) (c : Resource) → is_gathering c ≡ true → meeting g stirred c ≡ cond stirred (2 * g + 1 - how_many is_held_back c.processors) 0
meeting_open g stirred c is = ap (λ b. elim b as (λ _. ℕ) [ true ↦ cond stirred (2 * g + 1 - how_many is_held_back c.processors) 0 | false ↦ how_many is_held_back c.processors + cond stirred (2 * g + 1) 0 ]) is

pub meeting_decided : (g : ℕ) (stirred : Bool) (c : Resource) → is_gathering c ≡ false → meeting g stirred c ≡ how_many is_held_back c.processors + cond stirred (2 * g + 1) 0
meeting_decided g stirred c is = ap (λ b. elim b as (λ _. ℕ) [ true ↦ cond stirred (2 * g + 1 - how_many is_held_back c.processors) 0 | false ↦ how_many is_held_back c.processors + cond stirred (2 * g + 1) 0 ]) is

pub cond_most : (b : Bool) (n : ℕ) → cond b n 0 ≤ n
cond_most true n = omega arith
cond_most false n = omega arith

-- being stirred adds one meeting at most
pub meeting_most : (g : ℕ) (stirred stirred2 : Bool) (c : Resource) → meeting g stirred2 c ≤ meeting g stirred c + (2 * g + 1)
meeting_most g stirred stirred2 c =
    let n : ℕ = 2 * g + 1 in
    elim (is_gathering c) as (λ b. elim b as (λ _. ℕ) [ true ↦ cond stirred2 (n - how_many is_held_back c.processors) 0 | false ↦ how_many is_held_back c.processors + cond stirred2 n 0 ] ≤ elim b as (λ _. ℕ) [ true ↦ cond stirred (n - how_many is_held_back c.processors) 0 | false ↦ how_many is_held_back c.processors + cond stirred n 0 ] + n) [
      | true ↦ (let a = cond_most stirred2 (n - how_many is_held_back c.processors) in omega (arith, a))
      | false ↦ (let a = cond_most stirred2 n in omega (arith, a))
    ]

-- a processor arrives
pub meeting_arrives : (g i : ℕ) (stirred : Bool) (c : Resource) (q : Processor) → stirred ≡ true → is_gathering c ≡ true → length c.processors ≡ g → slice_get c.processors i ≡ Some q → is_held_back q ≡ false
    → meeting g stirred (record c { processors = change_item i (with_doing Held) c.processors }) + 1 ≤ meeting g stirred c
meeting_arrives g i stirred c q is gathers whole at free =
    let c2 : Resource = record c { processors = change_item i (with_doing Held) c.processors } in
    let a = meeting_open g stirred c gathers in
    let b = meeting_open g stirred c2 gathers in
    let more = how_many_changed is_held_back i (with_doing Held) c.processors q at in
    let was : one_if (is_held_back q) ≡ 0 = ap one_if free in
    let most = how_many_most is_held_back c2.processors in
    let count = length_change_item i (with_doing Held) c.processors in
    let a2 : meeting g stirred c ≡ 2 * g + 1 - how_many is_held_back c.processors = a ∙ ap (λ s. cond s (2 * g + 1 - how_many is_held_back c.processors) 0) is in
    let b2 : meeting g stirred c2 ≡ 2 * g + 1 - how_many is_held_back c2.processors = b ∙ ap (λ s. cond s (2 * g + 1 - how_many is_held_back c2.processors) 0) is in
    omega (arith, a2, b2, more, was, most, count, whole)

-- a processor leaves
pub meeting_leaves : (g i : ℕ) (stirred : Bool) (c : Resource) (q : Processor) (doing : Doing) → is_gathering c ≡ false → slice_get c.processors i ≡ Some q → is_held_back q ≡ true → is_held_back (with_doing doing q) ≡ false
    → meeting g stirred (reopened_core (record c { processors = change_item i (with_doing doing) c.processors })) + 1 ≤ meeting g stirred c
meeting_leaves g i stirred c q doing closed at held free =
    let c2 : Resource = record c { processors = change_item i (with_doing doing) c.processors } in
    let a = meeting_decided g stirred c closed in
    let less = how_many_changed is_held_back i (with_doing doing) c.processors q at in
    let was : one_if (is_held_back q) ≡ 1 = ap one_if held in
    let now : one_if (is_held_back (with_doing doing q)) ≡ 0 = ap one_if free in
    by_cond (λ (x : Resource). meeting g stirred x + 1 ≤ meeting g stirred c) (list_any is_held_back c2.processors) c2 (record c2 { stage = Open })
    (λ any. (let b = meeting_decided g stirred c2 closed in omega (arith, a, b, less, was, now)))
    (λ none. (
    let b = meeting_open g stirred (record c2 { stage = Open }) refl in
    let zero_held = how_many_none is_held_back c2.processors none in
    elim stirred as (λ s. meeting g s c ≡ how_many is_held_back c.processors + cond s (2 * g + 1) 0 → meeting g s (record c2 { stage = Open }) ≡ cond s (2 * g + 1 - how_many is_held_back c2.processors) 0 → meeting g s (record c2 { stage = Open }) + 1 ≤ meeting g s c) [
      | true ↦ λ x y. omega (arith, x, y, less, was, now, zero_held)
      | false ↦ λ x y. omega (arith, x, y, less, was, now, zero_held)
    ] a b))

-- the queue has no part in what is left of changes
keeps_queue : (records : Records) (scheduler : Scheduler) (queue : List UnitId) (home r t : ℕ) (u : UnitId) → keeps records (record scheduler { queue = queue }) home r t u ≡ keeps records scheduler home r t u
keeps_queue (Credit2Pool records) scheduler queue home r t u = refl
keeps_queue any scheduler queue home r t u = refl

pub chances_queue : (most t home : ℕ) (runs : UnitId → Bool) (scheduler : Scheduler) (queue : List UnitId) (r : ℕ) (c : Resource) → chances most runs t home (record scheduler { queue = queue }) r c ≡ chances most runs t home scheduler r c
chances_queue most t home runs scheduler queue r c = by_cur c.cur
  where
    by_cur : (cur : Option UnitId)
        → elim cur as (λ _. ℕ) [ None ↦ cond (c.leaving && c.pending) (suc most) most | Some u ↦ cond (not c.leaving && is_secure runs t home (record scheduler { queue = queue }) r u) (ahead scheduler.records u) (suc most) ]
        ≡ elim cur as (λ _. ℕ) [ None ↦ cond (c.leaving && c.pending) (suc most) most | Some u ↦ cond (not c.leaving && is_secure runs t home scheduler r u) (ahead scheduler.records u) (suc most) ]
    by_cur None = refl
    by_cur (Some u) = ap (λ b. cond (not c.leaving && (runs u && is_unit_allowed scheduler home r u && b)) (ahead scheduler.records u) (suc most)) (keeps_queue scheduler.records scheduler queue home r t u)

module _ (m : Machine) (some : 0 < m.config.granularity) (t : ℕ) (pool : Pool) (whole : EachPlace (λ (c : Resource). length c.processors ≡ m.config.granularity) pool.resources) where
  -- nobody else is stirred
  others_same : (r k : ℕ) (x : Resource) → k ≢ r → at_place pool.resources k ≡ Some x → under m t pool pool.scheduler k x ≤ under m t pool pool.scheduler k x + 0
  others_same r k x other at = omega arith

  stopped_awake : (x : Vcpu) → is_awake (pools.stopped_vcpu t x) ≡ is_awake x
  stopped_awake x = by_option (λ (y : Vcpu). is_awake y ≡ is_awake x) x.started _ _ (λ is. refl) (λ from is. refl)

  pub arrive_falls : (p : ℕ) → enabled_in m.config.granularity t pool (Arrive (processor p)) ≡ true → Falls m t pool (pools.after_arrive m.config.granularity t p pool) (p / m.config.granularity)
  arrive_falls p on =
      let g : ℕ = m.config.granularity in
      let gathers : Resource → Bool = λ c. c.pending && is_gathering c && is_none c.saving in
      let there = some-test_at pool.resources (p / g) gathers (and_left (test_at pool.resources (p / g) gathers) _ on) in
      let c : Resource = there.0 in
      let both : (c.pending && is_gathering c) ≡ true = and_left (c.pending && is_gathering c) (is_none c.saving) there.2 in
      by_option (λ (o : Bool). o ≡ true → Falls m t pool (pools.after_arrive g t p pool) (p / g)) (pools.pool_processor g pool p) false (λ q. not (is_held_back q) && is_not_stalled t q)
      (λ is no. absurd (cc))
      (λ q is free. (
      let found = processor_of_is g pool p q is in
      let same : found.0 ≡ c = (let e = found.1 in let e2 = there.1 in cc) in
      let at : slice_get c.processors (p % g) ≡ Some q = subst (λ (x : Resource). slice_get x.processors (p % g) ≡ Some q) same found.2 in
      let stirred : is_stirred t (pool_core_set pool) pool.scheduler (p / g) c ≡ true = (let pending = and_left c.pending (is_gathering c) both in rw pending refl) in
      let less = meeting_arrives g (p % g) (is_stirred t (pool_core_set pool) pool.scheduler (p / g) c) c q stirred (and_right c.pending (is_gathering c) both) (whole (p / g) c there.1) at (not-true (is_held_back q) (and_left (not (is_held_back q)) (is_not_stalled t q) free)) in
      let none = many_none (cores m) in
      by_option (λ (next : Pool). Falls m t pool (change_processor g p (with_doing Held) next) (p / g)) (pools.running_guest g pool p) pool (λ v. change_vcpu v (pools.stopped_vcpu t) pool)
      (λ is2. changed m t pool pool.scheduler pool.domains (p / g) 0 (λ x. record x { processors = change_item (p % g) (with_doing Held) x.processors }) c there.1 (λ u. refl) (omega (arith, less, none)) (others_same (p / g)))
      (λ v is2. changed m t pool pool.scheduler (change_vcpu v (pools.stopped_vcpu t) pool).domains (p / g) 0 (λ x. record x { processors = change_item (p % g) (with_doing Held) x.processors }) c there.1 (λ u. runnable-same g some v (pools.stopped_vcpu t) stopped_awake pool u) (omega (arith, less, none)) (others_same (p / g)))))
      (and_right (test_at pool.resources (p / g) gathers) _ on)

  leave_as : (p : ℕ) (c : Resource) (q : Processor) (doing : Doing) (domains : List (Option Domain)) → ((u : UnitId) → may_unit_run m.config.granularity (record pool { domains = domains }) u ≡ may_unit_run m.config.granularity pool u)
      → at_place pool.resources (p / m.config.granularity) ≡ Some c → is_gathering c ≡ false → slice_get c.processors (p % m.config.granularity) ≡ Some q → is_held_back q ≡ true → is_held_back (with_doing doing q) ≡ false
      → Falls m t pool (change_core (p / m.config.granularity) reopened_core (change_processor m.config.granularity p (with_doing doing) (record pool { domains = domains }))) (p / m.config.granularity)
  leave_as p c q doing domains same at closed at_q held free =
      let g : ℕ = m.config.granularity in
      let h : Resource → Resource = λ x. record x { processors = change_item (p % g) (with_doing doing) x.processors } in
      let less = meeting_leaves g (p % g) (is_stirred t (pool_core_set pool) pool.scheduler (p / g) c) c q doing closed at_q held free in
      let none = many_none (cores m) in
      subst (λ (cs : List (Option Resource)). Falls m t pool (record pool { domains = domains; resources = cs }) (p / g)) (sym (change_at-twice (p / g) reopened_core h pool.resources))
      (changed m t pool pool.scheduler domains (p / g) 0 (λ x. reopened_core (h x)) c at same
      (by_cond (λ (x : Resource). meeting g (is_stirred t (pool_core_set pool) pool.scheduler (p / g) c) x + 1 ≤ meeting g (is_stirred t (pool_core_set pool) pool.scheduler (p / g) c) c → under m t pool pool.scheduler (p / g) x + (many (cores m) 0 + 1) ≤ under m t pool pool.scheduler (p / g) c + 0)
      (list_any is_held_back (h c).processors) (h c) (record c { processors = change_item (p % g) (with_doing doing) c.processors; stage = Open })
      (λ is down. omega (arith, down, none)) (λ is down. omega (arith, down, none)) less)
      (others_same (p / g)))

  pub leave_falls : (p : ℕ) → enabled_in m.config.granularity t pool (Leave (processor p)) ≡ true → Falls m t pool (pools.after_in m.config.granularity t pool (Leave (processor p))) (p / m.config.granularity)
  leave_falls p on =
      let g : ℕ = m.config.granularity in
      let there = some-test_at pool.resources (p / g) (λ (x : Resource). not (is_gathering x)) (and_left (test_at pool.resources (p / g) (λ (x : Resource). not (is_gathering x))) _ on) in
      by_option (λ (next : Pool). Falls m t pool next (p / g)) (at_place pool.resources (p / g)) pool (λ c. pools.after_leave g t p c pool)
      (λ is. absurd (let e = there.1 in cc))
      (λ c is. by_option (λ (o : Bool). o ≡ true → Falls m t pool (pools.after_leave g t p c pool) (p / g)) (pools.pool_processor g pool p) false (λ q. is_held_back q && is_not_stalled t q)
      (λ none no. absurd (cc))
      (λ q is2 held. (
      let found = processor_of_is g pool p q is2 in
      let same : found.0 ≡ c = (let e = found.1 in cc) in
      let at : slice_get c.processors (p % g) ≡ Some q = subst (λ (x : Resource). slice_get x.processors (p % g) ≡ Some q) same found.2 in
      let same2 : there.0 ≡ c = (let e = there.1 in cc) in
      let closed : is_gathering c ≡ false = subst (λ (x : Resource). is_gathering x ≡ false) same2 (not-true (is_gathering there.0) there.2) in
      by_option (λ (next : Pool). Falls m t pool (change_core (p / g) reopened_core next) (p / g)) (pools.vcpu_to_run g pool c (p % g)) (change_processor g p (with_doing Idle) pool) (λ v. pools.started_on g t p v pool)
      (λ none. leave_as p c q Idle pool.domains (λ u. refl) is closed at (and_left (is_held_back q) (is_not_stalled t q) held) refl)
      (λ v is3. leave_as p c q (Guest v) (change_vcpu v (λ x. record x { started = Some (moment t) }) pool).domains (λ u. runnable-same g some v (λ x. record x { started = Some (moment t) }) (λ x. refl) pool u) is closed at (and_left (is_held_back q) (is_not_stalled t q) held) refl)))
      (and_right (test_at pool.resources (p / g) (λ (x : Resource). not (is_gathering x))) _ on))

  -- a save, with what it makes of the queue
  save_as : (r : ℕ) (c : Resource) (u : UnitId) (queue : List UnitId) → at_place pool.resources r ≡ Some c → c.saving ≡ Some u
      → Falls m t pool (record pool { scheduler = record pool.scheduler { queue = queue }; resources = change_at r saved_core pool.resources }) r
  save_as r c u queue at saves =
      let g : ℕ = m.config.granularity in
      let home : ℕ = pool_core_set pool in
      let scheduler : Scheduler = record pool.scheduler { queue = queue } in
      let runs : UnitId → Bool = may_unit_run g pool in
      let same : (k : ℕ) (x : Resource) → chances (units m) runs t home scheduler k x ≡ chances (units m) runs t home pool.scheduler k x = λ k x. chances_queue (units m) t home runs pool.scheduler queue k x in
      changed m t pool scheduler pool.domains r (2 * g + 1) saved_core c at (λ w. refl)
      (
      let one_saves : one_if (is_some c.saving) ≡ 1 = ap (λ (o : Option UnitId). one_if (is_some o)) saves in
      let here = same r c in
      let less : changes_left (units m) runs t home scheduler r (saved_core c) + 1 ≤ changes_left (units m) runs t home pool.scheduler r c = omega (arith, one_saves, here) in
      let weighs = weighs_less (weight_of m) (changes_left (units m) runs t home scheduler r (saved_core c)) (changes_left (units m) runs t home pool.scheduler r c) less in
      let meets = meeting_most g (is_stirred t home pool.scheduler r c) (is_stirred t home scheduler r (saved_core c)) c in
      let pays = many_is (cores m) (2 * g + 1) in
      omega (arith, weighs, meets, pays))
      (λ k x other at_k. (
      let meets = meeting_most g (is_stirred t home pool.scheduler k x) (is_stirred t home scheduler k x) x in
      let e : weight_of m * changes_left (units m) runs t home scheduler k x ≡ weight_of m * changes_left (units m) runs t home pool.scheduler k x = ap (λ n. weight_of m * (n + n + one_if (is_some x.saving))) (same k x) in
      omega (arith, meets, e)))

  pub save_falls : (r : ℕ) → enabled_in m.config.granularity t pool (Save (core r)) ≡ true → Falls m t pool (pools.after_in m.config.granularity t pool (Save (core r))) r
  save_falls r on =
      let g : ℕ = m.config.granularity in
      let there = some-test_at pool.resources r (λ (x : Resource). is_some x.saving && not (list_any is_held_back x.processors) && is_first_processor_up t x) on in
      by_option (λ (next : Pool). Falls m t pool next r) (at_place pool.resources r) pool (λ c. elim c.saving as (λ _. Pool) [ None ↦ pool | Some u ↦ pools.after_save g r u pool ])
      (λ is. absurd (let e = there.1 in cc))
      (λ c is. by_option (λ (next : Pool). Falls m t pool next r) c.saving pool (λ u. pools.after_save g r u pool)
      (λ none. absurd (
      let same : there.0 ≡ c = (let e = there.1 in cc) in
      let has : is_some c.saving ≡ true = subst (λ (x : Resource). is_some x.saving ≡ true) same (and_left (is_some there.0.saving) _ (and_left (is_some there.0.saving && not (list_any is_held_back there.0.processors)) _ there.2)) in
      let gone : is_some c.saving ≡ false = ap (λ (o : Option UnitId). is_some o) none in
      cc))
      (λ u is2. by_cond (λ (next : Pool). Falls m t pool next r) (may_unit_run g pool u) (pools.queue_unit u (change_core r saved_core pool)) (change_core r saved_core pool)
      (λ runs. save_as r c u (pool.scheduler.queue ++ u ∷ []) is is2)
      (λ runs. save_as r c u pool.scheduler.queue is is2)))
