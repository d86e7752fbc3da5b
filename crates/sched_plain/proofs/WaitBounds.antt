-- What a core or a domain waits for comes no later than any event of it.
use Rattle.std.proofs.Common.{◌≡◌, ◌≤◌, ◌+◌, ◌/◌, ◌%◌, ◌∙◌, ℕ, zero, suc, Bool, true, false, not, List, [], ◌∷◌, cond, refl, sym, ap, subst, arith}
use Rattle.std.specs.Prelude.{Option, Some, None, ◌&&◌, ◌||◌, is_none, is_some, nat_le, nat_lt, option_map, slice_get}
use Rattle.std.specs.List.{list_all, list_any}
use Rattle.std.proofs.lemmas.Bool.{not-true}
use Rattle.sched_base.specs.Numbers.{domain, has_moment_come, moment}
use Rattle.sched_base.specs.declared.Moment.{Moment}
use Rattle.sched_base.specs.declared.UnitId.{UnitId}
use Rattle.sched_base.specs.declared.VcpuId.{VcpuId}
use Rattle.sched_base.proofs.Bools.{and_false, and_left, and_right}
use Rattle.sched_model.specs.declared.action.Action.{Action}
use Rattle.sched_model.specs.declared.action.Action.TheVariants.{Moved, DomMoved, Wake, Block, Slice, Repl, Refill, Arrive, Decide, Leave, Save}
use Rattle.sched_model.specs.declared.state.Credit2Domain.{Credit2Domain}
use Rattle.sched_model.specs.declared.state.Doing.{Doing}
use Rattle.sched_model.specs.declared.state.Doing.TheVariants.{Guest, Idle, Held}
use Rattle.sched_model.specs.declared.state.Domain.{Domain}
use Rattle.sched_model.specs.declared.state.Pool.{Pool}
use Rattle.sched_model.specs.declared.state.Processor.{Processor}
use Rattle.sched_model.specs.declared.state.Records.{Records}
use Rattle.sched_model.specs.declared.state.Records.TheVariants.{Credit2Pool, RtdsPool, ArincPool, NullPool}
use Rattle.sched_model.specs.declared.state.Resource.{Resource}
use Rattle.sched_model.specs.declared.state.RtdsUnit.{RtdsUnit}
use Rattle.sched_model.specs.declared.state.Vcpu.{Vcpu}
use Rattle.sched_model.specs.Places.{at_place, test_at}
use Rattle.sched_model.specs.Policy.{is_replenish_due, next_refill_moment}
use Rattle.sched_model.specs.Pool.{done_moment, enabled_in, is_gathering, is_held_back, is_lowest_processor_up, pool_vcpu, running_guest}
use Rattle.sched_laws.proofs.EachPlace.{by_cond, vcpu_is}
use Rattle.sched_laws.proofs.Judged.{is_le}
use Rattle.sched_laws.proofs.Lists.{some-test_at, some_same}
use Rattle.sched_laws.proofs.Sound.{guest_of_is, some_if_all}
use Rattle.pool_laws.specs.ReadyMoments.{guarded_moment}
use Rattle.plain_pool.specs.Ready.{is_waiting_or_on, least_each, least_of_vcpus, lesser_moment, running_work_moment, work_done_moment}
use Rattle.sched_plain.specs.PoolFloors.{IsOfCore, IsOfDomain}
use Rattle.sched_plain.specs.Soonest.{last_moment}
use Rattle.sched_plain.specs.Waits.{IsCoreWait, IsDomainWait, awaited_deadline, core_wait_in, domain_wait_in, is_calm, least_of_deadlines, least_of_domain_timers, least_of_refill_at, least_of_units_at, least_of_works, wait_of_core, wait_of_vcpus}

-- the least of a number and a moment
lesser_below : (best : ℕ) (o : Option Moment) → lesser_moment best o ≤ best
lesser_below best None = omega arith
lesser_below best (Some m) = omega arith

lesser_at : (best t : ℕ) (o : Option Moment) → has_moment_come t o ≡ true → lesser_moment best o ≤ t
lesser_at best t None come = absurd (cc)
lesser_at best t (Some m) come = (let a = is_le m.0 t come in omega (arith, a))

-- and of the items of a list
module _ {X : Type 0} (f : ℕ → X → ℕ) (less : (b : ℕ) (x : X) → f b x ≤ b) where
  each_below : (best : ℕ) (xs : List X) → least_each f best xs ≤ best
  each_below best [] = omega arith
  each_below best (x ∷ xs) = (let a = each_below (f best x) xs in let b = less best x in omega (arith, a, b))

  each_at : (m i : ℕ) (y : X) → ((b : ℕ) → f b y ≤ m) → (best : ℕ) (xs : List X) → slice_get xs i ≡ Some y → least_each f best xs ≤ m
  each_at m zero y low best [] there = absurd (cc)
  each_at m (suc i) y low best [] there = absurd (cc)
  each_at m zero y low best (x ∷ xs) there =
      let same : x ≡ y = some_same there in
      let a = each_below (f best x) xs in
      let b : f best x ≤ m = subst (λ (z : X). f best z ≤ m) (sym same) (low best) in
      omega (arith, a, b)
  each_at m (suc i) y low best (x ∷ xs) there = each_at m i y low (f best x) xs there

-- a test of several parts fails where one does
first_no : (a b : Bool) → a ≡ false → (a && b) ≡ false
first_no a b fails = ap (λ (x : Bool). x && b) fails

last_no : (a b : Bool) → b ≡ false → (a && b) ≡ false
last_no a b fails = ap (λ (x : Bool). a && x) fails ∙ and_false a

some_none : {X : Type 0} (o : Option X) → is_some o ≡ true → is_none o ≡ false
some_none None some = absurd (cc)
some_none (Some x) some = refl

module _ (g t : ℕ) (pool : Pool) where
  -- a core that is not calm
  restless : (c : Resource) → is_calm c ≡ false → wait_of_core pool c ≤ t
  restless c fails = (let e : wait_of_core pool c ≡ 0 = ap (λ (b : Bool). cond b (least_of_works pool (lesser_moment last_moment c.due) c.processors) 0) fails in omega (arith, e))

  module _ (c : Resource) where
    abbrev stays : Bool
    stays = not c.pending && not c.leaving

    abbrev stays_open : Bool
    stays_open = stays && is_gathering c

    abbrev stays_free : Bool
    stays_free = stays_open && is_none c.saving

    abbrev none_held : Bool
    none_held = not (list_any is_held_back c.processors)

    moves_on : stays ≡ false → wait_of_core pool c ≤ t
    moves_on fails = restless c (first_no stays_free none_held (first_no stays_open (is_none c.saving) (first_no stays (is_gathering c) fails)))

    if_pending : c.pending ≡ true → wait_of_core pool c ≤ t
    if_pending is = moves_on (first_no (not c.pending) (not c.leaving) (ap not is))

    if_leaving : c.leaving ≡ true → wait_of_core pool c ≤ t
    if_leaving is = moves_on (last_no (not c.pending) (not c.leaving) (ap not is))

    if_decided : is_gathering c ≡ false → wait_of_core pool c ≤ t
    if_decided is = restless c (first_no stays_free none_held (first_no stays_open (is_none c.saving) (last_no stays (is_gathering c) is)))

    if_saving : is_some c.saving ≡ true → wait_of_core pool c ≤ t
    if_saving is = restless c (first_no stays_free none_held (last_no stays_open (is_none c.saving) (some_none c.saving is)))

    if_held : list_any is_held_back c.processors ≡ true → wait_of_core pool c ≤ t
    if_held is = restless c (last_no stays_free none_held (ap not is))

  -- a calm one
  if_low : (c : Resource) → least_of_works pool (lesser_moment last_moment c.due) c.processors ≤ t → wait_of_core pool c ≤ t
  if_low c low = by_cond (λ (n : ℕ). n ≤ t) (is_calm c) _ _ (λ calm. low) (λ fails. omega arith)

  if_due : (c : Resource) → has_moment_come t c.due ≡ true → wait_of_core pool c ≤ t
  if_due c come =
      if_low c (
      let a = each_below (λ b (q : Processor). lesser_moment b (running_work_moment pool q)) (λ b q. lesser_below b (running_work_moment pool q)) (lesser_moment last_moment c.due) c.processors in
      let b = lesser_at last_moment t c.due come in
      omega (arith, a, b))

  if_done : (c : Resource) (i : ℕ) (q : Processor) → slice_get c.processors i ≡ Some q → has_moment_come t (running_work_moment pool q) ≡ true → wait_of_core pool c ≤ t
  if_done c i q there come =
      if_low c (each_at (λ b (x : Processor). lesser_moment b (running_work_moment pool x)) (λ b x. lesser_below b (running_work_moment pool x)) t i q (λ b. lesser_at b t (running_work_moment pool q) come) (lesser_moment last_moment c.due) c.processors there)

  module _ (r : ℕ) where
    abbrev Low : Type 0
    Low = core_wait_in pool (at_place pool.resources r) ≤ t

    there : (c : Resource) → at_place pool.resources r ≡ Some c → wait_of_core pool c ≤ t → Low
    there c at low = subst (λ (o : Option Resource). core_wait_in pool o ≤ t) (sym at) low

    seen : (k : ℕ) → k ≡ r → (f : Resource → Bool) → test_at pool.resources k f ≡ true → ((c : Resource) → f c ≡ true → wait_of_core pool c ≤ t) → Low
    seen k own f passes low =
        let p = some-test_at pool.resources k f passes in
        there p.0 (subst (λ (n : ℕ). at_place pool.resources n ≡ Some p.0) own p.1) (low p.0 p.2)

    -- the work of a vCPU that a processor of the core runs
    work_come : (v : VcpuId) (q : Processor) → q.doing ≡ Guest v → elim (pool_vcpu pool v) as (λ _. Bool) [ None ↦ false | Some x ↦ has_moment_come t (done_moment x) ] ≡ true → has_moment_come t (running_work_moment pool q) ≡ true
    unfolding running_work_moment work_done_moment
    work_come v q runs come =
        let read : Option VcpuId → Option Moment = λ o. elim o as (λ _. Option Moment) [ None ↦ None | Some w ↦ elim (pool_vcpu pool w) as (λ _. Option Moment) [ None ↦ None | Some x ↦ done_moment x ] ] in
        let guest : Doing → Option VcpuId = λ doing. elim doing as (λ _. Option VcpuId) [ Guest w ↦ Some w | Idle ↦ None | Held ↦ None ] in
        ap (λ (doing : Doing). has_moment_come t (read (guest doing))) runs ∙ by (pool_vcpu pool v) come
      where
        by : (o : Option Vcpu) → elim o as (λ _. Bool) [ None ↦ false | Some x ↦ has_moment_come t (done_moment x) ] ≡ true → has_moment_come t (elim o as (λ _. Option Moment) [ None ↦ None | Some x ↦ done_moment x ]) ≡ true
        by None is = absurd (cc)
        by (Some x) is = is

    blocks : (p : ℕ) → p / g ≡ r → (o : Option VcpuId) → running_guest g pool p ≡ o → elim o as (λ _. Bool) [ None ↦ false | Some v ↦ elim (pool_vcpu pool v) as (λ _. Bool) [ None ↦ false | Some x ↦ has_moment_come t (done_moment x) ] ] ≡ true → Low
    blocks p own None runs come = absurd (cc)
    blocks p own (Some v) runs come =
        let f = guest_of_is g pool p v runs in
        there f.0 (subst (λ (n : ℕ). at_place pool.resources n ≡ Some f.0) own f.2) (if_done f.0 (p % g) f.1 f.3 (work_come v f.1 f.4 come))

    core_low : (action : Action) → IsOfCore g r action → enabled_in g t pool action ≡ true → Low
    core_low (Moved q) own on = seen q.0 own _ on (λ c may. if_leaving c (and_left _ _ (and_left _ _ (and_left _ _ (and_left _ _ (and_left _ _ may))))))
    core_low (Block p) own on = blocks p.0 own (running_guest g pool p.0) refl (and_left _ _ on)
    core_low (Slice q) own on = seen q.0 own _ on (λ c may. if_due c (and_left _ _ (and_left _ _ may)))
    core_low (Arrive p) own on = seen (p.0 / g) own _ (and_left _ _ on) (λ c may. if_pending c (and_left _ _ (and_left _ _ may)))
    core_low (Decide q) own on = seen q.0 own _ on (λ c may. if_held c (some_if_all t c.processors (and_right (list_all is_held_back c.processors && is_gathering c) _ may) (and_left _ _ (and_left _ _ may))))
    core_low (Leave p) own on = seen (p.0 / g) own _ (and_left _ _ on) (λ c may. if_decided c (not-true (is_gathering c) may))
    core_low (Save q) own on = seen q.0 own _ on (λ c may. if_saving c (and_left _ _ (and_left _ _ may)))
    core_low action own on = absurd own

  -- the deadlines of a domain's units
  module _ (now d : ℕ) where
    deadlines_below : (n best : ℕ) (units : List RtdsUnit) → least_of_deadlines now pool d n best units ≤ best
    deadlines_below n best [] = omega arith
    deadlines_below n best (x ∷ units) =
        let at : Option Moment = awaited_deadline now pool (record { dom = domain d; n = n }) x.deadline in
        let a = deadlines_below (suc n) (lesser_moment best at) units in
        let b = lesser_below best at in
        omega (arith, a, b)

    awaited : (u : UnitId) (deadline : ℕ) → is_waiting_or_on pool u ≡ true → nat_le deadline t ≡ true → has_moment_come t (awaited_deadline now pool u deadline) ≡ true
    awaited u deadline about come = ap (λ (b : Bool). has_moment_come t (guarded_moment (nat_lt now deadline || b) (Some (moment deadline)))) about ∙ by (nat_lt now deadline)
      where
        by : (b : Bool) → has_moment_come t (guarded_moment (b || true) (Some (moment deadline))) ≡ true
        by true = come
        by false = come

    deadline_at : (i n k best : ℕ) (x : RtdsUnit) (units : List RtdsUnit) → k ≡ n + i → slice_get units i ≡ Some x → is_waiting_or_on pool (record { dom = domain d; n = k }) ≡ true → nat_le x.deadline t ≡ true → least_of_deadlines now pool d n best units ≤ t
    deadline_at zero n k best x [] number there about come = absurd (cc)
    deadline_at (suc i) n k best x [] number there about come = absurd (cc)
    deadline_at zero n k best x (y ∷ units) number there about come =
        let same : y ≡ x = some_same there in
        let index : k ≡ n = omega (arith, number) in
        let its : is_waiting_or_on pool (record { dom = domain d; n = n }) ≡ true = subst (λ (j : ℕ). is_waiting_or_on pool (record { dom = domain d; n = j }) ≡ true) index about in
        let at : Option Moment = awaited_deadline now pool (record { dom = domain d; n = n }) y.deadline in
        let has : has_moment_come t at ≡ true = awaited (record { dom = domain d; n = n }) y.deadline its (subst (λ (z : RtdsUnit). nat_le z.deadline t ≡ true) (sym same) come) in
        let a = deadlines_below (suc n) (lesser_moment best at) units in
        let b = lesser_at best t at has in
        omega (arith, a, b)
    deadline_at (suc i) n k best x (y ∷ units) number there about come = deadline_at i (suc n) k _ x units (omega (arith, number)) there about come

    units_below : (best : ℕ) (o : Option (List RtdsUnit)) → least_of_units_at now pool d best o ≤ best
    units_below best None = omega arith
    units_below best (Some units) = deadlines_below 0 best units

    refill_below : (best : ℕ) (o : Option Credit2Domain) → least_of_refill_at best o ≤ best
    refill_below best None = omega arith
    refill_below best (Some x) = lesser_below best (option_map moment x.refill)

    timers_below : (best : ℕ) (records : Records) → least_of_domain_timers now pool d best records ≤ best
    timers_below best (Credit2Pool records) = refill_below best (at_place records.domains d)
    timers_below best (RtdsPool domains) = units_below best (at_place domains d)
    timers_below best (ArincPool records) = omega arith
    timers_below best (NullPool kept) = omega arith

    -- the domain's own events, and the wakes of its vCPUs
    vcpus_low : wait_of_vcpus (at_place pool.domains d) ≤ t → domain_wait_in now pool d ≤ t
    vcpus_low low = (let a = timers_below (wait_of_vcpus (at_place pool.domains d)) pool.scheduler.records in omega (arith, a, low))

    moves_low : (x : Domain) → is_some x.moving ≡ true → wait_of_vcpus (Some x) ≤ t
    moves_low x moving = (let e : wait_of_vcpus (Some x) ≡ 0 = ap (λ (b : Bool). cond b 0 (least_of_vcpus last_moment x.vcpus)) moving in omega (arith, e))

    wake_low : (x : Domain) (n : ℕ) (v : Vcpu) → slice_get x.vcpus n ≡ Some v → has_moment_come t v.asleep_until ≡ true → wait_of_vcpus (Some x) ≤ t
    wake_low x n v there come =
        by_cond (λ (k : ℕ). k ≤ t) (is_some x.moving) _ _ (λ moving. omega arith)
        (λ stays. each_at (λ b (y : Vcpu). lesser_moment b y.asleep_until) (λ b y. lesser_below b y.asleep_until) t n v (λ b. lesser_at b t v.asleep_until come) last_moment x.vcpus there)

    wakes : (v : VcpuId) → v.dom.0 ≡ d → (o : Option Vcpu) → pool_vcpu pool v ≡ o → elim o as (λ _. Bool) [ None ↦ false | Some x ↦ has_moment_come t x.asleep_until ] ≡ true → domain_wait_in now pool d ≤ t
    wakes v own None is come = absurd (cc)
    wakes v own (Some x) is come =
        let f = vcpu_is pool.domains v x is in
        vcpus_low (subst (λ (o : Option Domain). wait_of_vcpus o ≤ t) (sym (subst (λ (n : ℕ). at_place pool.domains n ≡ Some f.0) own f.1)) (wake_low f.0 v.n x f.2 come))

    -- and its timers
    renew_low : (u : UnitId) → u.dom.0 ≡ d → is_waiting_or_on pool u ≡ true → (best : ℕ) (records : Records) → is_replenish_due records t u ≡ true → least_of_domain_timers now pool d best records ≤ t
    renew_low u own about best (Credit2Pool records) due = absurd (cc)
    renew_low u own about best (ArincPool records) due = absurd (cc)
    renew_low u own about best (NullPool kept) due = absurd (cc)
    renew_low u own about best (RtdsPool domains) due = subst (λ (k : ℕ). least_of_units_at now pool d best (at_place domains k) ≤ t) own (by_units (at_place domains u.dom.0) due)
      where
        its : is_waiting_or_on pool (record { dom = domain d; n = u.n }) ≡ true
        its = (let is : u ≡ record { dom = domain d; n = u.n } = grind (arith, own) in subst (λ (w : UnitId). is_waiting_or_on pool w ≡ true) is about)

        by_unit : (units : List RtdsUnit) (o : Option RtdsUnit) → slice_get units u.n ≡ o → elim o as (λ _. Bool) [ None ↦ false | Some x ↦ nat_le x.deadline t ] ≡ true → least_of_deadlines now pool d 0 best units ≤ t
        by_unit units None there come = absurd (cc)
        by_unit units (Some x) there come = deadline_at u.n 0 u.n best x units (omega arith) there its come

        by_units : (o : Option (List RtdsUnit)) → elim (elim o as (λ _. Option RtdsUnit) [ None ↦ None | Some units ↦ slice_get units u.n ]) as (λ _. Bool) [ None ↦ false | Some x ↦ nat_le x.deadline t ] ≡ true → least_of_units_at now pool d best o ≤ t
        by_units None come = absurd (cc)
        by_units (Some units) come = by_unit units (slice_get units u.n) refl come

    refill_at : (best : ℕ) (o : Option Credit2Domain) → has_moment_come t (elim o as (λ _. Option Moment) [ None ↦ None | Some x ↦ option_map moment x.refill ]) ≡ true → least_of_refill_at best o ≤ t
    refill_at best None come = absurd (cc)
    refill_at best (Some x) come = lesser_at best t (option_map moment x.refill) come

    refill_low : (e : ℕ) → e ≡ d → (best : ℕ) (records : Records) → has_moment_come t (next_refill_moment records e) ≡ true → least_of_domain_timers now pool d best records ≤ t
    refill_low e own best (Credit2Pool records) come = subst (λ (k : ℕ). least_of_refill_at best (at_place records.domains k) ≤ t) own (refill_at best (at_place records.domains e) come)
    refill_low e own best (RtdsPool domains) come = absurd (cc)
    refill_low e own best (ArincPool records) come = absurd (cc)
    refill_low e own best (NullPool kept) come = absurd (cc)

    domain_low : (action : Action) → IsOfDomain d action → enabled_in g t pool action ≡ true → domain_wait_in now pool d ≤ t
    domain_low (DomMoved e) own on =
        let p = some-test_at pool.domains e.0 (λ (x : Domain). is_some x.moving) (and_left _ _ on) in
        vcpus_low (subst (λ (o : Option Domain). wait_of_vcpus o ≤ t) (sym (subst (λ (n : ℕ). at_place pool.domains n ≡ Some p.0) own p.1)) (moves_low p.0 p.2))
    domain_low (Wake v) own on = wakes v own (pool_vcpu pool v) refl on
    domain_low (Repl u) own on =
        let both = and_left (is_waiting_or_on pool u && is_replenish_due pool.scheduler.records t u) (is_lowest_processor_up t pool) on in
        renew_low u own (and_left (is_waiting_or_on pool u) (is_replenish_due pool.scheduler.records t u) both) _ pool.scheduler.records (and_right (is_waiting_or_on pool u) (is_replenish_due pool.scheduler.records t u) both)
    domain_low (Refill e) own on = refill_low e.0 own _ pool.scheduler.records (and_left (has_moment_come t (next_refill_moment pool.scheduler.records e.0)) (is_lowest_processor_up t pool) on)
    domain_low action own on = absurd own

core_bound : (g : ℕ) (pool : Pool) (r wait : ℕ) → wait ≡ core_wait_in pool (at_place pool.resources r) → IsCoreWait g pool r wait
core_bound g pool r wait is = λ t action own on. (let a = core_low g t pool r action own on in omega (arith, is, a))

domain_bound : (g : ℕ) (pool : Pool) (now d wait : ℕ) → wait ≡ domain_wait_in now pool d → IsDomainWait g pool d wait
domain_bound g pool now d wait is = λ t action own on. (let a = domain_low g t pool now d action own on in omega (arith, is, a))

-- the same of what the code has at hand
pub core_bound_at : (g : ℕ) (pool : Pool) (cores : List (Option Resource)) (r : ℕ) (c : Resource) (wait : ℕ) → cores ≡ pool.resources → at_place cores r ≡ Some c → wait ≡ wait_of_core pool c → IsCoreWait g pool r wait
core_bound_at g pool cores r c wait same at is = core_bound g pool r wait (is ∙ sym (ap (core_wait_in pool) (ap (λ (cs : List (Option Resource)). at_place cs r) (sym same) ∙ at)))

pub domain_bound_at : (g : ℕ) (pool : Pool) (domains : List (Option Domain)) (now d vcpus wait : ℕ) → domains ≡ pool.domains → vcpus ≡ wait_of_vcpus (at_place domains d) → wait ≡ least_of_domain_timers now pool d vcpus pool.scheduler.records → IsDomainWait g pool d wait
domain_bound_at g pool domains now d vcpus wait same first then =
    domain_bound g pool now d wait (then ∙ ap (λ (n : ℕ). least_of_domain_timers now pool d n pool.scheduler.records) (first ∙ ap (λ (ds : List (Option Domain)). wait_of_vcpus (at_place ds d)) same))
