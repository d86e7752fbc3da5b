-- A core of a Credit2 pool is pending only where its unit ran for the rate limit, or sleeps beyond this moment; and its due comes no earlier.
use Rattle.std.proofs.Common.{◌≡◌, ◌<◌, ◌≤◌, ◌+◌, ◌-◌, ◌*◌, ◌/◌, ◌%◌, ℕ, zero, suc, Bool, true, false, not, List, [], ◌∷◌, refl, arith, subst, sym, ap, ◌∙◌, ◌⊎◌, inl, inr, length, take, drop}
use Rattle.std.specs.Prelude.{Option, Some, None, is_none, option_map, slice_get, slice_index_or, nat_le, ◌&&◌}
use Rattle.std.specs.List.{list_any}
use Rattle.std.proofs.lemmas.Bool.{or_cases}
use Rattle.std.proofs.lemmas.List.{length-map}
use Rattle.std.proofs.lemmas.List.Elements.{recursion_from_All}
use Rattle.std.proofs.lemmas.Nat.{div-mul-add, le-div, div-add-mod'}
use Rattle.std.proofs.lemmas.Option.{slice_get_cases, slice_get_within}
use Rattle.sched_base.specs.Numbers.{moment, span, domain as domain_number, processor, has_moment_come}
use Rattle.sched_base.specs.declared.Moment.{Moment}
use Rattle.sched_base.specs.declared.Span.{Span}
use Rattle.sched_base.specs.declared.UnitId.{UnitId}
use Rattle.sched_base.specs.declared.VcpuId.{VcpuId}
use Rattle.sched_base.proofs.Bools.{and_left, and_right, clash, or_left, or_right}
use Rattle.sched_base.proofs.Lists.{each_get}
use Rattle.sched_model.specs.declared.action.Action.{Action}
use Rattle.sched_model.specs.declared.action.Action.TheVariants.{Wake, Block}
use Rattle.sched_model.specs.declared.config.DomConfig.{DomConfig}
use Rattle.sched_model.specs.declared.machine.Machine.{Machine}
use Rattle.sched_model.specs.declared.state.Credit2Records.{Credit2Records}
use Rattle.sched_model.specs.declared.state.Doing.TheVariants.{Guest, Idle}
use Rattle.sched_model.specs.declared.state.Domain.{Domain}
use Rattle.sched_model.specs.declared.state.Pool.{Pool}
use Rattle.sched_model.specs.declared.state.Processor.{Processor}
use Rattle.sched_model.specs.declared.state.Records.{Records}
use Rattle.sched_model.specs.declared.state.Records.TheVariants.{Credit2Pool}
use Rattle.sched_model.specs.declared.state.Resource.{Resource}
use Rattle.sched_model.specs.declared.state.Scheduler.{Scheduler}
use Rattle.sched_model.specs.declared.state.Vcpu.{Vcpu}
use Rattle.sched_model.specs.Actions.{configured_units}
use Rattle.sched_model.specs.CheckedMachine.{IsChecked, IsCheckedDomain, IsCheckedScript}
use Rattle.sched_model.specs.Places.{at_place, change_at, change_item}
use Rattle.sched_model.specs.Policy as policy
use Rattle.sched_model.specs.Policy.{unit_rtds_record}
use Rattle.sched_model.specs.Pool as pools
use Rattle.sched_model.specs.Pool.{after_in, change_among, change_core, change_processor, change_vcpu, done_moment, enabled_in, pool_vcpu, running_guest, settled_pool, started_on, vcpu_among, vcpu_unit, with_doing, with_records}
use Rattle.sched_model.specs.State.{is_awake, may_unit_run, runnable_among, unit_runnable, vcpus_of_unit}
use Rattle.sched_laws.specs.PoolFacts.{CoreIsSound, OnePlace, UnitsAreOwn}
use Rattle.sched_laws.proofs.EachPlace.{at_place-change_at, by_cond, by_option, by_test, read_change_at, vcpu_is}
use Rattle.sched_laws.proofs.Events.{LikePlaces, like_change_at, like_is, vcpu_after}
use Rattle.sched_laws.proofs.Lists.{read_change_item, some-test_at}
use Rattle.sched_laws.proofs.SiblingsLaw.{some_processor}
use Rattle.sched_laws.proofs.Sound.{guest_of_is}
use Rattle.state_ranges.proofs.RangesWalk.{DomFits, PoolFits}
use Rattle.state_ranges.proofs.Vcpus.{VcpuFits}
use Rattle.undisturbed_laws.specs.Undisturbed.{Credit2Stays, DomainStays, HasHome, NeverSleeps, PoolStays}
use Rattle.undisturbed_laws.proofs.Steps.{stays_after}
use Rattle.undisturbed_laws.proofs.Units.{place_high, place_low}
use Rattle.moment_laws.proofs.DueInPools.{span_there}
use Rattle.undisturbed_laws.proofs.Units.{never_sleeps, only_core}
use Rattle.share_laws.specs.Shares.{IsPlainCredit2, NobodySleeps}
use Rattle.share_laws.proofs.Start.{first_books}

-- the vCPU is another one than v, or it is v changed
vcpu_read : (v w : VcpuId) (f : Vcpu → Vcpu) (domains : List (Option Domain)) (y : Vcpu) → vcpu_among (change_among v f domains) w ≡ Some y
    → (vcpu_among domains w ≡ Some y) ⊎ ((x : Vcpu) × (vcpu_among domains w ≡ Some x) × (vcpu_among domains v ≡ Some x) × (f x ≡ y))
vcpu_read v w f domains y is =
    let h : Domain → Domain = λ d. record d { vcpus = change_item v.n f d.vcpus } in
    let r = vcpu_is (change_at v.dom.0 h domains) w y is in
    let seen : (d : Domain) (u : VcpuId) (x : Vcpu) → at_place domains u.dom.0 ≡ Some d → slice_get d.vcpus u.n ≡ Some x → vcpu_among domains u ≡ Some x =
    λ d u x at get. ap (λ (o : Option Domain). elim o as (λ _. Option Vcpu) [ None ↦ None | Some e ↦ slice_get e.vcpus u.n ]) at ∙ get in
    elim (read_change_at v.dom.0 w.dom.0 h domains r.0 r.1) [
      | inl was ↦ inl (seen r.0 w y was.1 r.2)
      | inr own ↦ (
          let get : slice_get (change_item v.n f own.0.vcpus) w.n ≡ Some y = subst (λ (d : Domain). slice_get d.vcpus w.n ≡ Some y) (sym own.3) r.2 in
          let at_w : at_place domains w.dom.0 ≡ Some own.0 = subst (λ k. at_place domains k ≡ Some own.0) (sym own.2) own.1 in
          elim (read_change_item v.n w.n f own.0.vcpus y get) [
            | inl was ↦ inl (seen own.0 w y at_w was.1)
            | inr x ↦ inr (x.0, seen own.0 w x.0 at_w (subst (λ k. slice_get own.0.vcpus k ≡ Some x.0) (sym x.2) x.1), seen own.0 v x.0 own.1 x.1, x.3)
          ])
    ]

-- something of a part of a list passes
part_found : {X : Type 0} (test : X → Bool) (a b : ℕ) (xs : List X) → list_any test (take a (drop b xs)) ≡ true → (k : ℕ) × (x : X) × (slice_get xs k ≡ Some x) × (test x ≡ true) × (b ≤ k) × (k < b + a)
part_found test zero zero [] some = absurd (cc)
part_found test (suc a) zero [] some = absurd (cc)
part_found test zero (suc b) [] some = absurd (cc)
part_found test (suc a) (suc b) [] some = absurd (cc)
part_found test zero zero (x ∷ xs) some = absurd (cc)
part_found test (suc a) zero (x ∷ xs) some = elim (or_cases (test x) (list_any test (take a xs)) some) [
  | inl here ↦ (0, x, refl, here, omega arith, omega arith)
  | inr rest ↦ (let r = part_found test a zero xs rest in let high = r.5 in (suc r.0, r.1, r.2, r.3, omega arith, omega (arith, high)))
]
part_found test a (suc b) (x ∷ xs) some = (let r = part_found test a b xs some in let low = r.4 in let high = r.5 in (suc r.0, r.1, r.2, r.3, omega (arith, low), omega (arith, high)))

place_of : (g n k : ℕ) → n * g ≤ k → k < n * g + g → k / g ≡ n
place_of g n k low high = (let rest : k ≡ n * g + (k - n * g) = omega (arith, low) in subst (λ j. j / g ≡ n) (sym rest) (div-mul-add n g (k - n * g) (omega (arith, low, high))))

-- the same of a part in which nothing passes
part_none : {X : Type 0} (test : X → Bool) (a b k : ℕ) (xs : List X) (x : X) → slice_get xs k ≡ Some x → b ≤ k → k < b + a → list_any test (take a (drop b xs)) ≡ false → test x ≡ false
part_none test a b k [] x at low high none = absurd (cc)
part_none test zero zero k (y ∷ xs) x at low high none = absurd (omega (arith, high))
part_none test (suc a) zero zero (y ∷ xs) x at low high none = (let e : y ≡ x = cc in subst (λ z. test z ≡ false) e (or_left (test y) (list_any test (take a xs)) none))
part_none test (suc a) zero (suc k) (y ∷ xs) x at low high none = part_none test a zero k xs x at (omega arith) (omega (arith, high)) (or_right (test y) (list_any test (take a xs)) none)
part_none test a (suc b) zero (y ∷ xs) x at low high none = absurd (omega (arith, low))
part_none test a (suc b) (suc k) (y ∷ xs) x at low high none = part_none test a b k xs x at (omega (arith, low)) (omega (arith, high)) none

-- the domain is neither paused nor moving
record GoesOn (d : Domain) : Type 0 where
  config : DomConfig
  runs : d.paused ≡ false
  stays : d.moving ≡ None

-- the unit of a vCPU, and a unit with a vCPU, are within the domain
inside_of : (g n count : ℕ) → 0 < g → n < count → n / g < (count + g - 1) / g
inside_of g n count some low = le-div (suc (n / g)) (count + g - 1) g some (let e = div-add-mod' n g in let s : suc (n / g) * g ≡ n / g * g + g = grind arith in omega (arith, e, s, low, some))

pub unit_low : (g n count : ℕ) → 0 < g → n * g < count → n < (count + g - 1) / g
unit_low g n count some low = le-div (suc n) (count + g - 1) g some (let s : suc n * g ≡ n * g + g = grind arith in omega (arith, s, low, some))

odd_place : (p n : ℕ) → p % 2 ≡ 0 → p < n → n % 2 ≡ 0 → p + 1 < n
odd_place p n even inside whole = omega (arith, even, inside, whole)

sleeps_some : (t : ℕ) (script : List Span) (x : Vcpu) → IsCheckedScript script → VcpuFits t script x → has_moment_come t (done_moment x) ≡ true → 1 ≤ (slice_index_or x.script (x.place + 1) (span 0)).0
sleeps_some t script x checked fits done = by_start x.started refl x.work_left refl x.asleep_until refl
  where
    none_started : (from : Option Moment) → from ≡ None → (work : Option Span) → has_moment_come t (elim from as (λ _. Option Moment) [ None ↦ None | Some a ↦ elim work as (λ _. Option Moment) [ None ↦ None | Some w ↦ Some (moment (a.0 + w.0)) ] ]) ≡ true → ⊥
    none_started None is work on = cc
    none_started (Some a) is work on = cc

    none_left : (from : Option Moment) (work : Option Span) → work ≡ None → has_moment_come t (elim from as (λ _. Option Moment) [ None ↦ None | Some a ↦ elim work as (λ _. Option Moment) [ None ↦ None | Some w ↦ Some (moment (a.0 + w.0)) ] ]) ≡ true → ⊥
    none_left None work is on = cc
    none_left (Some a) None is on = cc
    none_left (Some a) (Some w) is on = cc

    by_start : (from : Option Moment) → x.started ≡ from → (work : Option Span) → x.work_left ≡ work → (sleep : Option Moment) → x.asleep_until ≡ sleep → 1 ≤ (slice_index_or x.script (x.place + 1) (span 0)).0
    by_start None is work is2 sleep is3 = absurd (none_started x.started is x.work_left done)
    by_start (Some from) is None is2 sleep is3 = absurd (none_left x.started x.work_left is2 done)
    by_start (Some from) is (Some work) is2 (Some until) is3 = absurd (let e : None ≡ Some from = sym (fits.still until is3) ∙ is in cc)
    by_start (Some from) is (Some work) is2 None is3 =
        let some = fits.worth work is2 in
        let place : (x.place % 2 ≡ 0) × (x.place < length script) = elim (fits.awake is3) [ inl none ↦ (let z = none.0 in absurd (omega (arith, z, some))) | inr even ↦ even ] in
        subst (λ (xs : List Span). 1 ≤ (slice_index_or xs (x.place + 1) (span 0)).0) (sym fits.follows) (span_there script checked (x.place + 1) (odd_place x.place (length script) place.0 place.1 checked.even))

-- the core keeps its pace
pub record SamePace (c d : Resource) : Type 0 where
  pub cur : d.cur ≡ c.cur
  pub since : d.since ≡ c.since
  pub due : d.due ≡ c.due
  pub pending : d.pending ≡ c.pending

module _ (g : ℕ) where
  -- each vCPU of the unit sleeps beyond t
  abbrev pub Gone : ℕ → List (Option Domain) → UnitId → Type 0
  Gone t domains w = (n : ℕ) (y : Vcpu) → n / g ≡ w.n → vcpu_among domains (record { dom = w.dom; n = n }) ≡ Some y → (e : Moment) × (y.asleep_until ≡ Some e) × (t < e.0)

  -- such a unit is not runnable
  pub gone_stops : (t : ℕ) (pool : Pool) (w : UnitId) → Gone t pool.domains w → may_unit_run g pool w ≡ true → ⊥
  gone_stops t pool w gone runs =
      let d = some-test_at pool.domains w.dom.0 (λ d. unit_runnable g d w.n) runs in
      let x = part_found is_awake g (w.n * g) d.0.vcpus (and_right (not d.0.paused && is_none d.0.moving) (list_any is_awake (vcpus_of_unit g d.0 w.n)) d.2) in
      let seen : vcpu_among pool.domains (record { dom = w.dom; n = x.0 }) ≡ Some x.1 = ap (λ (o : Option Domain). elim o as (λ _. Option Vcpu) [ None ↦ None | Some e ↦ slice_get e.vcpus x.0 ]) d.1 ∙ x.2 in
      let asleep = gone x.0 x.1 (place_of g w.n x.0 x.4 x.5) seen in
      awake_not x.1.asleep_until asleep.0 asleep.1 x.3
    where
      awake_not : (o : Option Moment) (e : Moment) → o ≡ Some e → is_none o ≡ true → ⊥
      awake_not None e is none = cc
      awake_not (Some a) e is none = cc

  -- a vCPU changes, and stays asleep if it is
  gone_change : (t : ℕ) (v : VcpuId) (f : Vcpu → Vcpu) (domains : List (Option Domain)) (w : UnitId)
      → ((x : Vcpu) (e : Moment) → vcpu_among domains v ≡ Some x → x.asleep_until ≡ Some e → t < e.0 → (a : Moment) × ((f x).asleep_until ≡ Some a) × (t < a.0)) → Gone t domains w → Gone t (change_among v f domains) w
  gone_change t v f domains w stays gone n y place is =
      elim (vcpu_read v (record { dom = w.dom; n = n }) f domains y is) [
        | inl was ↦ gone n y place was
        | inr x ↦ (
            let old = gone n x.0 place x.1 in
            let new = stays x.0 old.0 x.2 old.1 old.2 in
            (new.0, ap (λ (z : Vcpu). z.asleep_until) (sym x.3) ∙ new.1, new.2))
      ]

module _ (m : Machine) (checked : IsChecked m) (i r rate : ℕ) (plain : IsPlainCredit2 m i r rate) where
  abbrev pub limit : ℕ
  limit = rate * 1000

  -- what is kept of the core
  pub record Paced (t : ℕ) (pool : Pool) : Type 0 where
    pub core : Resource
    pub has : at_place pool.resources r ≡ Some core
    pub past : core.since.0 ≤ t
    pub due_late : (w : UnitId) (due : Moment) → core.cur ≡ Some w → core.due ≡ Some due → core.since.0 + rate * 1000 ≤ due.0
    pub pends : (w : UnitId) → core.cur ≡ Some w → core.pending ≡ true → (core.since.0 + rate * 1000 ≤ t) ⊎ Gone m.config.granularity t pool.domains w

  pub paced_cores : (t : ℕ) (cores : List (Option Resource)) (pool : Pool) → LikePlaces SamePace pool.resources cores → Paced t pool → Paced t (record pool { resources = cores })
  paced_cores t cores pool like here =
      let x = like_is SamePace pool.resources cores r here.core like here.has in
      let same = x.2 in
      record {
        core = x.0;
        has = x.1;
        past = subst (λ (k : Moment). k.0 ≤ t) (sym same.since) here.past;
        due_late = λ w due cur is. subst (λ (k : Moment). k.0 + rate * 1000 ≤ due.0) (sym same.since) (here.due_late w due (sym same.cur ∙ cur) (sym same.due ∙ is));
        pends = λ w cur pending. elim (here.pends w (sym same.cur ∙ cur) (sym same.pending ∙ pending)) [ inl late ↦ inl (subst (λ (k : Moment). k.0 + rate * 1000 ≤ t) (sym same.since) late) | inr gone ↦ inr gone ];
      }

  pub paced_core : (t q : ℕ) (f : Resource → Resource) (pool : Pool) → ((c : Resource) → SamePace c (f c)) → Paced t pool → Paced t (change_core q f pool)
  paced_core t q f pool same = paced_cores t (change_at q f pool.resources) pool (like_change_at SamePace q f pool.resources (λ c. record { cur = refl; since = refl; due = refl; pending = refl }) (λ c at. same c))

  pub paced_processor : (t p : ℕ) (f : Processor → Processor) (pool : Pool) → Paced t pool → Paced t (change_processor m.config.granularity p f pool)
  paced_processor t p f pool = paced_core t (p / m.config.granularity) (λ c. record c { processors = change_item (p % m.config.granularity) f c.processors }) pool (λ c. record { cur = refl; since = refl; due = refl; pending = refl })

  pub paced_vcpu : (t : ℕ) (v : VcpuId) (f : Vcpu → Vcpu) (pool : Pool) → ((x : Vcpu) (e : Moment) → vcpu_among pool.domains v ≡ Some x → x.asleep_until ≡ Some e → t < e.0 → (a : Moment) × ((f x).asleep_until ≡ Some a) × (t < a.0)) → Paced t pool → Paced t (change_vcpu v f pool)
  paced_vcpu t v f pool stays here = record {
    core = here.core;
    has = here.has;
    past = here.past;
    due_late = here.due_late;
    pends = λ w cur pending. elim (here.pends w cur pending) [ inl late ↦ inl late | inr gone ↦ inr (gone_change m.config.granularity t v f pool.domains w stays gone) ];
  }

  pub paced_scheduler : (t : ℕ) (scheduler : Scheduler) (pool : Pool) → Paced t pool → Paced t (record pool { scheduler = scheduler })
  paced_scheduler t scheduler pool here = record { core = here.core; has = here.has; past = here.past; due_late = here.due_late; pends = here.pends }

  pub paced_started : (t p : ℕ) (v : VcpuId) (pool : Pool) → Paced t pool → Paced t (started_on m.config.granularity t p v pool)
  paced_started t p v pool here =
      let f : Vcpu → Vcpu = λ x. record x { started = Some (moment t) } in
      paced_processor t p (with_doing (Guest v)) (change_vcpu v f pool) (paced_vcpu t v f pool (λ x e at asleep later. (e, asleep, later)) here)

  pub opened_pace : (c : Resource) → SamePace c (pools.reopened_core c)
  opened_pace c = by_cond (SamePace c) (list_any pools.is_held_back c.processors) c _ (λ is. record { cur = refl; since = refl; due = refl; pending = refl }) (λ is. record { cur = refl; since = refl; due = refl; pending = refl })

  pub stopped_asleep : (t : ℕ) (x : Vcpu) → (pools.stopped_vcpu t x).asleep_until ≡ x.asleep_until
  stopped_asleep t x = by_option (λ (z : Vcpu). z.asleep_until ≡ x.asleep_until) x.started x _ (λ is. refl) (λ from is. refl)

  -- a wake wakes nobody who sleeps beyond t
  pub paced_wake : (t : ℕ) (v : VcpuId) (pool : Pool) → enabled_in m.config.granularity t pool (Wake v) ≡ true → Paced t pool → Paced t (pools.after_wake m.config.granularity t v pool)
  paced_wake t v pool on here =
      let g : ℕ = m.config.granularity in
      let next : Pool = change_vcpu v pools.woken_vcpu pool in
      let woken : Paced t next = paced_vcpu t v pools.woken_vcpu pool (λ x e at asleep later. absurd (not_yet x e at asleep later)) here in
      by_test (Paced t) (may_unit_run g next (vcpu_unit g v)) _ _
      (λ runs. by_cond (Paced t) (pools.is_unit_off next (vcpu_unit g v)) _ _ (λ off. paced_scheduler t _ next woken)
      (λ off. by_option (Paced t) (pools.unit_core next (vcpu_unit g v)) _ _ (λ is. woken)
      (λ q is. by_option (Paced t) (pools.pool_processor g next (q * g + v.n % g)) _ _ (λ is2. woken)
      (λ p is2. by_cond (Paced t) (pools.is_idling p) _ _ (λ idle. paced_started t (q * g + v.n % g) v next woken) (λ idle. woken)))))
      (λ runs. woken)
    where
      not_yet : (x : Vcpu) (e : Moment) → vcpu_among pool.domains v ≡ Some x → x.asleep_until ≡ Some e → t < e.0 → ⊥
      not_yet x e at asleep later =
          let come : has_moment_come t x.asleep_until ≡ true = subst (λ (o : Option Vcpu). elim o as (λ _. Bool) [ None ↦ false | Some y ↦ has_moment_come t y.asleep_until ] ≡ true) at on in
          let now : nat_le e.0 t ≡ true = subst (λ (o : Option Moment). has_moment_come t o ≡ true) asleep come in
          too_late e.0 now later
        where
          too_late : (n : ℕ) → nat_le n t ≡ true → t < n → ⊥
          too_late n now later = grind (arith, now, later)

  -- the scheduler's records, and what they keep
  pub books_are : (pool : Pool) → PoolStays m i plain.config pool → (books : Credit2Records) × (pool.scheduler.records ≡ Credit2Pool books) × Credit2Stays m i rate books
  books_are pool stays = first_books m checked i r rate plain pool stays

  pub paced_replenish : (t : ℕ) (u : UnitId) (pool : Pool) → PoolStays m i plain.config pool → Paced t pool → Paced t (pools.after_replenish t u pool)
  paced_replenish t u pool stays here =
      let b = books_are pool stays in
      let next : Pool = with_records (policy.records_after_replenish pool.scheduler.records t u) pool in
      let base : Paced t next = paced_scheduler t _ pool here in
      by_option (Paced t) (pools.unit_core pool u) _ _ (λ is. base)
      (λ q is. by_option (Paced t) (unit_rtds_record next.scheduler.records u) _ _ (λ is2. base)
      (λ x is2. absurd (let e : None ≡ Some x = sym (ap (λ (rs : Records). unit_rtds_record (policy.records_after_replenish rs t u) u) b.1) ∙ is2 in cc)))

  -- what is known of a pool of a reached state
  pub record IsKnown (t : ℕ) (pool : Pool) : Type 0 where
    pub stays : PoolStays m i plain.config pool
    pub one : OnePlace m.config.granularity pool
    pub own : UnitsAreOwn pool
    pub sound : (c : Resource) → at_place pool.resources r ≡ Some c → CoreIsSound m.config.granularity c
    pub fits : PoolFits m t pool

  -- the script of a vCPU
  sleeps_later : (t : ℕ) (pool : Pool) → PoolFits m t pool → (v : VcpuId) (x : Vcpu) → pool_vcpu pool v ≡ Some x → has_moment_come t (done_moment x) ≡ true → 1 ≤ (slice_index_or x.script (x.place + 1) (span 0)).0
  sleeps_later t pool fits v x at done =
      let d = vcpu_is pool.domains v x at in
      let here : DomFits m t v.dom.0 d.0 = fits.domains v.dom.0 d.0 d.1 in
      let same = here.count in
      let domain : IsCheckedDomain m.config here.config = each_get (IsCheckedDomain m.config) m.config.domains v.dom.0 here.config (recursion_from_All (IsCheckedDomain m.config) m.config.domains checked.config.domains) here.at in
      elim (slice_get_cases here.config.guests v.n).1 [
        | inl script ↦ sleeps_some t script.0 x (each_get IsCheckedScript here.config.guests v.n script.0 (recursion_from_All IsCheckedScript here.config.guests domain.scripts) script.2) (here.vcpus v.n x script.0 d.2 script.2) done
        | inr past ↦ absurd (let low = slice_get_within d.0.vcpus v.n x d.2 in let p = past.0 in omega (arith, low, p, same))
      ]

  -- no vCPU that may wake by now is still asleep
  abbrev pub NoneToWake : ℕ → Pool → Type 0
  NoneToWake t pool = (v : VcpuId) (y : Vcpu) → pool_vcpu pool v ≡ Some y → has_moment_come t y.asleep_until ≡ false

  -- a unit that stops at a block does not wake at the same moment: it is one vCPU, or never sleeps, or all that wake now are awake
  abbrev pub SeenAt : ℕ → Pool → Type 0
  SeenAt t pool = (m.config.granularity ≡ 1) ⊎ NobodySleeps m i ⊎ NoneToWake t pool

  abbrev pub SeenFor : ℕ → Pool → Action → Type 0
  SeenFor t pool (Block p) = SeenAt t pool
  SeenFor t pool _ = Unit {0}

  module _ (t : ℕ) (pool : Pool) (known : IsKnown t pool) where
    pub only : (q : ℕ) (c : Resource) → at_place pool.resources q ≡ Some c → q ≡ r
    only = only_core m i r plain.config pool known.stays plain.core

    -- a unit of a domain of the pool
    pub home_of : (w : UnitId) (d : Domain) → at_place pool.domains w.dom.0 ≡ Some d → (config : DomConfig) × HasHome m i w.dom.0 config × DomainStays config d
    home_of w d at =
        let home = known.stays.domains.others w.dom.0 d at in
        let own = known.stays.domains.own w.dom.0 home.0 home.1 in
        let found = own.at in
        let same : own.item ≡ d = cc in
        (home.0, home.1, subst (DomainStays home.0) same own.meets)

    pub count_of : (config : DomConfig) (d : Domain) → DomainStays config d → length d.vcpus ≡ length config.guests
    count_of config d stays = sym (length-map d.vcpus (λ (y : Vcpu). y.script)) ∙ ap length stays.scripts

    -- a block
    module _ (seen : SeenAt t pool) (p : ℕ) (v : VcpuId) (guest : running_guest m.config.granularity pool p ≡ Some v) (on : enabled_in m.config.granularity t pool (Block (processor p)) ≡ true) (here : Paced t pool) where
      abbrev next : Pool
      next = change_processor m.config.granularity p (with_doing Idle) (change_vcpu v (pools.put_to_sleep t) pool)

      come : elim (pool_vcpu pool v) as (λ _. Bool) [ None ↦ false | Some x ↦ has_moment_come t (done_moment x) ] ≡ true
      come = subst (λ (o : Option VcpuId). elim o as (λ _. Bool) [ None ↦ false | Some w ↦ elim (pool_vcpu pool w) as (λ _. Bool) [ None ↦ false | Some x ↦ has_moment_come t (done_moment x) ] ] ≡ true) guest (and_left _ _ on)

      asleep_later : (x : Vcpu) → pool_vcpu pool v ≡ Some x → t < t + (slice_index_or x.script (x.place + 1) (span 0)).0
      asleep_later x at =
          let done : has_moment_come t (done_moment x) ≡ true = subst (λ (o : Option Vcpu). elim o as (λ _. Bool) [ None ↦ false | Some y ↦ has_moment_come t (done_moment y) ] ≡ true) at come in
          let some = sleeps_later t pool known.fits v x at done in
          omega (arith, some)

      base : Paced t next
      base =
          paced_processor t p (with_doing Idle) (change_vcpu v (pools.put_to_sleep t) pool)
          (paced_vcpu t v (pools.put_to_sleep t) pool (λ x e at asleep later. (moment (t + (slice_index_or x.script (x.place + 1) (span 0)).0), refl, asleep_later x at)) here)

      found : (c : Resource) × (q : Processor) × (at_place pool.resources (p / m.config.granularity) ≡ Some c) × (slice_get c.processors (p % m.config.granularity) ≡ Some q) × (q.doing ≡ Guest v)
      found = guest_of_is m.config.granularity pool p v guest

      place_is : p / m.config.granularity ≡ r
      place_is = only (p / m.config.granularity) found.0 found.2

      cur_is : here.core.cur ≡ Some (vcpu_unit m.config.granularity v)
      cur_is =
          let at_r : at_place pool.resources r ≡ Some found.0 = subst (λ k. at_place pool.resources k ≡ Some found.0) place_is found.2 in
          let has = here.has in
          let same : found.0 ≡ here.core = cc in
          subst (λ (c : Resource). c.cur ≡ Some (vcpu_unit m.config.granularity v)) same ((known.sound found.0 at_r).guests (p % m.config.granularity) found.1 v found.3 found.4).0

      -- the unit that stops sleeps beyond t
      gone : may_unit_run m.config.granularity next (vcpu_unit m.config.granularity v) ≡ false → Gone m.config.granularity t next.domains (vcpu_unit m.config.granularity v)
      gone stops = by_seen seen
        where
          same_place : (g n k : ℕ) → g ≡ 1 → n / g ≡ k / g → n ≡ k
          same_place g n k one same = (let a : n / 1 ≡ k / 1 = subst (λ x. n / x ≡ k / x) one same in omega (arith, a))

          by_seen : SeenAt t pool → Gone m.config.granularity t next.domains (vcpu_unit m.config.granularity v)
          by_seen (inl single) n y place is =
              let e : n ≡ v.n = same_place m.config.granularity n v.n single place in
              let is_v : pool_vcpu (change_vcpu v (pools.put_to_sleep t) pool) v ≡ Some y = subst (λ k. vcpu_among next.domains (record { dom = v.dom; n = k }) ≡ Some y) e is in
              let x = vcpu_after v (pools.put_to_sleep t) pool y is_v in
              (moment (t + (slice_index_or x.0.script (x.0.place + 1) (span 0)).0), ap (λ (z : Vcpu). z.asleep_until) (sym x.2), asleep_later x.0 x.1)
          by_seen (inr (inl nobody)) n y place is = absurd (clash (may_unit_run m.config.granularity next (vcpu_unit m.config.granularity v)) runs stops)
            where
              runs : may_unit_run m.config.granularity next (vcpu_unit m.config.granularity v) ≡ true
              runs =
                  let there = vcpu_there (pool_vcpu pool v) come in
                  let d = vcpu_is pool.domains v there.0 there.1 in
                  let home = home_of (vcpu_unit m.config.granularity v) d.0 d.1 in
                  let low = slice_get_within d.0.vcpus v.n there.0 d.2 in
                  let same = count_of home.0 d.0 home.2 in
                  let inside : v.n / m.config.granularity < configured_units m.config.granularity home.0 = inside_of m.config.granularity v.n (length home.0.guests) (some_processor m.config.granularity checked.config.granularity) (omega (arith, low, same)) in
                  let never : NeverSleeps m (vcpu_unit m.config.granularity v) = nobody v.dom.0 (v.n / m.config.granularity) home.0 home.1 inside in
                  let stays2 = stays_after m i plain.config m.config.granularity t pool (Block (processor p)) on known.stays in
                  let run = never_sleeps m checked i plain.config (settled_pool t (after_in m.config.granularity t pool (Block (processor p)))) stays2 (vcpu_unit m.config.granularity v) never home.0 home.1 in
                  let domains : (after_in m.config.granularity t pool (Block (processor p))).domains ≡ next.domains =
                  ap (λ (o : Option VcpuId). (elim o as (λ _. Pool) [ None ↦ pool | Some z ↦ pools.after_block m.config.granularity t p z pool ]).domains) guest
                  ∙ by_cond (λ (q : Pool). q.domains ≡ next.domains) (may_unit_run m.config.granularity next (vcpu_unit m.config.granularity v)) next _ (λ is. refl) (λ is. refl) in
                  subst (λ (ds : List (Option Domain)). runnable_among m.config.granularity ds (vcpu_unit m.config.granularity v) ≡ true) domains run
                where
                  vcpu_there : (o : Option Vcpu) → elim o as (λ _. Bool) [ None ↦ false | Some z ↦ has_moment_come t (done_moment z) ] ≡ true → (z : Vcpu) × (o ≡ Some z)
                  vcpu_there None on = absurd (cc)
                  vcpu_there (Some z) on = (z, refl)
          by_seen (inr (inr none)) n y place is =
              elim (vcpu_read v (record { dom = v.dom; n = n }) (pools.put_to_sleep t) pool.domains y is) [
                | inl was ↦ later_of y.asleep_until (asleep n y place is) (none (record { dom = v.dom; n = n }) y was)
                | inr x ↦ (moment (t + (slice_index_or x.0.script (x.0.place + 1) (span 0)).0), ap (λ (z : Vcpu). z.asleep_until) (sym x.3), asleep_later x.0 x.2)
              ]
            where
              later_of : (o : Option Moment) → is_none o ≡ false → has_moment_come t o ≡ false → (e : Moment) × (o ≡ Some e) × (t < e.0)
              later_of None sleeps later = absurd (cc)
              later_of (Some e) sleeps later = (e, refl, (let low : t < e.0 = grind (arith, later) in low))

              -- the unit stops, so each of its vCPUs sleeps
              asleep : (n : ℕ) (y : Vcpu) → n / m.config.granularity ≡ v.n / m.config.granularity → vcpu_among next.domains (record { dom = v.dom; n = n }) ≡ Some y → is_none y.asleep_until ≡ false
              asleep n y place is =
                  let some : 0 < m.config.granularity = some_processor m.config.granularity checked.config.granularity in
                  let d = vcpu_is next.domains (record { dom = v.dom; n = n }) y is in
                  let old = vcpu_domain v.dom.0 d.0 d.1 in
                  let runs_not : (not d.0.paused && is_none d.0.moving && list_any is_awake (vcpus_of_unit m.config.granularity d.0 (v.n / m.config.granularity))) ≡ false = ap (λ (o : Option Domain). elim o as (λ _. Bool) [ None ↦ false | Some e ↦ unit_runnable m.config.granularity e (v.n / m.config.granularity) ]) (sym d.1) ∙ stops in
                  part_none is_awake m.config.granularity (v.n / m.config.granularity * m.config.granularity) n d.0.vcpus y d.2
                  (place_low m.config.granularity n (v.n / m.config.granularity) place) (place_high m.config.granularity n (v.n / m.config.granularity) some place)
                  (stopped_part d.0.paused (is_none d.0.moving) _ old.0 old.1 runs_not)
                where
                  stopped_part : (paused still any : Bool) → paused ≡ false → still ≡ true → (not paused && still && any) ≡ false → any ≡ false
                  stopped_part true still any a b e = absurd (cc)
                  stopped_part false true any a b e = e
                  stopped_part false false any a b e = absurd (cc)

                  -- the domain is neither paused nor moving
                  vcpu_domain : (k : ℕ) (d : Domain) → at_place next.domains k ≡ Some d → (d.paused ≡ false) × (is_none d.moving ≡ true)
                  vcpu_domain k d at =
                      elim (read_change_at v.dom.0 k (λ x. record x { vcpus = change_item v.n (pools.put_to_sleep t) x.vcpus }) pool.domains d at) [
                        | inl was ↦ (let h = own_domain k d was.1 in (h.runs, ap is_none h.stays))
                        | inr x ↦ (
                            let h = own_domain v.dom.0 x.0 x.1 in
                            (ap (λ (z : Domain). z.paused) (sym x.3) ∙ h.runs, ap (λ (z : Domain). is_none z.moving) (sym x.3) ∙ ap is_none h.stays))
                      ]
                    where
                      own_domain : (k : ℕ) (d : Domain) → at_place pool.domains k ≡ Some d → GoesOn d
                      own_domain k d at = (let x = home_of (record { dom = domain_number k; n = 0 }) d at in record { config = x.0; runs = x.2.runs; stays = x.2.stays })

      pended : may_unit_run m.config.granularity next (vcpu_unit m.config.granularity v) ≡ false → Paced t (change_core (p / m.config.granularity) (λ c. record c { pending = true }) next)
      pended stops =
          let f : Resource → Resource = λ c. record c { pending = true } in
          let b : Paced t next = base in
          let cur_next : b.core.cur ≡ Some (vcpu_unit m.config.granularity v) = cur_in_next in
          record {
            core = f b.core;
            has = ap (λ k. at_place (change_at k f next.resources) r) place_is ∙ at_place-change_at r f next.resources ∙ ap (option_map f) b.has;
            past = b.past;
            due_late = λ w due cur is. b.due_late w due cur is;
            pends = λ w cur pending. inr (let e : Some (vcpu_unit m.config.granularity v) ≡ Some w = sym cur_next ∙ cur in subst (Gone m.config.granularity t next.domains) (unit_same e) (gone stops));
          }
        where
          unit_same : {a b : UnitId} → Some a ≡ Some b → a ≡ b
          unit_same e = cc

          cur_in_next : base.core.cur ≡ Some (vcpu_unit m.config.granularity v)
          cur_in_next =
              let h : Resource → Resource = λ c. record c { processors = change_item (p % m.config.granularity) (with_doing Idle) c.processors } in
              let like : LikePlaces SamePace pool.resources next.resources =
              like_change_at SamePace (p / m.config.granularity) h pool.resources (λ c. record { cur = refl; since = refl; due = refl; pending = refl }) (λ c at. record { cur = refl; since = refl; due = refl; pending = refl }) in
              let x = like_is SamePace pool.resources next.resources r here.core like here.has in
              let found_x = x.1 in
              let found_b = base.has in
              let same : x.0 ≡ base.core = cc in
              subst (λ (c : Resource). c.cur ≡ Some (vcpu_unit m.config.granularity v)) same (x.2.cur ∙ cur_is)

      pub paced_block : Paced t (pools.after_block m.config.granularity t p v pool)
      paced_block = by_cond (Paced t) (may_unit_run m.config.granularity next (vcpu_unit m.config.granularity v)) next _ (λ runs. base) (λ stops. pended stops)
