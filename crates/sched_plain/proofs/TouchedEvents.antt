-- Which events an event of a pool may let come: those of the core and of the domain that it touches.
use Rattle.std.proofs.Common.{◌≡◌, ◌≢◌, ◌⊎◌, ◌≤◌, ◌<◌, ◌+◌, ◌*◌, ◌/◌, ◌%◌, ℕ, Bool, true, false, not, List, refl, sym, ap, subst, ◌∙◌, arith, inl, inr}
use Rattle.std.specs.Prelude.{Option, Some, None, ◌&&◌, ◌||◌, is_some, option_map, slice_get}
use Rattle.std.specs.List.{list_any}
use Rattle.std.proofs.Math.Decide.{ℕ_discrete}
use Rattle.std.proofs.lemmas.Bool.{ne_eqb, not-true}
use Rattle.std.proofs.lemmas.Nat.{div-mul-add}
use Rattle.sched_base.specs.Numbers.{has_moment_come, moment, processor}
use Rattle.sched_base.specs.declared.DomId.{DomId}
use Rattle.sched_base.specs.declared.Moment.{Moment}
use Rattle.sched_base.specs.declared.UnitId.{UnitId}
use Rattle.sched_base.specs.declared.VcpuId.{VcpuId}
use Rattle.sched_base.proofs.Bools.{and_left, and_right, clash, or_left}
use Rattle.sched_model.specs.declared.action.Action.{Action}
use Rattle.sched_model.specs.declared.action.Action.TheVariants.{Stall, Xl, Moved, DomMoved, Wake, Block, Slice, Repl, Refill, Arrive, Decide, Leave, Save}
use Rattle.sched_model.specs.declared.state.Doing.TheVariants.{Guest, Idle, Held}
use Rattle.sched_model.specs.declared.state.Credit2Domain.{Credit2Domain}
use Rattle.sched_model.specs.declared.state.Domain.{Domain}
use Rattle.sched_model.specs.declared.state.Pool.{Pool}
use Rattle.sched_model.specs.declared.state.Records.{Records}
use Rattle.sched_model.specs.declared.state.Records.TheVariants.{Credit2Pool, RtdsPool, ArincPool, NullPool}
use Rattle.sched_model.specs.declared.state.Resource.{Resource}
use Rattle.sched_model.specs.declared.state.RtdsUnit.{RtdsUnit}
use Rattle.sched_model.specs.declared.state.Vcpu.{Vcpu}
use Rattle.sched_model.specs.Actions.{IsOfPool}
use Rattle.sched_model.specs.EligibleUnits.{rtds_unit_at}
use Rattle.sched_model.specs.Places.{at_place, change_at, change_item, is_unit, numbered_items, test_at}
use Rattle.sched_model.specs.Policy.{decision_of, is_replenish_due, next_refill_moment, records_after_refill, records_after_replenish, unit_rtds_record}
use Rattle.sched_model.specs.Rtds as rtds
use Rattle.sched_model.specs.State.{is_awake, may_unit_run}
use Rattle.sched_model.specs.Pool as pools
use Rattle.sched_model.specs.Pool.{after_in, change_core, core_ask, change_processor, change_vcpu, decided_core, done_moment, due_within, enabled_in, is_domain_unit, is_held_back, is_idling, is_unit_off, pending_core, pool_processor, pool_vcpu, put_to_sleep, queue_unit, reopened_core, running_guest, saved_core, saving_among, started_on, stopped_vcpu, unit_core, vcpu_to_run, vcpu_unit, with_doing, with_records, woken_vcpu}
use Rattle.sched_model.proofs.PlaceLemmas.{at_place-change_at_other}
use Rattle.sched_laws.specs.Counts.{one_at}
use Rattle.sched_laws.specs.PoolFacts.{IsKnownPool, core_places}
use Rattle.sched_laws.proofs.Choices.{is_unit_same}
use Rattle.sched_laws.proofs.Counts.{is_that_unit, total_two}
use Rattle.sched_laws.proofs.EachPlace.{at_place-change_at, by_cond, by_option, by_test, found_at, none_found}
use Rattle.sched_laws.proofs.Events.{LikePlaces, like_change_at}
use Rattle.sched_laws.proofs.Lists.{slice_get-change_item_other, some_same}
use Rattle.sched_laws.proofs.OnePlace.{one_same}
use Rattle.sched_laws.proofs.Sound.{guest_of_is}
use Rattle.sched_plain.specs.PoolFloors.{IsOfCore, IsOfDomain}
use Rattle.sched_plain.specs.declared.floors.Floors.{Floors}
use Rattle.sched_plain.specs.KeptFloors.{floor_of, forgotten, touched, touched_domain}
use Rattle.sched_plain.proofs.AlikeCores.{UpAsBefore, first_same, none_less}
use Rattle.sched_plain.proofs.Decided.{decide_moves, decide_refills, decide_renews}
use Rattle.sched_plain.proofs.FloorLists.{forgotten_none}
use Rattle.sched_plain.proofs.TouchedSteps.{Comes, both, KeepsOns, Lets, changed_step, core_step, decided_step, lets_both, lets_same, processor_step, queue_step, records_step, vcpu_step}

-- the deadlines of other units, and the refills of other domains
unit_other : (u w : UnitId) (f : RtdsUnit → RtdsUnit) (domains : List (Option (List RtdsUnit))) → (w ≡ u) ⊎ (rtds_unit_at (rtds.change_unit u f domains) w ≡ rtds_unit_at domains w)
unit_other u w f domains = elim (ℕ_discrete w.dom.0 u.dom.0) [
  | no other ↦ inr (ap read (at_place-change_at_other u.dom.0 w.dom.0 (change_item u.n f) domains other))
  | yes same ↦ elim (ℕ_discrete w.n u.n) [
    | yes also ↦ inl (grind (arith, same, also))
    | no other ↦ inr (
        ap (λ (k : ℕ). read (at_place (change_at u.dom.0 (change_item u.n f) domains) k)) same ∙ ap read (at_place-change_at u.dom.0 (change_item u.n f) domains)
        ∙ by (at_place domains u.dom.0) other ∙ ap (λ (k : ℕ). read (at_place domains k)) (sym same))
  ]
]
  where
    read : Option (List RtdsUnit) → Option RtdsUnit
    read o = elim o as (λ _. Option RtdsUnit) [ None ↦ None | Some units ↦ slice_get units w.n ]

    by : (o : Option (List RtdsUnit)) → w.n ≢ u.n → read (option_map (change_item u.n f) o) ≡ read o
    by None other = refl
    by (Some units) other = slice_get-change_item_other u.n w.n f units (λ e. other (sym e))

replenished_due : (t now : ℕ) (u w : UnitId) (records : Records) → is_replenish_due (records_after_replenish records now u) t w ≡ true → (w ≡ u) ⊎ (is_replenish_due records t w ≡ true)
replenished_due t now u w (Credit2Pool records) on = inr on
replenished_due t now u w (RtdsPool domains) on = elim (unit_other u w (rtds.unit_after_replenish now) domains) [
  | inl is ↦ inl is
  | inr same ↦ inr (sym (ap (λ (o : Option RtdsUnit). elim o as (λ _. Bool) [ None ↦ false | Some x ↦ has_moment_come t (Some (moment x.deadline)) ]) same) ∙ on)
]
replenished_due t now u w (ArincPool records) on = inr on
replenished_due t now u w (NullPool kept) on = inr on

replenished_refill : (now d : ℕ) (u : UnitId) (records : Records) → next_refill_moment (records_after_replenish records now u) d ≡ next_refill_moment records d
replenished_refill now d u (Credit2Pool records) = refl
replenished_refill now d u (RtdsPool domains) = refl
replenished_refill now d u (ArincPool records) = refl
replenished_refill now d u (NullPool kept) = refl

refilled_due : (t now d : ℕ) (w : UnitId) (records : Records) → is_replenish_due (records_after_refill records now d) t w ≡ is_replenish_due records t w
refilled_due t now d w (Credit2Pool records) = refl
refilled_due t now d w (RtdsPool domains) = refl
refilled_due t now d w (ArincPool records) = refl
refilled_due t now d w (NullPool kept) = refl

refilled_other : (now d e : ℕ) (records : Records) → e ≢ d → next_refill_moment (records_after_refill records now d) e ≡ next_refill_moment records e
refilled_other now d e (Credit2Pool records) other =
    ap (λ (o : Option Credit2Domain). elim o as (λ _. Option Moment) [ None ↦ None | Some x ↦ option_map moment x.refill ]) (at_place-change_at_other d e _ records.domains other)
refilled_other now d e (RtdsPool domains) other = refl
refilled_other now d e (ArincPool records) other = refl
refilled_other now d e (NullPool kept) other = refl

-- whether a unit of the domain is on the core, and a core with none where another one has none
abbrev is_on : ℕ → Resource → Bool
is_on d x = is_domain_unit d x.cur || is_domain_unit d x.saving

abbrev NoneThen : ℕ → Resource → Resource → Type 0
NoneThen d x y = is_on d y ≡ false → is_on d x ≡ false

module _ (g t now : ℕ) (some : 0 < g) (pool : Pool) (known : IsKnownPool g pool) where
  -- the core of a unit is the only one that has it
  one_core : (r : ℕ) (c : Resource) (u : UnitId) → at_place pool.resources r ≡ Some c → c.cur ≡ Some u → unit_core pool u ≡ Some r
  one_core r c u at own = by (unit_core pool u) refl
    where
      by : (o : Option ℕ) → unit_core pool u ≡ o → o ≡ Some r
      by None is = absurd (clash (is_unit c.cur u) (is_that_unit c.cur u own) (none_found 0 r (λ (x : Resource). is_unit x.cur u) pool.resources c is at))
      by (Some k) is = elim (ℕ_discrete r k) [
        | yes same ↦ ap Some (sym same)
        | no other ↦ absurd (
            let f = found_at k (λ (x : Resource). is_unit x.cur u) pool.resources is in
            let its : f.0.cur ≡ Some u = is_unit_same f.0.cur u f.2 in
            let two = total_two (core_places u) r k c f.0 pool.resources other at f.1 in
            let one : one_at u c.cur ≡ 1 = ap (one_at u) own ∙ one_same u in
            let also : one_at u f.0.cur ≡ 1 = ap (one_at u) its ∙ one_same u in
            let most = known.one.most u in
            omega (arith, two, one, also, most))
      ]

  -- a vCPU runs on the core of its unit
  guest_core : (p : ℕ) (v : VcpuId) → running_guest g pool p ≡ Some v → unit_core pool (vcpu_unit g v) ≡ Some (p / g)
  guest_core p v guest =
      let f = guest_of_is g pool p v guest in
      one_core (p / g) f.0 (vcpu_unit g v) f.2 ((known.sound (p / g) f.0 f.2).guests (p % g) f.1 v f.3 f.4).0

  -- the vCPU that belongs on a processor is one of the core's unit
  to_run_is : (c : Resource) (i : ℕ) (v : VcpuId) → i < g → vcpu_to_run g pool c i ≡ Some v → c.cur ≡ Some (vcpu_unit g v)
  to_run_is c i v inside found =
      let Q : Option VcpuId → Type 0 = λ o. o ≡ Some v → c.cur ≡ Some (vcpu_unit g v) in
      by_option Q c.cur _ _ (λ is e. absurd (cc))
      (λ u is. by_option Q (pool_vcpu pool (record { dom = u.dom; n = u.n * g + i })) _ _ (λ is2 e. absurd (cc))
      (λ x is2. by_cond Q (may_unit_run g pool u && is_awake x) _ _ (λ is3 e. own_vcpu u is e) (λ is3 e. absurd (cc)))) found
    where
      own_vcpu : (u : UnitId) → c.cur ≡ Some u → Some (record { dom = u.dom; n = u.n * g + i }) ≡ Some v → c.cur ≡ Some (vcpu_unit g v)
      own_vcpu u is e =
          let same : ◌≡◌ {A = VcpuId} (record { dom = u.dom; n = u.n * g + i }) v = cc in
          let at : c.cur ≡ Some (record { dom = u.dom; n = (u.n * g + i) / g }) = rw (div-mul-add u.n g i inside) is in
          subst (λ (w : VcpuId). c.cur ≡ Some (vcpu_unit g w)) same at

  module _ (Hit : Action → Type 0) where
    abbrev Cores : ℕ → Type 0
    Cores r = (action : Action) → IsOfCore g r action → Hit action

    slices : (r : ℕ) → Cores r → Lets g t Hit pool (change_core r pending_core pool)
    slices r hits = changed_step g t Hit r pending_core pool hits (λ c. record { cur = refl; saving = refl; up = refl })

    -- a vCPU that stops
    stops : (v : VcpuId) → Lets g t Hit pool (change_vcpu v (stopped_vcpu now) pool)
    stops v =
        vcpu_step g t Hit v (stopped_vcpu now) pool
        (λ x. by_option (λ (y : Vcpu). has_moment_come t y.asleep_until ≡ true → Hit (Wake v) ⊎ (has_moment_come t x.asleep_until ≡ true)) x.started _ _ (λ is on. inr on) (λ from is on. inr on))
        (λ p guest x. by_option (λ (y : Vcpu). has_moment_come t (done_moment y) ≡ true → Hit (Block (processor p)) ⊎ (has_moment_come t (done_moment x) ≡ true)) x.started _ _ (λ is on. inr on) (λ from is on. absurd (cc)))

    arrives : (p : ℕ) → Cores (p / g) → Lets g t Hit pool (pools.after_arrive g now p pool)
    arrives p hits =
        by_option (λ (next : Pool). Lets g t Hit pool (change_processor g p (with_doing Held) next)) (running_guest g pool p) _ _
        (λ is. processor_step g t Hit p Held pool hits)
        (λ v is. lets_both g t Hit pool (change_vcpu v (stopped_vcpu now) pool) (change_processor g p (with_doing Held) (change_vcpu v (stopped_vcpu now) pool)) (stops v) (processor_step g t Hit p Held (change_vcpu v (stopped_vcpu now) pool) hits))

    -- a vCPU that falls asleep
    blocks : (p : ℕ) (v : VcpuId) → Cores (p / g) → Hit (Wake v) → Lets g t Hit pool (pools.after_block g now p v pool)
    blocks p v hits hit =
        let asleep : Lets g t Hit pool (change_vcpu v (put_to_sleep now) pool) = vcpu_step g t Hit v (put_to_sleep now) pool (λ x on. inl hit) (λ q guest x on. absurd (cc)) in
        let next : Pool = change_processor g p (with_doing Idle) (change_vcpu v (put_to_sleep now) pool) in
        let idle : Lets g t Hit pool next = lets_both g t Hit pool (change_vcpu v (put_to_sleep now) pool) next asleep (processor_step g t Hit p Idle (change_vcpu v (put_to_sleep now) pool) hits) in
        by_cond (Lets g t Hit pool) (may_unit_run g next (vcpu_unit g v)) _ _ (λ runs. idle)
        (λ rests. lets_both g t Hit pool next (change_core (p / g) pending_core next) idle (changed_step g t Hit (p / g) pending_core next hits (λ c. record { cur = refl; saving = refl; up = refl })))

    -- a vCPU that is started
    starts : (v : VcpuId) → ((p : ℕ) → running_guest g pool p ≡ Some v → Hit (Block (processor p))) → Lets g t Hit pool (change_vcpu v (λ x. record x { started = Some (moment now) }) pool)
    starts v hits = vcpu_step g t Hit v (λ x. record x { started = Some (moment now) }) pool (λ x on. inr on) (λ p guest x on. inl (hits p guest))

    opens : (c : Resource) → KeepsOns g t c (reopened_core c)
    opens c = by_cond (KeepsOns g t c) (list_any is_held_back c.processors) _ _ (λ is. record { cur = refl; saving = refl; up = refl }) (λ is. record { cur = refl; saving = refl; up = refl })

    leaves : (p : ℕ) (c : Resource) → at_place pool.resources (p / g) ≡ Some c → Cores (p / g) → Lets g t Hit pool (pools.after_leave g now p c pool)
    leaves p c at hits =
        by_option (λ (next : Pool). Lets g t Hit pool (change_core (p / g) reopened_core next)) (vcpu_to_run g pool c (p % g)) _ _
        (λ none. lets_both g t Hit pool (change_processor g p (with_doing Idle) pool) (change_core (p / g) reopened_core (change_processor g p (with_doing Idle) pool)) (processor_step g t Hit p Idle pool hits) (changed_step g t Hit (p / g) reopened_core (change_processor g p (with_doing Idle) pool) hits opens))
        (λ v found.
        let own : unit_core pool (vcpu_unit g v) ≡ Some (p / g) = one_core (p / g) c (vcpu_unit g v) at (to_run_is c (p % g) v (omega (arith, some)) found) in
        let start : Vcpu → Vcpu = λ x. record x { started = Some (moment now) } in
        let started : Lets g t Hit pool (change_vcpu v start pool) = starts v (λ q guest. hits (Block (processor q)) (some_same (sym (guest_core q v guest) ∙ own))) in
        let on : Lets g t Hit pool (started_on g now p v pool) = lets_both g t Hit pool (change_vcpu v start pool) (started_on g now p v pool) started (processor_step g t Hit p (Guest v) (change_vcpu v start pool) hits) in
        lets_both g t Hit pool (started_on g now p v pool) (change_core (p / g) reopened_core (started_on g now p v pool)) on (changed_step g t Hit (p / g) reopened_core (started_on g now p v pool) hits opens))

    -- a core that saves nothing any more
    saves : (r : ℕ) (c : Resource) (u : UnitId) → at_place pool.resources r ≡ Some c → c.saving ≡ Some u → Cores r → ((action : Action) → IsOfDomain u.dom.0 action → Hit action) → Lets g t Hit pool (pools.after_save g r u pool)
    saves r c u at saving hits owns = by_cond (Lets g t Hit pool) (may_unit_run g pool u) _ _ (λ runs. lets_both g t Hit pool next (queue_unit u next) saved (queue_step g t Hit u next (owns (Repl u) refl))) (λ rests. saved)
      where
        cores : List (Option Resource)
        cores = change_at r saved_core pool.resources

        next : Pool
        next = change_core r saved_core pool

        none_then : (d : ℕ) → u.dom.0 ≢ d → (x : Resource) → at_place pool.resources r ≡ Some x → NoneThen d x (saved_core x)
        none_then d other x there none =
            let same : c ≡ x = some_same (sym at ∙ there) in
            let own : x.saving ≡ Some u = subst (λ (y : Resource). y.saving ≡ Some u) same saving in
            ap (λ (b : Bool). b || is_domain_unit d x.saving) (or_left (is_domain_unit d x.cur) false none)
            ∙ ap (is_domain_unit d) own ∙ ne_eqb u.dom.0 d other

        moves : (d : DomId) → Comes g t next (DomMoved d) → Hit (DomMoved d) ⊎ Comes g t pool (DomMoved d)
        moves d on = elim (ℕ_discrete u.dom.0 d.0) [
          | yes is ↦ inl (owns (DomMoved d) (sym is))
          | no other ↦ inr (
              let moving : Bool = test_at pool.domains d.0 (λ (x : Domain). is_some x.moving) in
              let then : Bool = list_any (λ (e : ℕ × Resource). is_on d.0 e.1) (numbered_items 0 cores) in
              let was : Bool = list_any (λ (e : ℕ × Resource). is_on d.0 e.1) (numbered_items 0 pool.resources) in
              let like : LikePlaces (NoneThen d.0) pool.resources cores = like_change_at (NoneThen d.0) r saved_core pool.resources (λ x none. none) (λ x there. none_then d.0 other x there) in
              let none : was ≡ false = none_less (NoneThen d.0) (is_on d.0) (λ x y less. less) 0 pool.resources cores like (not-true then (and_right moving (not then) on)) in
              both moving (not was) (and_left moving (not then) on) (ap not none))
        ]

        saved : Lets g t Hit pool next
        saved =
            let up : LikePlaces (UpAsBefore t) pool.resources cores = like_change_at (UpAsBefore t) r saved_core pool.resources (λ x. refl) (λ x there. refl) in
            let cur : LikePlaces (λ (x y : Resource). y.cur ≡ x.cur) pool.resources cores = like_change_at (λ (x y : Resource). y.cur ≡ x.cur) r saved_core pool.resources (λ x. refl) (λ x there. refl) in
            core_step g t Hit r cores pool hits (λ j other. at_place-change_at_other r j saved_core pool.resources other) up
            (λ w on. ap is_some (sym (first_same (λ (x y : Resource). y.cur ≡ x.cur) (λ (x : Resource). is_unit x.cur w) (λ x y e. ap (λ (o : Option UnitId). is_unit o w) e) 0 pool.resources cores cur)) ∙ on)
            moves

    -- a vCPU that wakes
    wakes : (v : VcpuId) → ((r : ℕ) → unit_core pool (vcpu_unit g v) ≡ Some r → Cores r) → ((action : Action) → IsOfDomain v.dom.0 action → Hit action) → Lets g t Hit pool (pools.after_wake g now v pool)
    wakes v hits owns =
        by_test (Lets g t Hit pool) (may_unit_run g next u) _ _
        (λ runs. by_cond (Lets g t Hit pool) (is_unit_off next u) _ _ (λ off. lets_both g t Hit pool next (queue_unit u next) woken (queue_step g t Hit u next (owns (Repl u) refl)))
        (λ on. by_option (Lets g t Hit pool) (unit_core next u) _ _ (λ none. woken)
        (λ r is. by_option (Lets g t Hit pool) (pool_processor g next (r * g + v.n % g)) _ _ (λ none. woken)
        (λ q there. by_cond (Lets g t Hit pool) (is_idling q) _ _ (λ idle. joined r is) (λ busy. woken)))))
        (λ rests. woken)
      where
        u : UnitId
        u = vcpu_unit g v

        next : Pool
        next = change_vcpu v woken_vcpu pool

        hit : (p : ℕ) → running_guest g pool p ≡ Some v → Hit (Block (processor p))
        hit p guest = hits (p / g) (guest_core p v guest) (Block (processor p)) refl

        woken : Lets g t Hit pool next
        woken = vcpu_step g t Hit v woken_vcpu pool (λ x on. inl (owns (Wake v) refl)) (λ p guest x on. inl (hit p guest))

        joined : (r : ℕ) → unit_core pool u ≡ Some r → Lets g t Hit pool (started_on g now (r * g + v.n % g) v next)
        joined r is =
            let start : Vcpu → Vcpu = λ x. record x { started = Some (moment now) } in
            let low : v.n % g < g = omega (arith, some) in
            let place : (r * g + v.n % g) / g ≡ r = div-mul-add r g (v.n % g) low in
            let core : Cores ((r * g + v.n % g) / g) = subst Cores (sym place) (hits r is) in
            let started : Lets g t Hit next (change_vcpu v start next) = vcpu_step g t Hit v start next (λ x on. inr on) (λ p guest x on. inl (hit p guest)) in
            lets_both g t Hit pool (change_vcpu v start next) (started_on g now (r * g + v.n % g) v next) (lets_both g t Hit pool next (change_vcpu v start next) woken started) (processor_step g t Hit (r * g + v.n % g) (Guest v) (change_vcpu v start next) core)

    -- a unit that is replenished
    renews : (u : UnitId) → ((r : ℕ) → unit_core pool u ≡ Some r → Cores r) → Hit (Repl u) → Lets g t Hit pool (pools.after_replenish now u pool)
    renews u hits hit =
        by_option (Lets g t Hit pool) (unit_core pool u) _ _ (λ none. base)
        (λ r is. by_option (Lets g t Hit pool) (unit_rtds_record next.scheduler.records u) _ _ (λ none. base)
        (λ x there. lets_both g t Hit pool next (change_core r (due_within now x.budget) next) base (changed_step g t Hit r (due_within now x.budget) next (hits r is) (λ c. record { cur = refl; saving = refl; up = refl }))))
      where
        next : Pool
        next = with_records (records_after_replenish pool.scheduler.records now u) pool

        due : (w : UnitId) → (w ≡ u) ⊎ (is_replenish_due pool.scheduler.records t w ≡ true) → Hit (Repl w) ⊎ (is_replenish_due pool.scheduler.records t w ≡ true)
        due w (inl is) = inl (subst (λ (z : UnitId). Hit (Repl z)) (sym is) hit)
        due w (inr was) = inr was

        base : Lets g t Hit pool next
        base =
            records_step g t Hit (records_after_replenish pool.scheduler.records now u) pool (λ w on. due w (replenished_due t now u w pool.scheduler.records on))
            (λ d on. inr (subst (λ (o : Option Moment). has_moment_come t o ≡ true) (replenished_refill now d.0 u pool.scheduler.records) on))

    -- a domain that is refilled
    refills : (d : ℕ) → ((action : Action) → IsOfDomain d action → Hit action) → Lets g t Hit pool (with_records (records_after_refill pool.scheduler.records now d) pool)
    refills d owns =
        records_step g t Hit (records_after_refill pool.scheduler.records now d) pool (λ w on. inr (sym (refilled_due t now d w pool.scheduler.records) ∙ on))
        (λ e on. elim (ℕ_discrete e.0 d) [
          | yes is ↦ inl (owns (Refill e) is)
          | no other ↦ inr (subst (λ (o : Option Moment). has_moment_come t o ≡ true) (refilled_other now d e.0 pool.scheduler.records other) on)
        ])

-- what is known of the touched core and domain is nothing
module _ (g : ℕ) (floors : Floors) where
  abbrev Known : List ℕ → List ℕ → Action → Type 0
  Known cores domains action = floor_of g (record { cores = cores; domains = domains }) action ≤ 0

  core_hit : (o : Option ℕ) (r : ℕ) (domains : List ℕ) → o ≡ Some r → (action : Action) → IsOfCore g r action → Known (forgotten o floors.cores) domains action
  core_hit o r domains is (Moved q) own = forgotten_none o q.0 floors.cores (is ∙ ap Some (sym own))
  core_hit o r domains is (Block p) own = forgotten_none o (p.0 / g) floors.cores (is ∙ ap Some (sym own))
  core_hit o r domains is (Slice q) own = forgotten_none o q.0 floors.cores (is ∙ ap Some (sym own))
  core_hit o r domains is (Arrive p) own = forgotten_none o (p.0 / g) floors.cores (is ∙ ap Some (sym own))
  core_hit o r domains is (Decide q) own = forgotten_none o q.0 floors.cores (is ∙ ap Some (sym own))
  core_hit o r domains is (Leave p) own = forgotten_none o (p.0 / g) floors.cores (is ∙ ap Some (sym own))
  core_hit o r domains is (Save q) own = forgotten_none o q.0 floors.cores (is ∙ ap Some (sym own))
  core_hit o r domains is action own = absurd own

  domain_hit : (o : Option ℕ) (d : ℕ) (cores : List ℕ) → o ≡ Some d → (action : Action) → IsOfDomain d action → Known cores (forgotten o floors.domains) action
  domain_hit o d cores is (DomMoved e) own = forgotten_none o e.0 floors.domains (is ∙ ap Some (sym own))
  domain_hit o d cores is (Wake v) own = forgotten_none o v.dom.0 floors.domains (is ∙ ap Some (sym own))
  domain_hit o d cores is (Repl u) own = forgotten_none o u.dom.0 floors.domains (is ∙ ap Some (sym own))
  domain_hit o d cores is (Refill e) own = forgotten_none o e.0 floors.domains (is ∙ ap Some (sym own))
  domain_hit o d cores is action own = absurd own

-- each event lets come none but those of what it touches
pub event_lets : (g t now : ℕ) (floors : Floors) (pool : Pool) (action : Action) → 0 < g → IsKnownPool g pool → IsOfPool action → enabled_in g now pool action ≡ true → Lets g t (λ other. floor_of g (touched g pool action floors) other ≤ 0) pool (after_in g now pool action)
event_lets g t now floors pool Stall some known own enabled = absurd own
event_lets g t now floors pool Xl some known own enabled = absurd own
event_lets g t now floors pool (Moved r) some known own enabled = absurd own
event_lets g t now floors pool (DomMoved d) some known own enabled = absurd own
event_lets g t now floors pool (Wake v) some known own enabled = wakes g t now some pool known _ v (λ r is. core_hit g floors (unit_core pool (vcpu_unit g v)) r _ is) (domain_hit g floors (Some v.dom.0) v.dom.0 _ refl)
event_lets g t now floors pool (Block p) some known own enabled =
    by_option (Lets g t (λ other. floor_of g (touched g pool (Block p) floors) other ≤ 0) pool) (running_guest g pool p.0) _ _ (λ none. lets_same g t _ pool)
    (λ v is. blocks g t now some pool known _ p.0 v (core_hit g floors (Some (p.0 / g)) (p.0 / g) _ refl) (domain_hit g floors (touched_domain g pool (Block p)) v.dom.0 (forgotten (Some (p.0 / g)) floors.cores) (ap (λ (o : Option VcpuId). elim o as (λ _. Option ℕ) [ None ↦ None | Some w ↦ Some w.dom.0 ]) is) (Wake v) refl))
event_lets g t now floors pool (Slice r) some known own enabled = slices g t now some pool known _ r.0 (core_hit g floors (Some r.0) r.0 _ refl)
event_lets g t now floors pool (Repl u) some known own enabled = renews g t now some pool known _ u (λ r is. core_hit g floors (unit_core pool u) r _ is) (domain_hit g floors (Some u.dom.0) u.dom.0 (touched g pool (Repl u) floors).cores refl (Repl u) refl)
event_lets g t now floors pool (Refill d) some known own enabled = refills g t now some pool known _ d.0 (domain_hit g floors (Some d.0) d.0 _ refl)
event_lets g t now floors pool (Arrive p) some known own enabled = arrives g t now some pool known _ p.0 (core_hit g floors (Some (p.0 / g)) (p.0 / g) _ refl)
event_lets g t now floors pool (Decide r) some known own enabled =
    by_option (Lets g t (λ other. floor_of g (touched g pool (Decide r) floors) other ≤ 0) pool) (at_place pool.resources r.0) _ _ (λ none. lets_same g t _ pool)
    (λ c at.
    let after : Pool = pools.after_decide g now r.0 c pool in
    decided_step g t (λ other. floor_of g (touched g pool (Decide r) floors) other ≤ 0) r.0 (decided_core now (decision_of (core_ask g now pool r.0 c) pool.scheduler) c) after.scheduler pool (core_hit g floors (Some r.0) r.0 floors.domains refl)
    (decide_moves g t now r.0 c pool at known enabled) (decide_renews g t now r.0 c pool at known enabled) (decide_refills g t now r.0 c pool at known enabled))
event_lets g t now floors pool (Leave p) some known own enabled =
    by_option (Lets g t (λ other. floor_of g (touched g pool (Leave p) floors) other ≤ 0) pool) (at_place pool.resources (p.0 / g)) _ _ (λ none. lets_same g t _ pool)
    (λ c at. leaves g t now some pool known _ p.0 c at (core_hit g floors (Some (p.0 / g)) (p.0 / g) _ refl))
event_lets g t now floors pool (Save r) some known own enabled =
    by_option (Lets g t (λ other. floor_of g (touched g pool (Save r) floors) other ≤ 0) pool) (at_place pool.resources r.0) _ _ (λ none. lets_same g t _ pool)
    (λ c at. by_option (Lets g t (λ other. floor_of g (touched g pool (Save r) floors) other ≤ 0) pool) c.saving _ _ (λ none. lets_same g t _ pool)
    (λ u is.
    let of : saving_among pool.resources r.0 ≡ Some u = ap (λ (o : Option Resource). elim o as (λ _. Option UnitId) [ None ↦ None | Some x ↦ x.saving ]) at ∙ is in
    saves g t now some pool known _ r.0 c u at is (core_hit g floors (Some r.0) r.0 _ refl)
    (domain_hit g floors (touched_domain g pool (Save r)) u.dom.0 _ (ap (λ (o : Option UnitId). elim o as (λ _. Option ℕ) [ None ↦ None | Some w ↦ Some w.dom.0 ]) of))))
