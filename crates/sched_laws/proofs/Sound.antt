-- A processor runs a vCPU of its core's unit, at its place; and the stage of a core fits its processors.
use Rattle.std.proofs.Common.{◌≡◌, ◌<◌, ℕ, zero, suc, Bool, true, false, not, List, [], ◌∷◌, refl, arith, subst, sym, ◌∙◌, ap, inl, inr}
use Rattle.std.specs.Prelude.{Option, Some, None, is_none, slice_get, ◌&&◌, ◌||◌, ◌+◌, ◌*◌, ◌/◌, ◌%◌}
use Rattle.std.specs.List.{list_any, list_all}
use Rattle.sched_base.specs.Numbers.{moment, pool as pool_number, processor}
use Rattle.sched_base.specs.declared.Moment.{Moment}
use Rattle.sched_base.specs.declared.UnitId.{UnitId}
use Rattle.sched_base.specs.declared.VcpuId.{VcpuId}
use Rattle.sched_model.specs.declared.state.Doing.{Doing}
use Rattle.sched_model.specs.declared.state.Doing.TheVariants.{Guest, Idle, Held}
use Rattle.sched_model.specs.declared.state.Stage.TheVariants.{Open, Decided}
use Rattle.std.proofs.lemmas.Nat.{div-mul-add, mod-mul-add}
use Rattle.std.proofs.lemmas.Bool.{not-true}
use Rattle.sched_model.specs.declared.state.Processor.{Processor}
use Rattle.sched_model.specs.declared.state.Resource.{Resource}
use Rattle.sched_model.specs.Places.{at_place, put_at, change_at, change_item, test_at, numbers_from, is_unit}
use Rattle.sched_model.specs.declared.state.Pool.{Pool}
use Rattle.sched_model.specs.State.{is_awake, is_not_stalled, may_unit_run}
use Rattle.sched_model.specs.Opening.{joined_core, machine_core_count}
use Rattle.sched_model.specs.EligibleUnits.{Decision}
use Rattle.sched_model.specs.Policy as policy
use Rattle.sched_model.specs.Policy.{decision_of}
use Rattle.sched_model.specs.Pool as pools
use Rattle.sched_model.specs.Pool.{enabled_in, change_core, change_processor, change_vcpu, change_domain, change_cores_of, with_doing, started_on, decided_core as decided, same_choice, core_ask, changed_pool}
use Rattle.sched_model.specs.declared.action.Action.TheVariants.{Arrive}
use Rattle.sched_laws.specs.EachPlace.{EachPlace}
use Rattle.sched_laws.proofs.EachPlace.{EachPlace-change_at, EachPlace-put_at, EachPlace-clear_at, EachPlace-empty, found_at, by_option, by_test, by_cond}
use Rattle.sched_laws.proofs.Choices.{is_unit_same}
pub use Rattle.sched_laws.proofs.Lists.{read_change_item}
use Rattle.sched_laws.proofs.Kept.{IsKept, IsFresh, passes_at}
use Rattle.sched_base.proofs.Bools.{and_left, and_right, clash}
use Rattle.sched_laws.proofs.Events.{EachAt-like, capped, like_of_domain, IsMarked, Enabled, KeptByCommands, KeptBySteps, kept_settled, kept_by_event, kept_set_leaving, kept_withdrawn, kept_pause, kept_unpause, kept_marked, kept_queue_units, kept_pending}
use Rattle.sched_laws.specs.PoolFacts.{CoreIsSound, AreSound}

-- a change that the test does not see
pub list_any-change_item : {X : Type 0} (i : ℕ) (f : X → X) (test : X → Bool) (xs : List X) → ((x : X) → slice_get xs i ≡ Some x → test (f x) ≡ test x) → list_any test (change_item i f xs) ≡ list_any test xs
list_any-change_item i f test [] same = refl
list_any-change_item zero f test (x ∷ xs) same = ap (λ b. b || list_any test xs) (same x refl)
list_any-change_item (suc i) f test (x ∷ xs) same = ap (λ b. test x || b) (list_any-change_item i f test xs same)

-- what passes is found
pub list_any_get : {X : Type 0} (test : X → Bool) (xs : List X) (i : ℕ) (x : X) → slice_get xs i ≡ Some x → test x ≡ true → list_any test xs ≡ true
list_any_get test [] i x at passes = absurd (cc)
list_any_get test (y ∷ xs) zero x at passes = (let e : test y ≡ true = cc in rw e refl)
list_any_get test (y ∷ xs) (suc i) x at passes = or_of (test y) (list_any test xs) (list_any_get test xs i x at passes)
  where
    or_of : (a b : Bool) → b ≡ true → (a || b) ≡ true
    or_of true b is = refl
    or_of false b is = is

pub list_all_get : {X : Type 0} (test : X → Bool) (xs : List X) (i : ℕ) (x : X) → slice_get xs i ≡ Some x → list_all test xs ≡ true → test x ≡ true
list_all_get test [] i x at all = absurd (cc)
list_all_get test (y ∷ xs) zero x at all = let e : y ≡ x = cc in subst (λ z. test z ≡ true) e (and_left (test y) _ all)
list_all_get test (y ∷ xs) (suc i) x at all = list_all_get test xs i x at (and_right (test y) _ all)

-- one place changed twice
pub change_at-twice : {X : Type 0} (i : ℕ) (f h : X → X) (places : List (Option X)) → change_at i f (change_at i h places) ≡ change_at i (λ x. f (h x)) places
change_at-twice i f h [] = refl
change_at-twice zero f h (None ∷ places) = refl
change_at-twice zero f h (Some x ∷ places) = refl
change_at-twice (suc i) f h (p ∷ places) = ap (λ ps. p ∷ ps) (change_at-twice i f h places)

-- what a processor that is found is
pub processor_of_is : (g : ℕ) (pool : Pool) (p : ℕ) (q : Processor) → pools.pool_processor g pool p ≡ Some q → (c : Resource) × (at_place pool.resources (p / g) ≡ Some c) × (slice_get c.processors (p % g) ≡ Some q)
processor_of_is g pool p q found =
    by_option (λ (o : Option Processor). o ≡ Some q → (c : Resource) × (at_place pool.resources (p / g) ≡ Some c) × (slice_get c.processors (p % g) ≡ Some q)) (at_place pool.resources (p / g)) None (λ c. slice_get c.processors (p % g))
    (λ is e. absurd (cc)) (λ c is e. (c, is, e)) found

pub guest_of_is : (g : ℕ) (pool : Pool) (p : ℕ) (v : VcpuId) → pools.running_guest g pool p ≡ Some v → (c : Resource) × (q : Processor) × (at_place pool.resources (p / g) ≡ Some c) × (slice_get c.processors (p % g) ≡ Some q) × (q.doing ≡ Guest v)
guest_of_is g pool p v found =
    by_option (λ (o : Option VcpuId). o ≡ Some v → (c : Resource) × (q : Processor) × (at_place pool.resources (p / g) ≡ Some c) × (slice_get c.processors (p % g) ≡ Some q) × (q.doing ≡ Guest v)) (pools.pool_processor g pool p) None (λ q. elim q.doing [ Guest w ↦ Some w | Idle ↦ None | Held ↦ None ])
    (λ is e. absurd (cc)) (λ q is e. (let r = processor_of_is g pool p q is in (r.0, q, r.1, r.2, guest_is q.doing e))) found
  where
    guest_is : (doing : Doing) → elim doing as (λ _. Option VcpuId) [ Guest w ↦ Some w | Idle ↦ None | Held ↦ None ] ≡ Some v → doing ≡ Guest v
    guest_is (Guest w) e = cc
    guest_is Idle e = absurd (cc)
    guest_is Held e = absurd (cc)

guest_not_held : (p : Processor) (v : VcpuId) → p.doing ≡ Guest v → pools.is_held_back p ≡ false
guest_not_held p v is = rw (is, pools.is_held_back) refl

idle_not_held : (p : Processor) → pools.is_idling p ≡ true → pools.is_held_back p ≡ false
idle_not_held p idle = idle_doing p.doing idle
  where
    idle_doing : (doing : Doing) → elim doing as (λ _. Bool) [ Guest v ↦ false | Idle ↦ true | Held ↦ false ] ≡ true → elim doing as (λ _. Bool) [ Guest v ↦ false | Idle ↦ false | Held ↦ true ] ≡ false
    idle_doing (Guest v) e = refl
    idle_doing Idle e = refl
    idle_doing Held e = absurd (cc)

-- where all are held and the first is up, one is held
pub some_if_all : (t : ℕ) (ps : List Processor) → elim ps as (λ _. Bool) [ [] ↦ false | p ∷ rest ↦ is_not_stalled t p ] ≡ true → list_all pools.is_held_back ps ≡ true → list_any pools.is_held_back ps ≡ true
some_if_all t [] up all = absurd (cc)
some_if_all t (p ∷ ps) up all = list_any_get pools.is_held_back (p ∷ ps) 0 p refl (and_left (pools.is_held_back p) (list_all pools.is_held_back ps) all)

pub none_is : {X : Type 0} (o : Option X) → is_none o ≡ true → o ≡ None
none_is None none = refl
none_is (Some x) none = absurd (cc)

module _ (g : ℕ) (some : 0 < g) where
  abbrev Sound : Resource → Type 0
  Sound = CoreIsSound g

  -- a change of none of these, but that the core may become pending and its saving empty
  sound_same : (c d : Resource) → d.processors ≡ c.processors → d.stage ≡ c.stage → d.cur ≡ c.cur → (c.saving ≡ None → d.saving ≡ None) → (c.pending ≡ true → d.pending ≡ true) → Sound c → Sound d
  sound_same c d processors stage cur saving pending sound =
      let open_same : pools.is_gathering d ≡ pools.is_gathering c = ap (λ st. elim st as (λ _. Bool) [ Open ↦ true | Decided ↦ false ]) stage in
      record {
        guests = λ i p v at is. (let r = sound.guests i p v (subst (λ ps. slice_get ps i ≡ Some p) processors at) is in (cur ∙ r.0, r.1));
        decided = λ is. subst (λ ps. list_any pools.is_held_back ps ≡ true) (sym processors) (sound.decided (sym open_same ∙ is));
        gathers = λ is held. (let r = sound.gathers (sym open_same ∙ is) (subst (λ ps. list_any pools.is_held_back ps ≡ true) processors held) in (pending r.0, saving r.1));
      }

  sound_change_core : (r : ℕ) (f : Resource → Resource) (pool : Pool) → ((c : Resource) → at_place pool.resources r ≡ Some c → Sound c → Sound (f c)) → AreSound g pool → AreSound g (change_core r f pool)
  sound_change_core r f pool keeps sound = EachPlace-change_at Sound r f pool.resources sound keeps

  -- a processor that is held as before
  sound_processor : (c : Resource) (i : ℕ) (f : Processor → Processor) → ((x : Processor) → slice_get c.processors i ≡ Some x → pools.is_held_back (f x) ≡ pools.is_held_back x)
      → ((x : Processor) (v : VcpuId) → slice_get c.processors i ≡ Some x → (f x).doing ≡ Guest v → (c.cur ≡ Some (pools.vcpu_unit g v)) × (v.n % g ≡ i)) → Sound c → Sound (record c { processors = change_item i f c.processors })
  sound_processor c i f held guest sound = record {
    guests = λ j p v at is. elim (read_change_item i j f c.processors p at) [
      | inl was ↦ sound.guests j p v was.1 is
      | inr r ↦ (let h = guest r.0 v r.1 (ap (λ (x : Processor). x.doing) r.3 ∙ is) in (h.0, h.1 ∙ sym r.2))
    ];
    decided = λ is. list_any-change_item i f pools.is_held_back c.processors held ∙ sound.decided is;
    gathers = λ is any. sound.gathers is (sym (list_any-change_item i f pools.is_held_back c.processors held) ∙ any);
  }

  sound_stalls : (p end : ℕ) (pool : Pool) → AreSound g pool → AreSound g (change_processor g p (λ q. record q { stall_end = moment end }) pool)
  sound_stalls p end pool sound =
      sound_change_core (p / g) _ pool (λ c at here. sound_processor c (p % g) (λ q. record q { stall_end = moment end }) (λ x at2. refl) (λ x v at2 is. here.guests (p % g) x v at2 is) here) sound

  -- the vCPU that belongs on a processor
  vcpu_for_is : (pool : Pool) (c : Resource) (i : ℕ) (v : VcpuId) → i < g → pools.vcpu_to_run g pool c i ≡ Some v → (c.cur ≡ Some (pools.vcpu_unit g v)) × (v.n % g ≡ i)
  vcpu_for_is pool c i v inside found =
      let Q : Option VcpuId → Type 0 = λ o. o ≡ Some v → (c.cur ≡ Some (pools.vcpu_unit g v)) × (v.n % g ≡ i) in
      by_option Q c.cur _ _ (λ is e. absurd (cc))
      (λ u is. by_option Q (pools.pool_vcpu pool (record { dom = u.dom; n = u.n * g + i })) _ _ (λ is2 e. absurd (cc))
      (λ x is2. by_cond Q (may_unit_run g pool u && is_awake x) _ _ (λ is3 e. own_vcpu u is e) (λ is3 e. absurd (cc)))) found
    where
      own_vcpu : (u : UnitId) → c.cur ≡ Some u → Some (record { dom = u.dom; n = u.n * g + i }) ≡ Some v → (c.cur ≡ Some (pools.vcpu_unit g v)) × (v.n % g ≡ i)
      own_vcpu u is e =
          let same : ◌≡◌ {A = VcpuId} (record { dom = u.dom; n = u.n * g + i }) v = cc in
          let at : c.cur ≡ Some (record { dom = u.dom; n = (u.n * g + i) / g }) = rw (div-mul-add u.n g i inside) is in
          subst (λ (w : VcpuId). (c.cur ≡ Some (pools.vcpu_unit g w)) × (w.n % g ≡ i)) same (at, mod-mul-add u.n g i inside)

  -- a vCPU that is awake joins its siblings
  sound_joins : (t : ℕ) (v : VcpuId) (r : ℕ) (q : Processor) (pool : Pool) → pools.unit_core pool (pools.vcpu_unit g v) ≡ Some r → pools.pool_processor g pool (r * g + v.n % g) ≡ Some q → pools.is_idling q ≡ true → AreSound g pool → AreSound g (started_on g t (r * g + v.n % g) v pool)
  sound_joins t v r q pool is is2 idle sound =
      let low : v.n % g < g = omega arith in
      let at_r : (r * g + v.n % g) / g ≡ r = div-mul-add r g (v.n % g) low in
      let at_v : (r * g + v.n % g) % g ≡ v.n % g = mod-mul-add r g (v.n % g) low in
      let f = found_at r (λ (c : Resource). is_unit c.cur (pools.vcpu_unit g v)) pool.resources is in
      let p = processor_of_is g pool (r * g + v.n % g) q is2 in
      sound_change_core ((r * g + v.n % g) / g) _ pool (λ c at here.
      let same : f.0 ≡ c = (let at2 : at_place pool.resources r ≡ Some c = subst (λ k. at_place pool.resources k ≡ Some c) at_r at in cc) in
      let q_is : slice_get c.processors ((r * g + v.n % g) % g) ≡ Some q = (let e : p.0 ≡ c = cc in subst (λ (x : Resource). slice_get x.processors ((r * g + v.n % g) % g) ≡ Some q) e p.2) in
      sound_processor c ((r * g + v.n % g) % g) (with_doing (Guest v))
      (λ x at3. (let e : q ≡ x = cc in sym (subst (λ (y : Processor). pools.is_held_back y ≡ false) e (idle_not_held q idle))))
      (λ x w at3 e. (let e2 : v ≡ w = cc in subst (λ (y : VcpuId). (c.cur ≡ Some (pools.vcpu_unit g y)) × (y.n % g ≡ (r * g + v.n % g) % g)) e2 (subst (λ (y : Resource). y.cur ≡ Some (pools.vcpu_unit g v)) same (is_unit_same f.0.cur _ f.2), sym at_v)))
      here) sound

  sound_blocks : (t p : ℕ) (v : VcpuId) (pool : Pool) → pools.running_guest g pool p ≡ Some v → AreSound g pool → AreSound g (change_processor g p (with_doing Idle) (change_vcpu v (pools.put_to_sleep t) pool))
  sound_blocks t p v pool guest sound =
      let found = guest_of_is g pool p v guest in
      sound_change_core (p / g) _ pool (λ c at core.
      sound_processor c (p % g) (with_doing Idle)
      (λ x at2. (let e : found.0 ≡ c = cc in let q_is : slice_get c.processors (p % g) ≡ Some found.1 = subst (λ (y : Resource). slice_get y.processors (p % g) ≡ Some found.1) e found.3 in
      let e2 : found.1 ≡ x = cc in sym (subst (λ (y : Processor). pools.is_held_back y ≡ false) e2 (guest_not_held found.1 v found.4))))
      (λ x w at2 e. absurd (cc)) core) sound

  sound_after_arrive : (t p : ℕ) (pool : Pool) → enabled_in g t pool (Arrive (processor p)) ≡ true → AreSound g pool → AreSound g (pools.after_arrive g t p pool)
  sound_after_arrive t p pool on sound =
      by_option (λ (next : Pool). AreSound g (change_processor g p (with_doing Held) next)) (pools.running_guest g pool p) _ _ (λ is. arrives) (λ v is. arrives)
    where
      arrives : AreSound g (change_processor g p (with_doing Held) pool)
      arrives = sound_change_core (p / g) _ pool (λ c at here.
          let may : (c.pending && pools.is_gathering c && is_none c.saving) ≡ true = passes_at pool.resources (p / g) (λ (x : Resource). x.pending && pools.is_gathering x && is_none x.saving) c at (and_left (test_at pool.resources (p / g) (λ (x : Resource). x.pending && pools.is_gathering x && is_none x.saving)) (elim (pools.pool_processor g pool p) [ None ↦ false | Some q ↦ not (pools.is_held_back q) && is_not_stalled t q ]) on) in
          let both : (c.pending && pools.is_gathering c) ≡ true = and_left (c.pending && pools.is_gathering c) (is_none c.saving) may in
          record {
            guests = λ i q v at2 is. elim (read_change_item (p % g) i (with_doing Held) c.processors q at2) [
              | inl was ↦ here.guests i q v was.1 is
              | inr r ↦ absurd (let e : Held ≡ Guest v = ap (λ (x : Processor). x.doing) r.3 ∙ is in cc)
            ];
            decided = λ is. absurd (let o = and_right c.pending (pools.is_gathering c) both in cc);
            gathers = λ is any. (and_left c.pending (pools.is_gathering c) both, none_is c.saving (and_right (c.pending && pools.is_gathering c) (is_none c.saving) may));
          }) sound

  -- all processors are held, and there is one
  sound_after_decide : (t r : ℕ) (c : Resource) (pool : Pool) → at_place pool.resources r ≡ Some c → (list_all pools.is_held_back c.processors && pools.is_gathering c && pools.is_first_processor_up t c) ≡ true → AreSound g pool → AreSound g (pools.after_decide g t r c pool)
  sound_after_decide t r c pool at may sound =
      let decision : Decision = decision_of (core_ask g t pool r c) pool.scheduler in
      let all : list_all pools.is_held_back c.processors ≡ true = and_left (list_all pools.is_held_back c.processors) (pools.is_gathering c) (and_left (list_all pools.is_held_back c.processors && pools.is_gathering c) (pools.is_first_processor_up t c) may) in
      let any : list_any pools.is_held_back c.processors ≡ true = some_if_all t c.processors (and_right (list_all pools.is_held_back c.processors && pools.is_gathering c) (pools.is_first_processor_up t c) may) all in
      EachPlace-put_at Sound r (decided t decision c) pool.resources sound
      (by_test Sound (same_choice decision.unit c.cur) _ _ (λ is. now_decided _ refl refl all any) (λ is. now_decided _ refl refl all any))
    where
      now_decided : (d : Resource) → d.processors ≡ c.processors → d.stage ≡ Decided → list_all pools.is_held_back c.processors ≡ true → list_any pools.is_held_back c.processors ≡ true → Sound d
      now_decided d processors stage all any = record {
        guests = λ i p v at2 is. absurd (
            let held = list_all_get pools.is_held_back c.processors i p (subst (λ ps. slice_get ps i ≡ Some p) processors at2) all in
            let not_held = guest_not_held p v is in
            cc);
        decided = λ is. subst (λ ps. list_any pools.is_held_back ps ≡ true) (sym processors) any;
        gathers = λ is held. absurd (let e : pools.is_gathering d ≡ false = ap (λ st. elim st as (λ _. Bool) [ Open ↦ true | Decided ↦ false ]) stage in cc);
      }

  -- a core whose processor leaves
  sound_left : (c : Resource) (i : ℕ) (doing : Doing) → pools.is_gathering c ≡ false → ((v : VcpuId) → doing ≡ Guest v → (c.cur ≡ Some (pools.vcpu_unit g v)) × (v.n % g ≡ i)) → Sound c → Sound (pools.reopened_core (record c { processors = change_item i (with_doing doing) c.processors }))
  sound_left c i doing closed guest sound =
      let left : Resource = record c { processors = change_item i (with_doing doing) c.processors } in
      let guests : (j : ℕ) (p : Processor) (v : VcpuId) → slice_get left.processors j ≡ Some p → p.doing ≡ Guest v → (c.cur ≡ Some (pools.vcpu_unit g v)) × (v.n % g ≡ j) = λ j p v at is. left_guests j p v at is in
      by_cond Sound (list_any pools.is_held_back left.processors) left (record left { stage = Open })
      (λ any. record { guests = guests; decided = λ is. any; gathers = λ is held. absurd (cc) })
      (λ none. record { guests = guests; decided = λ is. absurd (cc); gathers = λ is held. absurd (cc) })
    where
      left_guests : (j : ℕ) (p : Processor) (v : VcpuId) → slice_get (change_item i (with_doing doing) c.processors) j ≡ Some p → p.doing ≡ Guest v → (c.cur ≡ Some (pools.vcpu_unit g v)) × (v.n % g ≡ j)
      left_guests j p v at is = elim (read_change_item i j (with_doing doing) c.processors p at) [
        | inl was ↦ sound.guests j p v was.1 is
        | inr r ↦ (let h = guest v (ap (λ (x : Processor). x.doing) r.3 ∙ is) in (h.0, h.1 ∙ sym r.2))
      ]

  sound_leaves : (p : ℕ) (c : Resource) (doing : Doing) (pool : Pool) → at_place pool.resources (p / g) ≡ Some c → pools.is_gathering c ≡ false → ((v : VcpuId) → doing ≡ Guest v → (c.cur ≡ Some (pools.vcpu_unit g v)) × (v.n % g ≡ p % g)) → AreSound g pool
      → AreSound g (change_core (p / g) pools.reopened_core (change_processor g p (with_doing doing) pool))
  sound_leaves p c doing pool at closed guest sound =
      subst (λ (cores : List (Option Resource)). EachPlace Sound cores) (sym (change_at-twice (p / g) pools.reopened_core (λ (x : Resource). record x { processors = change_item (p % g) (with_doing doing) x.processors }) pool.resources))
      (EachPlace-change_at Sound (p / g) _ pool.resources sound (λ x at2 here. (let e : c ≡ x = cc in sound_left x (p % g) doing (subst (λ (y : Resource). pools.is_gathering y ≡ false) e closed) (subst (λ (y : Resource). (v : VcpuId) → doing ≡ Guest v → (y.cur ≡ Some (pools.vcpu_unit g v)) × (v.n % g ≡ p % g)) e guest) here)))

  sound_after_leave : (t p : ℕ) (c : Resource) (pool : Pool) → at_place pool.resources (p / g) ≡ Some c → pools.is_gathering c ≡ false → AreSound g pool → AreSound g (pools.after_leave g t p c pool)
  sound_after_leave t p c pool at closed sound =
      by_option (λ (next : Pool). AreSound g (change_core (p / g) pools.reopened_core next)) (pools.vcpu_to_run g pool c (p % g)) _ _
      (λ is. sound_leaves p c Idle pool at closed (λ v e. absurd (cc)) sound)
      (λ v is. sound_leaves p c (Guest v) pool at closed (λ w e. (let same : v ≡ w = cc in subst (λ (x : VcpuId). (c.cur ≡ Some (pools.vcpu_unit g x)) × (x.n % g ≡ p % g)) same (vcpu_for_is pool c (p % g) v (omega arith) is))) sound)

  -- marks that change
  sound_marked : (c d : Resource) → IsMarked c d → Sound c → Sound d
  sound_marked c d marked sound = elim marked.stage [
    | inl same ↦ sound_same c d marked.processors same marked.keeps.cur (λ none. marked.keeps.saving ∙ none) marked.keeps.pending sound
    | inr opened ↦ record {
      guests = λ i p v at is. (let r = sound.guests i p v (subst (λ ps. slice_get ps i ≡ Some p) marked.processors at) is in (marked.keeps.cur ∙ r.0, r.1));
      decided = λ is. absurd (let e : pools.is_gathering d ≡ true = ap (λ st. elim st as (λ _. Bool) [ Open ↦ true | Decided ↦ false ]) opened.0 in cc);
      gathers = λ is held. absurd (clash (list_any pools.is_held_back c.processors) (subst (λ ps. list_any pools.is_held_back ps ≡ true) marked.processors held) opened.1);
    }
  ]

  sound_commands : KeptByCommands g (AreSound g)
  sound_commands = record {
    marks = λ cores pool like. EachAt-like IsMarked (λ r. Sound) pool.resources cores like (λ r. sound_marked);
    queues = λ u pool runs sound. sound;
    dequeues = λ d pool sound. sound;
    pausing = λ d paused pool sound. sound;
  }

  sound_steps : (t : ℕ) → KeptBySteps g t (Enabled g t) (AreSound g)
  sound_steps t = record {
    pends = kept_pending sound_commands;
    queues = sound_commands.queues;
    wakes = λ v pool on sound. sound;
    joins = λ v r q pool is is2 idle awake. sound_joins t v r q pool is is2 idle;
    blocks = λ p v pool guest on. sound_blocks t p v pool guest;
    arrives = sound_after_arrive t;
    decides = λ r c pool at on. sound_after_decide t r c pool at (passes_at pool.resources r (λ (x : Resource). list_all pools.is_held_back x.processors && pools.is_gathering x && pools.is_first_processor_up t x) c at on);
    leaves = λ p c pool at on. sound_after_leave t p c pool at (not-true (pools.is_gathering c) (passes_at pool.resources (p / g) (λ (x : Resource). not (pools.is_gathering x)) c at (and_left (test_at pool.resources (p / g) (λ (x : Resource). not (pools.is_gathering x))) _ on)));
    saves = λ r c u pool at is on. sound_change_core r pools.saved_core pool (λ x there core. sound_same x _ refl refl refl (λ e. refl) (λ e. e) core);
    replenishes = λ u pool on sound. sound;
    dues = λ r u x old pool on is. sound_change_core r (pools.due_within t x.budget) pool (λ c there core. sound_same c _ refl refl refl (λ e. e) (λ e. e) core);
    refills = λ d pool on sound. sound;
  }

  sound_caps : (t d : ℕ) (pool : Pool) → AreSound g pool → AreSound g (change_cores_of d (capped t) pool)
  sound_caps t d pool sound =
      EachAt-like (λ c e. Sound c → Sound e) (λ r. Sound) pool.resources _ (like_of_domain (λ c e. Sound c → Sound e) d (capped t) pool.resources (λ c here. here) (λ c. sound_same c _ refl refl refl (λ e. e) (λ e. refl))) (λ r c e to. to) sound

  -- a core that joins: all its processors idle
  fresh_is_sound : (c : Resource) → IsFresh c → Sound c
  fresh_is_sound c fresh = subst Sound (sym fresh.1) (record {
    guests = λ i p v at is. absurd (idles fresh.0 i p v at is);
    decided = λ is. absurd (cc);
    gathers = λ is held. absurd (let e = none_held fresh.0 in cc);
  })
    where
      idles : (ends : List Moment) (i : ℕ) (p : Processor) (v : VcpuId) → slice_get (joined_core ends).processors i ≡ Some p → p.doing ≡ Guest v → ⊥
      idles [] i p v at is = cc
      idles (end ∷ ends) zero p v at is = cc
      idles (end ∷ ends) (suc i) p v at is = idles ends i p v at is

      none_held : (ends : List Moment) → list_any pools.is_held_back (joined_core ends).processors ≡ false
      none_held [] = refl
      none_held (end ∷ ends) = none_held ends

  pub cores_are_sound : IsKept g (AreSound g)
  cores_are_sound = record {
    inside = record {
      settles = kept_settled sound_commands;
      stalls = sound_stalls;
      acts = λ t. kept_by_event (sound_steps t);
      leaves = kept_set_leaving sound_commands;
      moves = λ d i pool sound. kept_withdrawn sound_commands d (change_domain d (λ domain. record domain { moving = Some (pool_number i) }) pool) sound;
      pauses = kept_pause sound_commands;
      unpauses = kept_unpause sound_commands;
      changes = λ change t pool sound. kept_marked sound_commands t (sound_caps t) change (record pool { scheduler = policy.changed_scheduler change t pool.scheduler }) sound;
    };
    core_comes = λ r ends pool none sound. EachPlace-put_at Sound r (joined_core ends) pool.resources sound (fresh_is_sound _ (ends, refl));
    core_goes = λ t r pool on sound. EachPlace-clear_at Sound r pool.resources sound;
    domain_comes = λ t d domain params pool stays none sound.
        kept_queue_units sound_commands d (numbers_from 0 (pools.domain_unit_count g domain)) (record pool { domains = put_at d domain pool.domains; scheduler = policy.joined_scheduler d (pools.domain_unit_count g domain) params t pool.scheduler }) sound;
    domain_goes = λ t d pool on sound. sound;
    empty = λ config params. EachPlace-empty Sound (machine_core_count config);
    opens = λ config params cores whole fresh r c at. fresh_is_sound c (fresh r c at);
  }
