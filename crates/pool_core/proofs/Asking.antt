-- What is known of the units of a pool's cores: they may be asked for, and each is the own unit of one core.
use Rattle.std.proofs.Common.{◌≡◌, ◌≤◌, ◌+◌, ◌/◌, ◌%◌, ℕ, Bool, true, false, List, refl, sym, ap, subst, ◌∙◌, inl, inr, arith, length}
use Rattle.std.specs.Prelude.{Option, Some, None, not, ◌&&◌, ◌||◌, ◌-◌}
use Rattle.std.proofs.Math.Decide.{ℕ_discrete}
use Rattle.sched_base.specs.declared.UnitId.{UnitId}
use Rattle.sched_base.specs.declared.VcpuId.{VcpuId}
use Rattle.sched_model.specs.declared.state.Pool.{Pool}
use Rattle.sched_model.specs.declared.state.Resource.{Resource}
use Rattle.sched_model.specs.declared.state.Domain.{Domain}
use Rattle.sched_model.specs.declared.state.Vcpu.{Vcpu}
use Rattle.sched_model.specs.Places.{at_place, change_item, has_listed_unit, is_unit}
use Rattle.sched_model.specs.Pool.{change_vcpu, running_guest, is_unit_off, saving_among, domain_unit_count, vcpu_unit}
use Rattle.sched_model.specs.State.{may_unit_run}
use Rattle.sched_laws.specs.EachPlace.{EachPlace}
use Rattle.sched_base.proofs.Bools.{or_left}
use Rattle.sched_laws.proofs.Counts.{total_at, total_two, times_has, times_some, same_unit_refl}
use Rattle.sched_laws.specs.Counts.{one_at}
use Rattle.sched_laws.proofs.Lists.{at_numbered, length_change_item, none_passes}
use Rattle.sched_laws.proofs.OnePlace.{off_is, one_same}
use Rattle.sched_laws.specs.PoolFacts.{OnePlace, core_places}
use Rattle.sched_laws.specs.PoolFacts.{IsKnownPool}
use Rattle.sched_laws.proofs.Sound.{guest_of_is}
use Rattle.sched_ops.specs.Conditions.{IsAway, is_on}
use Rattle.policy_laws.proofs.Alike.{Alike, alike_change_at, alike_members, alike_refl, core_face, found_core}
use Rattle.policy_laws.proofs.Members.{runnable_member}
use Rattle.policy_laws.specs.Holds.{Holds}
use Rattle.sched_ops.specs.WantedCores.{MayAsk}
use Rattle.pool_core.specs.Wakes.{is_held_among}
use Rattle.pool_core.proofs.Processors.{same_number}
use Rattle.std.proofs.Math.Bool.{and-false}
use Rattle.std.proofs.lemmas.Bool.{false_from_ne_true}

-- a core's own unit has a place there
own_place : (u : UnitId) (c : Resource) → c.cur ≡ Some u → 1 ≤ core_places u c
own_place u c is = let e : one_at u c.cur ≡ 1 = ap (one_at u) is ∙ one_same u in omega (arith, e)

saved_place : (u : UnitId) (c : Resource) → c.saving ≡ Some u → 1 ≤ core_places u c
saved_place u c is = let e : one_at u c.saving ≡ 1 = ap (one_at u) is ∙ one_same u in omega (arith, e)

-- a unit with a place on a core does not wait
pub waits_not : (g : ℕ) (pool : Pool) (u : UnitId) (r : ℕ) (c : Resource) → OnePlace g pool → at_place pool.resources r ≡ Some c → 1 ≤ core_places u c → has_listed_unit pool.scheduler.queue u ≡ false
waits_not g pool u r c one at has = false_from_ne_true (has_listed_unit pool.scheduler.queue u) (λ is.
    let waits = times_some u pool.scheduler.queue is in
    let on = total_at (core_places u) r c pool.resources at in
    let most = one.most u in
    omega (arith, waits, on, most, has))

-- two cores that have the same own unit are one
pub one_core : (g : ℕ) (pool : Pool) (u : UnitId) (r s : ℕ) (c d : Resource) → OnePlace g pool → at_place pool.resources r ≡ Some c → c.cur ≡ Some u → at_place pool.resources s ≡ Some d → d.cur ≡ Some u → r ≡ s
one_core g pool u r s c d one at is at2 is2 = elim (ℕ_discrete r s) [
  | yes e ↦ e
  | no ne ↦ absurd (
      let two = total_two (core_places u) r s c d pool.resources ne at at2 in
      let a = own_place u c is in
      let b = own_place u d is2 in
      let most = one.most u in
      omega (arith, two, a, b, most))
]

-- the core and the place of a processor that runs the vCPU
pub guest_at : (g : ℕ) (pool : Pool) (p : ℕ) (v : VcpuId) → IsKnownPool g pool → running_guest g pool p ≡ Some v → (c : Resource) × (at_place pool.resources (p / g) ≡ Some c) × (c.cur ≡ Some (vcpu_unit g v)) × (v.n % g ≡ p % g)
guest_at g pool p v known runs =
    let found = guest_of_is g pool p v runs in
    let sound = (known.sound (p / g) found.0 found.2).guests (p % g) found.1 v found.3 found.4 in
    (found.0, found.2, sound.0, sound.1)

-- a vCPU whose unit is the own one of a processor's core, and whose place is that of the processor, is run by no other
pub only_there : (g : ℕ) (pool : Pool) (p : ℕ) (c : Resource) (v : VcpuId) → IsKnownPool g pool → at_place pool.resources (p / g) ≡ Some c → c.cur ≡ Some (vcpu_unit g v) → v.n % g ≡ p % g → (q : ℕ) → running_guest g pool q ≡ Some v → q ≡ p
only_there g pool p c v known at own place q runs =
    let there = guest_at g pool q v known runs in
    same_number g q p (one_core g pool (vcpu_unit g v) (q / g) (p / g) there.0 c known.one there.1 there.2 at own) (sym there.3 ∙ place)

-- a vCPU that a processor runs is run by no other
pub only_guest : (g : ℕ) (pool : Pool) (p : ℕ) (v : VcpuId) → IsKnownPool g pool → running_guest g pool p ≡ Some v → (q : ℕ) → running_guest g pool q ≡ Some v → q ≡ p
only_guest g pool p v known runs = let there = guest_at g pool p v known runs in only_there g pool p there.0 v known there.1 there.2 there.3

-- each core may ask its scheduler
pub may_ask : (g t : ℕ) (pool : Pool) → Holds g t pool → EachPlace (MayAsk t pool.scheduler) pool.resources
may_ask g t pool holds r c at = record {
  own = λ u is. record {
    member = (holds.units r c at).cur u is;
    waits_not = waits_not g pool u r c holds.known.one at (own_place u c is);
    on = holds.on.own r c at u is;
  };
  since = holds.since r c at;
}

-- where a core has the unit as its own, it saves none that is the same, and no other core does
saved_not_own : (g : ℕ) (pool : Pool) (u : UnitId) (r s : ℕ) (c d : Resource) → OnePlace g pool → at_place pool.resources r ≡ Some c → c.saving ≡ Some u → at_place pool.resources s ≡ Some d → d.cur ≡ Some u → ⊥
saved_not_own g pool u r s c d one at is at2 is2 = elim (ℕ_discrete r s) [
  | yes e ↦
      let same : c ≡ d = (let at3 : at_place pool.resources r ≡ Some d = subst (λ (k : ℕ). at_place pool.resources k ≡ Some d) (sym e) at2 in cc) in
      let own : c.cur ≡ Some u = ap (λ (x : Resource). x.cur) same ∙ is2 in
      let a : one_at u c.cur ≡ 1 = ap (one_at u) own ∙ one_same u in
      let b : one_at u c.saving ≡ 1 = ap (one_at u) is ∙ one_same u in
      let on = total_at (core_places u) r c pool.resources at in
      let most = one.most u in
      omega (arith, a, b, on, most)
  | no ne ↦
      let two = total_two (core_places u) r s c d pool.resources ne at at2 in
      let a = saved_place u c is in
      let b = own_place u d is2 in
      let most = one.most u in
      omega (arith, two, a, b, most)
]

-- a unit that no core has as its own is not on
off_if : (g t : ℕ) (pool : Pool) (u : UnitId) → Holds g t pool → ((r : ℕ) (c : Resource) → at_place pool.resources r ≡ Some c → c.cur ≡ Some u → ⊥) → is_on pool.scheduler.records u ≡ false
off_if g t pool u holds nowhere = false_from_ne_true (is_on pool.scheduler.records u) (λ is. let found = found_core pool u (holds.on.off u is) in nowhere found.0 found.1 found.2 found.3)

-- a unit that a core saves neither waits nor is on
pub saved_away : (g t : ℕ) (pool : Pool) (u : UnitId) (r : ℕ) (c : Resource) → Holds g t pool → at_place pool.resources r ≡ Some c → c.saving ≡ Some u → IsAway pool.scheduler u
saved_away g t pool u r c holds at is = record {
  member = (holds.units r c at).saving u is;
  waits_not = waits_not g pool u r c holds.known.one at (saved_place u c is);
  off = off_if g t pool u holds (λ s d at2 is2. saved_not_own g pool u r s c d holds.known.one at is at2 is2);
}

-- a unit that no core has
no_core_has : (pool : Pool) (u : UnitId) → is_held_among pool.resources u ≡ false → (r : ℕ) (c : Resource) → at_place pool.resources r ≡ Some c → c.cur ≡ Some u → ⊥
no_core_has pool u none r c at is =
    let here : (is_unit c.cur u || is_unit c.saving u) ≡ false = at_numbered (λ (x : Resource). (is_unit x.cur u || is_unit x.saving u) ≡ false) 0 pool.resources (none_passes _ _ none) r c at in
    let own : is_unit c.cur u ≡ true = ap (λ (o : Option UnitId). is_unit o u) is ∙ same_unit_refl u in
    let left = or_left (is_unit c.cur u) (is_unit c.saving u) here in
    absurd (cc)

-- a unit that waits is runnable
waiting_runs : (g : ℕ) (pool : Pool) (u : UnitId) → OnePlace g pool → has_listed_unit pool.scheduler.queue u ≡ true → may_unit_run g pool u ≡ true
waiting_runs g pool u one waits = times_has (λ (w : UnitId). may_unit_run g pool w ≡ true) u pool.scheduler.queue one.waits (times_some u pool.scheduler.queue waits)

-- a unit that was not runnable does not wait
idle_waits_not : (g : ℕ) (pool : Pool) (u : UnitId) → OnePlace g pool → may_unit_run g pool u ≡ false → has_listed_unit pool.scheduler.queue u ≡ false
idle_waits_not g pool u one idle = false_from_ne_true (has_listed_unit pool.scheduler.queue u) (λ is. let runs = waiting_runs g pool u one is in cc)

-- a change of a vCPU leaves units and cores alike
changed_alike : (g : ℕ) (v : VcpuId) (f : Vcpu → Vcpu) (pool : Pool) → Alike g pool (change_vcpu v f pool)
changed_alike g v f pool = record {
  sets = alike_refl length pool.scheduler.affinity;
  domains = alike_change_at (domain_unit_count g) v.dom.0 (λ (d : Domain). record d { vcpus = change_item v.n f d.vcpus }) pool.domains (λ d. ap (λ (n : ℕ). (n + g - 1) / g) (length_change_item v.n f d.vcpus));
  on = λ u. refl;
  kind = refl;
  cores = alike_refl core_face pool.resources;
}

-- a unit that was not runnable, and that no core has, neither waits nor is on; after its vCPU woke it is one of the scheduler's
pub woken_away : (g t : ℕ) (pool : Pool) (v : VcpuId) (f : Vcpu → Vcpu) (u : UnitId) → Holds g t pool → may_unit_run g pool u ≡ false → is_held_among pool.resources u ≡ false → may_unit_run g (change_vcpu v f pool) u ≡ true → IsAway pool.scheduler u
woken_away g t pool v f u holds idle none runs = record {
  member = runnable_member g holds.some (change_vcpu v f pool) u (alike_members g pool (change_vcpu v f pool) (changed_alike g v f pool) holds.members) runs;
  waits_not = idle_waits_not g pool u holds.known.one idle;
  off = off_if g t pool u holds (no_core_has pool u none);
}

-- whether a unit is nowhere, by whether it is runnable and whether a core has it
pub off_by : (g : ℕ) (pool : Pool) (u : UnitId) → OnePlace g pool → is_unit_off pool u ≡ not (may_unit_run g pool u || is_held_among pool.resources u)
off_by g pool u one = by_both (may_unit_run g pool u) (is_held_among pool.resources u) refl refl
  where
    by_both : (runs held : Bool) → may_unit_run g pool u ≡ runs → is_held_among pool.resources u ≡ held → is_unit_off pool u ≡ not (runs || held)
    by_both true held is has = by_off (is_unit_off pool u) refl
      where
        by_off : (b : Bool) → is_unit_off pool u ≡ b → is_unit_off pool u ≡ false
        by_off false e = e
        by_off true e = absurd (
            let none = off_is pool u e in
            elim (one.runs u is) [ inl some ↦ omega (arith, none, some) | inr nobody ↦ nobody ])
    by_both false true is has = let e : (not (has_listed_unit pool.scheduler.queue u) && not true) ≡ false = and-false (not (has_listed_unit pool.scheduler.queue u)) in ap (λ (b : Bool). not (has_listed_unit pool.scheduler.queue u) && not b) has ∙ e
    by_both false false is has = ap (λ (b : Bool). not b && not (is_held_among pool.resources u)) (idle_waits_not g pool u one is) ∙ ap (λ (b : Bool). not false && not b) has

-- the core that saves a unit
pub saving_at : (cores : List (Option Resource)) (r : ℕ) (u : UnitId) → saving_among cores r ≡ Some u → (c : Resource) × (at_place cores r ≡ Some c) × (c.saving ≡ Some u)
saving_at cores r u is = by_place (at_place cores r) refl is
  where
    by_place : (o : Option Resource) → at_place cores r ≡ o → elim o as (λ _. Option UnitId) [ None ↦ None | Some c ↦ c.saving ] ≡ Some u → (c : Resource) × (at_place cores r ≡ Some c) × (c.saving ≡ Some u)
    by_place None at e = absurd (cc)
    by_place (Some c) at e = (c, at, e)
