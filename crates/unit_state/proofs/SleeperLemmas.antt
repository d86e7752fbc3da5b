-- The heap of the vCPUs that sleep, after a change of one vCPU or of one domain.
use Rattle.std.proofs.Common.{◌≡◌, ◌≢◌, ◌≤◌, ◌<◌, ◌+◌, ◌*◌, ◌/◌, ◌%◌, ℕ, List, ◌∙◌, refl, sym, ap, subst, arith, length, inl, inr, zero, suc, true, false, [], ◌∷◌}
use Rattle.std.specs.Prelude.{Option, Some, None, slice_set, replicate}
use Rattle.std.proofs.Math.Decide.{ℕ_discrete}
use Rattle.std.proofs.lemmas.List.{get_or-set_same, get_or-set_other, length-set, length-replicate}
use Rattle.std.proofs.lemmas.Bool.Decides.{nat_tests}
use Rattle.sched_base.specs.declared.Moment.{Moment}
use Rattle.sched_base.specs.declared.VcpuId.{VcpuId}
use Rattle.sched_model.specs.declared.state.Vcpu.{Vcpu}
use Rattle.sched_model.specs.declared.state.Domain.{Domain}
use Rattle.sched_model.specs.Places.{at_place}
use Rattle.sched_base.specs.Numbers.{has_moment_come}
use Rattle.sched_model.specs.Pool.{vcpu_among, change_among}
use Rattle.due_heap.specs.Dues.{armed_moment, IsArmed, HasCome}
use Rattle.unit_state.specs.Seen.{Seen, IsNotAfter, wake_among, is_due_among}
use Rattle.unit_state.specs.Guests.{KeepsGuests, AreSleepers, vcpu_id}
use Rattle.unit_state.proofs.PlaceLemmas.{AreOthers, vcpu_in, wake_in, vcpu_among-change_among_other}
use Rattle.unit_state.proofs.GuestLemmas.{among_there, vcpu_bounds}
use Rattle.sched_laws.proofs.Lists.{has_come-le}

-- two vCPUs of which one is another have other ids
pub ids_apart : (d n e k : ℕ) → n < 32 → k < 32 → e * 32 + k ≡ d * 32 + n → (e ≡ d) × (k ≡ n)
ids_apart d n e k low also same = (omega arith, omega arith)

-- one vCPU armed anew, where no other's wake moment changes
pub sleepers_rearmed : (domains next : List (Option Domain)) (dues : List (Option Moment)) (v : VcpuId) → v.dom.0 < 64 → v.n < 32 → ((w : VcpuId) → AreOthers v w → wake_among next w ≡ wake_among domains w) → AreSleepers domains dues → AreSleepers next (slice_set dues (v.dom.0 * 32 + v.n) (wake_among next v))
sleepers_rearmed domains next dues v place low kept are = record {
  ids = length-set dues (v.dom.0 * 32 + v.n) (wake_among next v) ∙ are.ids;
  each = λ d n here below.
      elim (ℕ_discrete d v.dom.0) [
        | no ne ↦ other d n here below (inl ne)
        | yes e ↦ elim (ℕ_discrete n v.n) [
          | no ne ↦ other d n here below (inr ne)
          | yes m ↦
              subst (λ (k : ℕ). armed_moment (slice_set dues (v.dom.0 * 32 + v.n) (wake_among next v)) (k * 32 + n) ≡ wake_among next (vcpu_id k n)) (sym e)
              (subst (λ (k : ℕ). armed_moment (slice_set dues (v.dom.0 * 32 + v.n) (wake_among next v)) (v.dom.0 * 32 + k) ≡ wake_among next (vcpu_id v.dom.0 k)) (sym m)
              (let ids = are.ids in get_or-set_same dues (v.dom.0 * 32 + v.n) (wake_among next v) None (omega (arith, ids, place, low))))
        ]
      ];
}
  where
    other : (d n : ℕ) → d < 64 → n < 32 → AreOthers v (vcpu_id d n) → armed_moment (slice_set dues (v.dom.0 * 32 + v.n) (wake_among next v)) (d * 32 + n) ≡ wake_among next (vcpu_id d n)
    other d n here below others =
        get_or-set_other dues (v.dom.0 * 32 + v.n) (d * 32 + n) (wake_among next v) None (λ same. let a = ids_apart v.dom.0 v.n d n low below same in elim others [ inl x ↦ x a.0 | inr x ↦ x a.1 ])
        ∙ are.each d n here below
        ∙ sym (kept (vcpu_id d n) others)

-- the same heap, where no wake moment changes
pub sleepers_same : (domains next : List (Option Domain)) (dues : List (Option Moment)) → ((w : VcpuId) → wake_among next w ≡ wake_among domains w) → AreSleepers domains dues → AreSleepers next dues
sleepers_same domains next dues same are = record { ids = are.ids; each = λ d n here below. are.each d n here below ∙ sym (same (vcpu_id d n)) }

-- one domain armed anew, where no other's wake moments change
pub sleepers_replaced : (domains next : List (Option Domain)) (dues after : List (Option Moment)) (d : ℕ) → length after ≡ 2048 → ((n : ℕ) → n < 32 → armed_moment after (d * 32 + n) ≡ wake_among next (vcpu_id d n)) → ((e n : ℕ) → e ≢ d → n < 32 → armed_moment after (e * 32 + n) ≡ armed_moment dues (e * 32 + n)) → ((w : VcpuId) → w.dom.0 ≢ d → wake_among next w ≡ wake_among domains w) → AreSleepers domains dues → AreSleepers next after
sleepers_replaced domains next dues after d ids own others kept are = record {
  ids = ids;
  each = λ e n here below.
      elim (ℕ_discrete e d) [
        | no ne ↦ others e n ne below ∙ are.each e n here below ∙ sym (kept (vcpu_id e n) ne)
        | yes is ↦ subst (λ (k : ℕ). armed_moment after (k * 32 + n) ≡ wake_among next (vcpu_id k n)) (sym is) (own n below)
      ];
}

-- with no domain and no id armed
pub sleepers_none : (places : ℕ) → AreSleepers (replicate places None) (replicate 2048 None)
sleepers_none places = record {
  ids = length-replicate {A = Option Moment} 2048 None;
  each = λ d n here below. none_due 2048 (d * 32 + n) ∙ sym (none_here places d n);
}
  where
    none_due : (count id : ℕ) → armed_moment (replicate count None) id ≡ None
    none_due zero id = refl
    none_due (suc count) zero = refl
    none_due (suc count) (suc id) = none_due count id

    none_at : (count d : ℕ) → at_place (replicate {A = Option Domain} count None) d ≡ None
    none_at zero d = refl
    none_at (suc count) zero = refl
    none_at (suc count) (suc d) = none_at count d

    none_here : (places d n : ℕ) → wake_among (replicate places None) (vcpu_id d n) ≡ None
    none_here places d n = ap (λ (o : Option Domain). wake_in (vcpu_in n o)) (none_at places d)

-- one vCPU changed and armed anew
pub sleepers_changed : (seen : Seen) (dues : List (Option Moment)) (v : VcpuId) (f : Vcpu → Vcpu) (x : Vcpu) → vcpu_among seen.domains v ≡ Some x → KeepsGuests seen → AreSleepers seen.domains dues → AreSleepers (change_among v f seen.domains) (slice_set dues (v.dom.0 * 32 + v.n) (wake_among (change_among v f seen.domains) v))
sleepers_changed seen dues v f x there keeps are =
    let bounds = vcpu_bounds seen v x keeps there in
    sleepers_rearmed seen.domains (change_among v f seen.domains) dues v bounds.0 bounds.1 (λ w others. ap wake_in (vcpu_among-change_among_other v w f seen.domains others)) are

-- the id of a vCPU that is there is one of the heap
pub id_below : (seen : Seen) (dues : List (Option Moment)) (v : VcpuId) (x : Vcpu) → vcpu_among seen.domains v ≡ Some x → KeepsGuests seen → AreSleepers seen.domains dues → v.dom.0 * 32 + v.n < length dues
id_below seen dues v x there keeps are = (let bounds = vcpu_bounds seen v x keeps there in let b = bounds.0 in let c = bounds.1 in let ids = are.ids in omega (arith, b, c, ids))

-- an id that is armed is that of a vCPU that sleeps
pub armed_sleeps : (domains : List (Option Domain)) (dues : List (Option Moment)) (id : ℕ) (at : Moment) → AreSleepers domains dues → IsArmed dues id at → (id < 2048) × (wake_among domains (vcpu_id (id / 32) (id % 32)) ≡ Some at)
armed_sleeps domains dues id at are armed =
    let ids = are.ids in
    let below : id < 2048 = (let b = due_inside dues id at armed in omega (arith, b, ids)) in
    let split : id / 32 * 32 + id % 32 ≡ id = omega arith in
    (below, sym (are.each (id / 32) (id % 32) (omega (arith, below)) (omega arith)) ∙ ap (armed_moment dues) split ∙ armed)
  where
    due_inside : (xs : List (Option Moment)) (i : ℕ) (a : Moment) → armed_moment xs i ≡ Some a → i < length xs
    due_inside [] i a is = absurd (cc)
    due_inside (x ∷ xs) zero a is = omega arith
    due_inside (x ∷ xs) (suc i) a is = (let r = due_inside xs i a is in omega (arith, r))

-- a vCPU that sleeps is armed
pub sleeps_armed : (seen : Seen) (dues : List (Option Moment)) (v : VcpuId) (at : Moment) → KeepsGuests seen → AreSleepers seen.domains dues → wake_among seen.domains v ≡ Some at → (v.n < 32) × IsArmed dues (v.dom.0 * 32 + v.n) at
sleeps_armed seen dues v at keeps are sleeps =
    let there = among_there (λ (x : Vcpu). x.asleep_until) (vcpu_among seen.domains v) at sleeps in
    let bounds = vcpu_bounds seen v there.0 keeps there.1 in
    (bounds.1, are.each v.dom.0 v.n bounds.0 bounds.1 ∙ sleeps)

-- a vCPU whose wake moment has come has an id that is due, and the least such id is of the first
pub due_come : (seen : Seen) (dues : List (Option Moment)) (t : ℕ) (v : VcpuId) → KeepsGuests seen → AreSleepers seen.domains dues → is_due_among t seen.domains v ≡ true → (v.n < 32) × HasCome dues t (v.dom.0 * 32 + v.n)
due_come seen dues t v keeps are due =
    let come = has_come-le t (wake_among seen.domains v) due in
    let armed = sleeps_armed seen dues v come.0 keeps are come.1 in
    (armed.0, record { at = come.0; armed = armed.1; come = come.2 })

pub first_of_ids : (id : ℕ) (w : VcpuId) → w.n < 32 → id ≤ w.dom.0 * 32 + w.n → IsNotAfter (vcpu_id (id / 32) (id % 32)) w
first_of_ids id w below le = record { by_domain = omega (arith, below, le); then_by_index = λ (same : id / 32 ≡ w.dom.0). omega (arith, below, le, same) }

-- where no id is due, no wake moment has come
pub none_due : (seen : Seen) (dues : List (Option Moment)) (t : ℕ) → KeepsGuests seen → AreSleepers seen.domains dues → ((id : ℕ) (at : Moment) → IsArmed dues id at → t < at.0) → (v : VcpuId) → is_due_among t seen.domains v ≡ false
none_due seen dues t keeps are later v = by_wake (wake_among seen.domains v) refl
  where
    by_wake : (o : Option Moment) → wake_among seen.domains v ≡ o → has_moment_come t o ≡ false
    by_wake None is = refl
    by_wake (Some at) is = (let l = later (v.dom.0 * 32 + v.n) at (sleeps_armed seen dues v at keeps are is).1 in grind (arith, nat_tests, l))

-- where no id is armed, none sleeps
pub none_sleeps : (seen : Seen) (dues : List (Option Moment)) → KeepsGuests seen → AreSleepers seen.domains dues → ((id : ℕ) (at : Moment) → IsArmed dues id at → ⊥) → (v : VcpuId) → wake_among seen.domains v ≡ None
none_sleeps seen dues keeps are none v = by_wake (wake_among seen.domains v) refl
  where
    by_wake : (o : Option Moment) → wake_among seen.domains v ≡ o → wake_among seen.domains v ≡ None
    by_wake None is = is
    by_wake (Some at) is = absurd (none (v.dom.0 * 32 + v.n) at (sleeps_armed seen dues v at keeps are is).1)
