-- In a pool with one core each unit is allowed there.
use Rattle.std.proofs.Common.{◌≡◌, ◌+◌, ◌*◌, ℕ, zero, suc, true, false, List, [], ◌∷◌, refl, arith, ap, ◌∙◌, inl, inr}
use Rattle.std.specs.Prelude.{Option, Some, None, bit_and, ◌^◌, ◌==◌, ◌||◌}
use Rattle.std.proofs.lemmas.Nat.Bits.{and_pow}
use Rattle.std.specs.Int.{bit_at}
use Rattle.std.proofs.lemmas.Bool.{cases_Bool}
use Rattle.sched_base.specs.declared.UnitId.{UnitId}
use Rattle.sched_model.specs.declared.state.Resource.{Resource}
use Rattle.sched_model.specs.declared.state.Scheduler.{Scheduler}
use Rattle.sched_model.specs.Places.{at_place}
use Rattle.sched_model.specs.State.{has_core_bit}
use Rattle.sched_model.specs.EligibleUnits.{is_unit_allowed, unit_cores}
use Rattle.sched_model.specs.Pool.{cores_from}
use Rattle.moment_laws.proofs.Tests.{or_later}
use Rattle.moment_laws.specs.Stretches.{cores}

-- no core
none_from : (k : ℕ) (cores : List (Option Resource)) → ((q : ℕ) (x : Resource) → at_place cores q ≡ Some x → ⊥) → cores_from k cores ≡ 0
none_from k [] none = refl
none_from k (None ∷ cores) none = (let r = none_from (suc k) cores (λ q x at. none (suc q) x at) in omega (arith, r))
none_from k (Some c ∷ cores) none = absurd (none zero c refl)

-- one core
one_from : (k r : ℕ) (c : Resource) (cores : List (Option Resource)) → at_place cores r ≡ Some c → ((q : ℕ) (x : Resource) → at_place cores q ≡ Some x → q ≡ r) → cores_from k cores ≡ 2 ^ (k + r)
one_from k r c [] at only = absurd (cc)
one_from k zero c (None ∷ cores) at only = absurd (cc)
one_from k zero c (Some x ∷ cores) at only =
    let rest = none_from (suc k) cores (λ q y at_q. (let e = only (suc q) y at_q in omega (arith, e))) in
    let e : k ≡ k + 0 = omega arith in
    let p : 2 ^ k ≡ 2 ^ (k + 0) = ap (λ n. 2 ^ n) e in
    omega (arith, rest, p)
one_from k (suc r) c (None ∷ cores) at only =
    let rest = one_from (suc k) r c cores at (λ q y at_q. (let e = only (suc q) y at_q in omega (arith, e))) in
    let e : suc k + r ≡ k + suc r = omega arith in
    let p : 2 ^ (suc k + r) ≡ 2 ^ (k + suc r) = ap (λ n. 2 ^ n) e in
    omega (arith, rest, p)
one_from k (suc r) c (Some x ∷ cores) at only = absurd (let e = only zero x refl in omega (arith, e))

no_bit : (k r : ℕ) → has_core_bit k r ≡ false → bit_at k r ≡ 0
no_bit k r none = grind arith

has_or_none : (k r : ℕ) → (has_core_bit k r || bit_and k (2 ^ r) == 0) ≡ true
has_or_none k r = elim (cases_Bool (has_core_bit k r)) [
  | inl has ↦ rw has refl
  | inr none ↦ (
      let a = and_pow k r in
      let b = no_bit k r none in
      let e : bit_and k (2 ^ r) ≡ 0 = a ∙ ap (λ n. n * 2 ^ r) b ∙ grind arith in
      or_later (has_core_bit k r) (ap (λ n. n == 0) e))
]

pub allowed_alone : (scheduler : Scheduler) (cores : List (Option Resource)) (r : ℕ) (c : Resource) → at_place cores r ≡ Some c → ((q : ℕ) (x : Resource) → at_place cores q ≡ Some x → q ≡ r) → (u : UnitId) → is_unit_allowed scheduler (cores_from 0 cores) r u ≡ true
allowed_alone scheduler cores r c at only u =
    let k : ℕ = unit_cores scheduler.affinity u in
    let zero_r : 0 + r ≡ r = omega arith in
    let home : cores_from 0 cores ≡ 2 ^ r = one_from 0 r c cores at only ∙ ap (λ n. 2 ^ n) zero_r in
    ap (λ h. has_core_bit k r || bit_and k h == 0) home ∙ has_or_none k r
