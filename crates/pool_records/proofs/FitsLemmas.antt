-- What stands at one place, where each has the property.
use Rattle.std.proofs.Common.{◌≡◌, ◌≤◌, ◌+◌, ◌*◌, ◌<◌, ℕ, zero, suc, List, [], ◌∷◌, length, refl, sym, subst, arith}
use Rattle.std.specs.Prelude.{Option, Some, None, slice_get, slice_index_or}
use Rattle.std.proofs.lemmas.Option.{slice_get_past}
use Rattle.sched_base.specs.declared.VcpuId.{VcpuId}
use Rattle.sched_base.specs.declared.UnitId.{UnitId}
use Rattle.sched_base.proofs.Lists.{each_get}
use Rattle.sched_model.specs.declared.state.Vcpu.{Vcpu}
use Rattle.sched_model.specs.declared.state.Pool.{Pool}
use Rattle.sched_model.specs.declared.state.Resource.{Resource}
use Rattle.sched_model.specs.Pool.{vcpu_to_run, vcpu_among}
use Rattle.sched_model.specs.declared.state.Domain.{Domain}
use Rattle.sched_model.specs.Places.{at_place, first_place, is_unit}
use Rattle.sched_laws.specs.EachPlace.{AllPlaces}
use Rattle.sched_laws.proofs.EachPlace.{found_at, place_below}
use Rattle.pool_records.specs.Fits.{DomainFits, VcpuFits}

-- what stands at a place has the property
pub at_place-fits : {X : Type 0} (P : X → Type 0) (places : List (Option X)) (i : ℕ) (x : X) → AllPlaces P places → at_place places i ≡ Some x → P x
at_place-fits P [] i x all there = absurd cc
at_place-fits P (None ∷ places) zero x all there = absurd cc
at_place-fits P (None ∷ places) (suc i) x all there = at_place-fits P places i x all there
at_place-fits {X} P (Some y ∷ places) zero x all there = let same : y ≡ x = cc in subst P same all.0
at_place-fits P (Some y ∷ places) (suc i) x all there = at_place-fits P places i x all.1 there

-- a vCPU of the domains fits
pub vcpu_among-fits : (domains : List (Option Domain)) (v : VcpuId) (x : Vcpu) → AllPlaces DomainFits domains → vcpu_among domains v ≡ Some x → VcpuFits x
vcpu_among-fits domains v x all there =
    elim (at_place domains v.dom.0) as (λ o. at_place domains v.dom.0 ≡ o → (elim o as (λ _. Option Vcpu) [ None ↦ None | Some d ↦ slice_get d.vcpus v.n ]) ≡ Some x → VcpuFits x) [
      | None ↦ λ is got. absurd cc
      | Some d ↦ λ is got. each_get VcpuFits d.vcpus v.n x (at_place-fits DomainFits domains v.dom.0 d all is).vcpus got
    ] refl there

-- past the 32nd there is no vCPU
pub vcpu_among-past : (domains : List (Option Domain)) (v : VcpuId) → AllPlaces DomainFits domains → 32 ≤ v.n → vcpu_among domains v ≡ None
vcpu_among-past domains v all past =
    elim (at_place domains v.dom.0) as (λ o. at_place domains v.dom.0 ≡ o → (elim o as (λ _. Option Vcpu) [ None ↦ None | Some d ↦ slice_get d.vcpus v.n ]) ≡ None) [
      | None ↦ λ is. refl
      | Some d ↦ λ is. let few : length d.vcpus ≤ 32 = (at_place-fits DomainFits domains v.dom.0 d all is).few in slice_get_past d.vcpus v.n (omega arith)
    ] refl

-- past the 32nd no processor has a vCPU
pub vcpu_for-past : (g : ℕ) (pool : Pool) (c : Resource) (i : ℕ) (u : UnitId) → c.cur ≡ Some u → AllPlaces DomainFits pool.domains → 32 ≤ u.n * g + i → None ≡ vcpu_to_run g pool c i
vcpu_for-past g pool c i u is all past =
    let v : VcpuId = record { dom = u.dom; n = u.n * g + i } in
    let none : vcpu_among pool.domains v ≡ None = vcpu_among-past pool.domains v all past in
    rw is (rw (none, vcpu_to_run) refl)

-- what was read at a place inside stands there
pub at_place-item : {X : Type 0} (places : List (Option X)) (i : ℕ) (o : Option X) → i < length places → o ≡ slice_index_or places i o → at_place places i ≡ o
at_place-item [] i o inside is = absurd (omega arith)
at_place-item (y ∷ places) zero o inside is = sym is
at_place-item (y ∷ places) (suc i) o inside is = at_place-item places i o (omega arith) is

-- past the end nothing stands
pub at_place-past : {X : Type 0} (places : List (Option X)) (i : ℕ) → length places ≤ i → at_place places i ≡ None
at_place-past [] i past = refl
at_place-past (y ∷ places) zero past = absurd (omega arith)
at_place-past (y ∷ places) (suc i) past = at_place-past places i (omega arith)

-- what was read at a place inside has the property
pub place-fits : {X : Type 0} (P : X → Type 0) (places : List (Option X)) (i : ℕ) (x : X) → AllPlaces P places → i < length places → Some x ≡ slice_index_or places i (Some x) → P x
place-fits P places i x all inside is = at_place-fits P places i x all (at_place-item places i (Some x) inside is)

-- a core that is found is inside
pub core_of-inside : (cores : List (Option Resource)) (u : UnitId) (r : ℕ) → first_place 0 (λ (c : Resource). is_unit c.cur u) cores ≡ Some r → r < length cores
core_of-inside cores u r found = let there = found_at r (λ (c : Resource). is_unit c.cur u) cores found in place_below cores r there.0 there.1
