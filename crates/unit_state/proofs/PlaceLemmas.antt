-- One vCPU or one domain among those of a pool, and the others.
use Rattle.std.proofs.Common.{◌≡◌, ◌≢◌, ◌<◌, ◌+◌, ◌⊎◌, ℕ, zero, suc, List, [], ◌∷◌, ◌∙◌, refl, sym, ap, subst, arith, length, inl, inr}
use Rattle.std.specs.Prelude.{Option, Some, None, option_map, slice_get}
use Rattle.std.proofs.Math.Decide.{ℕ_discrete}
use Rattle.sched_base.specs.declared.Moment.{Moment}
use Rattle.sched_base.specs.declared.VcpuId.{VcpuId}
use Rattle.sched_model.specs.declared.state.Vcpu.{Vcpu}
use Rattle.sched_model.specs.declared.state.Domain.{Domain}
use Rattle.sched_model.specs.Places.{at_place, put_at, clear_at, change_at, change_item}
use Rattle.sched_model.specs.Pool.{stopped_vcpu, domain_unit_count, vcpu_among, change_among}
use Rattle.sched_model.proofs.PlaceLemmas.{at_place-change_at_other}
use Rattle.sched_laws.proofs.EachPlace.{at_place-put_at_other, at_place-clear_at_other, by_option, at_place-change_at}
use Rattle.unit_state.specs.Seen.{wake_among}
use Rattle.unit_state.specs.Guests.{units_in}
use Rattle.sched_laws.proofs.Lists.{slice_get-change_item_other, slice_get-change_item}

-- two vCPUs are not the same
abbrev pub AreOthers : VcpuId → VcpuId → Type 0
AreOthers v w = (w.dom.0 ≢ v.dom.0) ⊎ (w.n ≢ v.n)

-- what is read after a change of one item: what was there, or what was changed
pub read_change_item : {X : Type 0} (i j : ℕ) (f : X → X) (xs : List X) (y : X) → slice_get (change_item i f xs) j ≡ Some y → (slice_get xs j ≡ Some y) ⊎ ((x : X) × (slice_get xs i ≡ Some x) × (f x ≡ y))
read_change_item i j f [] y at = absurd (cc)
read_change_item zero zero f (x ∷ xs) y at = inr (x, refl, cc)
read_change_item zero (suc j) f (x ∷ xs) y at = inl at
read_change_item (suc i) zero f (x ∷ xs) y at = inl at
read_change_item (suc i) (suc j) f (x ∷ xs) y at = read_change_item i j f xs y at

-- the vCPU of a domain that may be there
abbrev pub vcpu_in : ℕ → Option Domain → Option Vcpu
vcpu_in n o = elim o as (λ _. Option Vcpu) [ None ↦ None | Some d ↦ slice_get d.vcpus n ]

-- the wake moment of a vCPU that may be there
abbrev pub wake_in : Option Vcpu → Option Moment
wake_in o = elim o as (λ _. Option Moment) [ None ↦ None | Some x ↦ x.asleep_until ]

-- the changed vCPU
pub vcpu_among-change_among : (v : VcpuId) (f : Vcpu → Vcpu) (domains : List (Option Domain)) → vcpu_among (change_among v f domains) v ≡ option_map f (vcpu_among domains v)
vcpu_among-change_among v f domains =
    ap (vcpu_in v.n) (at_place-change_at v.dom.0 (λ (d : Domain). record d { vcpus = change_item v.n f d.vcpus }) domains) ∙ here (at_place domains v.dom.0)
  where
    here : (o : Option Domain) → vcpu_in v.n (option_map (λ (d : Domain). record d { vcpus = change_item v.n f d.vcpus }) o) ≡ option_map f (vcpu_in v.n o)
    here None = refl
    here (Some d) = slice_get-change_item v.n f d.vcpus

-- another vCPU stays as it was
pub vcpu_among-change_among_other : (v w : VcpuId) (f : Vcpu → Vcpu) (domains : List (Option Domain)) → AreOthers v w → vcpu_among (change_among v f domains) w ≡ vcpu_among domains w
vcpu_among-change_among_other v w f domains others =
    elim (ℕ_discrete w.dom.0 v.dom.0) [
      | yes e ↦ elim others [
        | inl apart ↦ absurd (apart e)
        | inr n ↦
            subst (λ (d : ℕ). vcpu_in w.n (at_place (change_among v f domains) d) ≡ vcpu_in w.n (at_place domains d)) (sym e)
            (ap (vcpu_in w.n) (at_place-change_at v.dom.0 (λ (d : Domain). record d { vcpus = change_item v.n f d.vcpus }) domains) ∙ here n (at_place domains v.dom.0))
      ]
      | no ne ↦ ap (vcpu_in w.n) (at_place-change_at_other v.dom.0 w.dom.0 (λ (d : Domain). record d { vcpus = change_item v.n f d.vcpus }) domains ne)
    ]
  where
    here : w.n ≢ v.n → (o : Option Domain) → vcpu_in w.n (option_map (λ (d : Domain). record d { vcpus = change_item v.n f d.vcpus }) o) ≡ vcpu_in w.n o
    here n None = refl
    here n (Some d) = slice_get-change_item_other v.n w.n f d.vcpus (λ e. n (sym e))

-- the units of all domains after a domain came in or went out, or was changed and kept its units
pub units_in-put_at : (g i : ℕ) (d : Domain) (domains : List (Option Domain)) → i < length domains → at_place domains i ≡ None → units_in g (put_at i d domains) ≡ units_in g domains + domain_unit_count g d
units_in-put_at g i d [] inside none = absurd (omega (arith, inside))
units_in-put_at g zero d (None ∷ domains) inside none = omega arith
units_in-put_at g zero d (Some x ∷ domains) inside none = absurd (cc)
units_in-put_at g (suc i) d (p ∷ domains) inside none = (let r = units_in-put_at g i d domains (omega (arith, inside)) none in omega (arith, r))

pub units_in-clear_at : (g i : ℕ) (d : Domain) (domains : List (Option Domain)) → at_place domains i ≡ Some d → units_in g (clear_at i domains) + domain_unit_count g d ≡ units_in g domains
units_in-clear_at g i d [] at = absurd (cc)
units_in-clear_at g zero d (None ∷ domains) at = absurd (cc)
units_in-clear_at g zero d (Some x ∷ domains) at = (let same : x ≡ d = cc in let e = ap (domain_unit_count g) same in omega (arith, e))
units_in-clear_at g (suc i) d (p ∷ domains) at = (let r = units_in-clear_at g i d domains at in omega (arith, r))

pub units_in-change_at : (g i : ℕ) (f : Domain → Domain) (domains : List (Option Domain)) → ((d : Domain) → domain_unit_count g (f d) ≡ domain_unit_count g d) → units_in g (change_at i f domains) ≡ units_in g domains
units_in-change_at g i f [] same = refl
units_in-change_at g zero f (None ∷ domains) same = refl
units_in-change_at g zero f (Some d ∷ domains) same = (let e = same d in omega (arith, e))
units_in-change_at g (suc i) f (p ∷ domains) same = (let r = units_in-change_at g i f domains same in omega (arith, r))

-- the wake moments of all vCPUs, where a change keeps each one's
pub wake_among-same : (v w : VcpuId) (f : Vcpu → Vcpu) (domains : List (Option Domain)) → ((x : Vcpu) → (f x).asleep_until ≡ x.asleep_until) → wake_among (change_among v f domains) w ≡ wake_among domains w
wake_among-same v w f domains same =
    elim (ℕ_discrete w.dom.0 v.dom.0) [
      | no ne ↦ ap wake_in (vcpu_among-change_among_other v w f domains (inl ne))
      | yes d ↦ elim (ℕ_discrete w.n v.n) [
        | no ne ↦ ap wake_in (vcpu_among-change_among_other v w f domains (inr ne))
        | yes n ↦
            subst (λ (k : ℕ). wake_in (vcpu_in k (at_place (change_among v f domains) w.dom.0)) ≡ wake_in (vcpu_in k (at_place domains w.dom.0))) (sym n)
            (subst (λ (k : ℕ). wake_in (vcpu_in v.n (at_place (change_among v f domains) k)) ≡ wake_in (vcpu_in v.n (at_place domains k))) (sym d)
            (ap wake_in (vcpu_among-change_among v f domains) ∙ here (vcpu_among domains v)))
      ]
    ]
  where
    here : (o : Option Vcpu) → wake_in (option_map f o) ≡ wake_in o
    here None = refl
    here (Some x) = same x

-- a change of a domain that keeps its vCPUs keeps their wake moments, and so does one of another domain
pub wake_among-change_at : (i : ℕ) (f : Domain → Domain) (w : VcpuId) (domains : List (Option Domain)) → ((d : Domain) → (f d).vcpus ≡ d.vcpus) → wake_among (change_at i f domains) w ≡ wake_among domains w
wake_among-change_at i f w domains same =
    elim (ℕ_discrete w.dom.0 i) [
      | no ne ↦ ap (λ (o : Option Domain). wake_in (vcpu_in w.n o)) (at_place-change_at_other i w.dom.0 f domains ne)
      | yes e ↦
          subst (λ (k : ℕ). wake_in (vcpu_in w.n (at_place (change_at i f domains) k)) ≡ wake_in (vcpu_in w.n (at_place domains k))) (sym e)
          (ap (λ (o : Option Domain). wake_in (vcpu_in w.n o)) (at_place-change_at i f domains) ∙ here (at_place domains i))
    ]
  where
    here : (o : Option Domain) → wake_in (vcpu_in w.n (option_map f o)) ≡ wake_in (vcpu_in w.n o)
    here None = refl
    here (Some d) = ap (λ (xs : List Vcpu). wake_in (slice_get xs w.n)) (same d)

pub wake_among-put_at_other : (i : ℕ) (d : Domain) (w : VcpuId) (domains : List (Option Domain)) → w.dom.0 ≢ i → wake_among (put_at i d domains) w ≡ wake_among domains w
wake_among-put_at_other i d w domains ne = ap (λ (o : Option Domain). wake_in (vcpu_in w.n o)) (at_place-put_at_other i w.dom.0 d domains ne)

pub wake_among-clear_at_other : (i : ℕ) (w : VcpuId) (domains : List (Option Domain)) → w.dom.0 ≢ i → wake_among (clear_at i domains) w ≡ wake_among domains w
wake_among-clear_at_other i w domains ne = ap (λ (o : Option Domain). wake_in (vcpu_in w.n o)) (at_place-clear_at_other i w.dom.0 domains ne)

-- a vCPU that is stopped sleeps as it did
pub stopped_wakes : (t : ℕ) (x : Vcpu) → (stopped_vcpu t x).asleep_until ≡ x.asleep_until
stopped_wakes t x = by_option (λ (y : Vcpu). y.asleep_until ≡ x.asleep_until) x.started _ _ (λ is. refl) (λ from is. refl)
