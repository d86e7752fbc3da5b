-- Which units a change of a vCPU makes runnable.
use Rattle.std.proofs.Common.{◌≡◌, ◌≢◌, ◌≤◌, ◌<◌, ◌+◌, ◌*◌, ◌/◌, ℕ, zero, suc, Bool, true, false, not, List, [], ◌∷◌, refl, arith, subst, sym, ◌∙◌, ap, take, drop, length, ◌-◌, ◌⊎◌, inl, inr}
use Rattle.std.specs.Prelude.{is_none, ◌&&◌, ◌||◌}
use Rattle.std.specs.List.{list_any}
use Rattle.std.proofs.lemmas.Nat.{div-mul-add}
use Rattle.std.proofs.Math.Decide.{ℕ_discrete, dec_lt, dec_le}
use Rattle.sched_base.specs.Numbers.{domain as domain_number}
use Rattle.sched_base.specs.declared.UnitId.{UnitId}
use Rattle.sched_base.specs.declared.VcpuId.{VcpuId}
use Rattle.sched_model.specs.declared.state.Vcpu.{Vcpu}
use Rattle.sched_model.specs.Places.{change_item}
use Rattle.sched_model.specs.declared.state.Pool.{Pool}
use Rattle.sched_model.specs.State.{is_awake, unit_runnable, may_unit_run}
use Rattle.sched_model.specs.Pool.{change_vcpu, vcpu_unit}
use Rattle.sched_laws.proofs.Lists.{test_at-change_at, test_at-change_at_other, test_at-change_at_more, and_more}

-- a part of a list in which one is changed
part_same : {X : Type 0} (test : X → Bool) (f : X → X) → ((x : X) → test (f x) ≡ test x) → (a b i : ℕ) (xs : List X) → list_any test (take a (drop b (change_item i f xs))) ≡ list_any test (take a (drop b xs))
part_same test f same a b i [] = refl
part_same test f same zero zero i (x ∷ xs) = grind arith
part_same test f same (suc a) zero zero (x ∷ xs) = ap (λ y. y || list_any test (take a xs)) (same x)
part_same test f same (suc a) zero (suc i) (x ∷ xs) = ap (λ y. test x || y) (part_same test f same a zero i xs)
part_same test f same a (suc b) zero (x ∷ xs) = refl
part_same test f same a (suc b) (suc i) (x ∷ xs) = part_same test f same a b i xs

part_other : {X : Type 0} (test : X → Bool) (f : X → X) (a b i : ℕ) (xs : List X) → (i < b) ⊎ (b + a ≤ i) → list_any test (take a (drop b (change_item i f xs))) ≡ list_any test (take a (drop b xs))
part_other test f a b i [] out = refl
part_other test f zero zero i (x ∷ xs) out = grind arith
part_other test f (suc a) zero zero (x ∷ xs) out = absurd (elim out [ inl e ↦ omega (arith, e) | inr e ↦ omega (arith, e) ])
part_other test f (suc a) zero (suc i) (x ∷ xs) out = ap (λ y. test x || y) (part_other test f a zero i xs (elim out [ inl e ↦ absurd (omega (arith, e)) | inr e ↦ inr (omega (arith, e)) ]))
part_other test f a (suc b) zero (x ∷ xs) out = refl
part_other test f a (suc b) (suc i) (x ∷ xs) out = part_other test f a b i xs (elim out [ inl e ↦ inl (omega (arith, e)) | inr e ↦ inr (omega (arith, e)) ])

or_either : (a b c : Bool) → (a || b) ≡ true → (b ≡ true → c ≡ true) → (a || c) ≡ true
or_either true b c is to = refl
or_either false b c is to = to is

part_more : {X : Type 0} (test : X → Bool) (f : X → X) → ((x : X) → test (f x) ≡ true) → (a b i : ℕ) (xs : List X) → list_any test (take a (drop b xs)) ≡ true → list_any test (take a (drop b (change_item i f xs))) ≡ true
part_more test f passes a b i [] some = some
part_more test f passes zero zero i (x ∷ xs) some = absurd (grind arith)
part_more test f passes (suc a) zero zero (x ∷ xs) some = rw (passes x) refl
part_more test f passes (suc a) zero (suc i) (x ∷ xs) some = or_either (test x) _ _ some (λ rest. part_more test f passes a zero i xs rest)
part_more test f passes a (suc b) zero (x ∷ xs) some = some
part_more test f passes a (suc b) (suc i) (x ∷ xs) some = part_more test f passes a b i xs some

-- a part past the end has nothing
pub part_past : {X : Type 0} (test : X → Bool) (a b : ℕ) (xs : List X) → list_any test (take a (drop b xs)) ≡ true → b < length xs
part_past test zero zero [] some = absurd (cc)
part_past test (suc a) zero [] some = absurd (cc)
part_past test zero (suc b) [] some = absurd (cc)
part_past test (suc a) (suc b) [] some = absurd (cc)
part_past test a zero (x ∷ xs) some = omega arith
part_past test a (suc b) (x ∷ xs) some = (let r = part_past test a b xs some in omega (arith, r))

-- the vCPUs of another unit
other_part : (g n i : ℕ) → 0 < g → i / g ≢ n → (i < n * g) ⊎ (n * g + g ≤ i)
other_part g n i some other =
    elim (dec_lt i (n * g)) [
      | yes below ↦ inl below
      | no above ↦ elim (dec_le (n * g + g) i) [
        | yes past ↦ inr past
        | no within ↦ absurd (let low : n * g ≤ i = omega arith in let rest : i ≡ n * g + (i - n * g) = omega arith in other (subst (λ k. k / g ≡ n) (sym rest) (div-mul-add n g (i - n * g) (omega arith))))
      ]
    ]

module _ (g : ℕ) (some : 0 < g) where
  -- what a change of a vCPU does to a unit's test
  pub runnable-same : (v : VcpuId) (f : Vcpu → Vcpu) → ((x : Vcpu) → is_awake (f x) ≡ is_awake x) → (pool : Pool) (u : UnitId) → may_unit_run g (change_vcpu v f pool) u ≡ may_unit_run g pool u
  runnable-same v f same pool u =
      test_at-change_at v.dom.0 u.dom.0 (λ d. record d { vcpus = change_item v.n f d.vcpus }) (λ d. unit_runnable g d u.n) pool.domains
      (λ d. ap (λ b. not d.paused && is_none d.moving && b) (part_same is_awake f same g (u.n * g) v.n d.vcpus))

  pub runnable-other : (v : VcpuId) (f : Vcpu → Vcpu) (pool : Pool) (u : UnitId) → u ≢ vcpu_unit g v → may_unit_run g (change_vcpu v f pool) u ≡ may_unit_run g pool u
  runnable-other v f pool u other =
      elim (ℕ_discrete u.dom.0 v.dom.0) [
        | yes e ↦ test_at-change_at v.dom.0 u.dom.0 (λ d. record d { vcpus = change_item v.n f d.vcpus }) (λ d. unit_runnable g d u.n) pool.domains
            (λ d. ap (λ b. not d.paused && is_none d.moving && b) (part_other is_awake f g (u.n * g) v.n d.vcpus (other_part g u.n v.n some (λ same. other (same_parts e same)))))
        | no e ↦ test_at-change_at_other v.dom.0 u.dom.0 (λ d. record d { vcpus = change_item v.n f d.vcpus }) (λ d. unit_runnable g d u.n) pool.domains e
      ]
    where
      same_parts : u.dom.0 ≡ v.dom.0 → v.n / g ≡ u.n → u ≡ vcpu_unit g v
      same_parts e same =
          let a : ◌≡◌ {A = UnitId} u (record { dom = v.dom; n = u.n }) = ap (λ (k : ℕ). record { dom = domain_number k; n = u.n }) e in
          let b : ◌≡◌ {A = UnitId} (record { dom = v.dom; n = u.n }) (vcpu_unit g v) = ap (λ (k : ℕ). record { dom = v.dom; n = k }) (sym same) in
          a ∙ b

  pub runnable-more : (v : VcpuId) (f : Vcpu → Vcpu) → ((x : Vcpu) → is_awake (f x) ≡ true) → (pool : Pool) (u : UnitId) → may_unit_run g pool u ≡ true → may_unit_run g (change_vcpu v f pool) u ≡ true
  runnable-more v f awake pool u runs =
      test_at-change_at_more v.dom.0 u.dom.0 (λ d. record d { vcpus = change_item v.n f d.vcpus }) (λ d. unit_runnable g d u.n) pool.domains
      (λ d here. and_more (not d.paused && is_none d.moving) _ _ here (λ any. part_more is_awake f awake g (u.n * g) v.n d.vcpus any)) runs
