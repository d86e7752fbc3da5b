-- The units that have joined, counted: no more of them wait.
use Rattle.std.proofs.Common.{◌≡◌, ◌≤◌, ◌<◌, ◌+◌, ℕ, zero, suc, Bool, true, false, ◌||◌, List, [], ◌∷◌, ◌++◌, refl, arith, subst, sym, cond, length}
use Rattle.std.specs.Prelude.{Option, Some, None, replicate}
use Rattle.std.specs.List.{AllByRecursion}
use Rattle.std.proofs.Math.Decide.{ℕ_discrete}
use Rattle.std.proofs.lemmas.List.{length-append}
use Rattle.sched_base.specs.Numbers.{domain}
use Rattle.sched_base.specs.declared.UnitId.{UnitId}
use Rattle.sched_base.specs.declared.Cores.{Cores}
use Rattle.sched_model.specs.Places.{at_place, put_at, clear_at, change_at, has_listed_unit, same_unit}
use Rattle.sched_base.proofs.Lists.{AllByRecursion-map}
use Rattle.sched_ops.specs.Conditions.{IsApart}
use Rattle.sched_laws.proofs.Choices.{same_unit_same}
use Rattle.sched_laws.proofs.Counts.{times_none, same_unit_refl}
use Rattle.sched_laws.specs.Counts.{one, times}
use Rattle.sched_laws.proofs.Fewer.{no_longer, times-append}
use Rattle.sched_ops.specs.Affinity.{joined_unit_count, count_all, is_member_among}
use Rattle.std.proofs.lemmas.Bool.{ltb-true}

-- the number of units after a domain joined, parted, or had other sets of cores
pub count_all-put_at : (d : ℕ) (sets : List Cores) (affinity : List (Option (List Cores))) → at_place affinity d ≡ None → count_all (put_at d sets affinity) ≤ count_all affinity + length sets
count_all-put_at d sets [] none = omega arith
count_all-put_at zero sets (None ∷ places) none = omega arith
count_all-put_at zero sets (Some x ∷ places) none = absurd (cc)
count_all-put_at (suc d) sets (None ∷ places) none = count_all-put_at d sets places none
count_all-put_at (suc d) sets (Some x ∷ places) none = (let r = count_all-put_at d sets places none in omega (arith, r))

pub count_all-clear_at : (d : ℕ) (affinity : List (Option (List Cores))) → count_all (clear_at d affinity) + joined_unit_count affinity d ≡ count_all affinity
count_all-clear_at d [] = refl
count_all-clear_at zero (None ∷ places) = omega arith
count_all-clear_at zero (Some x ∷ places) = omega arith
count_all-clear_at (suc d) (None ∷ places) = count_all-clear_at d places
count_all-clear_at (suc d) (Some x ∷ places) = (let r = count_all-clear_at d places in omega (arith, r))

pub count_all-change_at : (d : ℕ) (f : List Cores → List Cores) (affinity : List (Option (List Cores))) → ((sets : List Cores) → length (f sets) ≡ length sets) → count_all (change_at d f affinity) ≡ count_all affinity
count_all-change_at d f [] same = refl
count_all-change_at zero f (None ∷ places) same = refl
count_all-change_at zero f (Some x ∷ places) same = (let r = same x in omega (arith, r))
count_all-change_at (suc d) f (None ∷ places) same = count_all-change_at d f places same
count_all-change_at (suc d) f (Some x ∷ places) same = (let r = count_all-change_at d f places same in omega (arith, r))

pub count_at-change_at : (d k : ℕ) (f : List Cores → List Cores) (affinity : List (Option (List Cores))) → ((sets : List Cores) → length (f sets) ≡ length sets) → joined_unit_count (change_at d f affinity) k ≡ joined_unit_count affinity k
count_at-change_at d k f [] same = refl
count_at-change_at zero zero f (None ∷ places) same = refl
count_at-change_at zero zero f (Some x ∷ places) same = same x
count_at-change_at zero (suc k) f (p ∷ places) same = refl
count_at-change_at (suc d) zero f (p ∷ places) same = refl
count_at-change_at (suc d) (suc k) f (p ∷ places) same = count_at-change_at d k f places same

pub count_all-empty : (domains : ℕ) → count_all (replicate domains None) ≡ 0
count_all-empty zero = refl
count_all-empty (suc domains) = count_all-empty domains

pub count_at-empty : (domains d : ℕ) → joined_unit_count (replicate domains None) d ≡ 0
count_at-empty zero d = refl
count_at-empty (suc domains) zero = refl
count_at-empty (suc domains) (suc d) = count_at-empty domains d

-- so many units of the domain
abbrev first_units : ℕ → ℕ → List UnitId
first_units d zero = []
first_units d (suc n) = record { dom = domain d; n = n } ∷ first_units d n

-- all units; the first place is that of the domain d
abbrev all_units : ℕ → List (Option (List Cores)) → List UnitId
all_units d [] = []
all_units d (None ∷ places) = all_units (suc d) places
all_units d (Some sets ∷ places) = first_units d (length sets) ++ all_units (suc d) places

length-first_units : (d n : ℕ) → length (first_units d n) ≡ n
length-first_units d zero = refl
length-first_units d (suc n) = (let r = length-first_units d n in omega (arith, r))

length-all_units : (d : ℕ) (affinity : List (Option (List Cores))) → length (all_units d affinity) ≡ count_all affinity
length-all_units d [] = refl
length-all_units d (None ∷ places) = length-all_units (suc d) places
length-all_units d (Some sets ∷ places) =
    let a = length-append (first_units d (length sets)) (all_units (suc d) places) in
    let f = length-first_units d (length sets) in
    let r = length-all_units (suc d) places in
    omega (arith, a, f, r)

times-first_units : (u : UnitId) (n : ℕ) → u.n < n → 1 ≤ times u (first_units u.dom.0 n)
times-first_units u zero low = absurd (omega (arith, low))
times-first_units u (suc n) low =
    elim (ℕ_discrete u.n n) [
      | yes e ↦ subst (λ k. 1 ≤ one u (record { dom = domain u.dom.0; n = k }) + times u (first_units u.dom.0 n)) e
          (let s = same_unit_refl u in rw s (omega arith))
      | no other ↦ (let r = times-first_units u n (omega (arith, low, other)) in omega (arith, r))
    ]

-- a unit that has joined is one of all
times-all_units : (u : UnitId) (d k : ℕ) (affinity : List (Option (List Cores))) → u.dom.0 ≡ d + k → u.n < joined_unit_count affinity k → 1 ≤ times u (all_units d affinity)
times-all_units u d k [] at low = absurd (omega (arith, low))
times-all_units u d zero (None ∷ places) at low = absurd (omega (arith, low))
times-all_units u d zero (Some sets ∷ places) at low =
    let here = times-first_units u (length sets) low in
    let e : u.dom.0 ≡ d = omega (arith, at) in
    let there = subst (λ k. 1 ≤ times u (first_units k (length sets))) e here in
    let a = times-append u (first_units d (length sets)) (all_units (suc d) places) in
    omega (arith, there, a)
times-all_units u d (suc k) (None ∷ places) at low = times-all_units u (suc d) k places (omega (arith, at)) low
times-all_units u d (suc k) (Some sets ∷ places) at low =
    let r = times-all_units u (suc d) k places (omega (arith, at)) low in
    let a = times-append u (first_units d (length sets)) (all_units (suc d) places) in
    omega (arith, r, a)

member_there : (u : UnitId) (affinity : List (Option (List Cores))) → is_member_among affinity u ≡ true → 1 ≤ times u (all_units 0 affinity)
member_there u affinity member = times-all_units u 0 u.dom.0 affinity (omega arith) (ltb-true u.n (joined_unit_count affinity u.dom.0) member)

-- a unit that stands in no list twice
times-apart : (u : UnitId) (units : List UnitId) → IsApart units → times u units ≤ 1
times-apart u [] apart = omega arith
times-apart u (w ∷ units) apart =
    elim (same_unit u w) as (λ b. same_unit u w ≡ b → cond b 1 0 + times u units ≤ 1) [
      | true ↦ λ is. (let none = times_none u units (subst (λ (x : UnitId). has_listed_unit units x ≡ false) (sym (same_unit_same u w is)) apart.0) in omega (arith, none))
      | false ↦ λ is. (let r = times-apart u units apart.1 in omega (arith, r))
    ] refl

-- what holds of each unit of a list
pub each_here : (P : UnitId → Type 0) (units : List UnitId) → ((u : UnitId) → has_listed_unit units u ≡ true → P u) → AllByRecursion P units
each_here P [] each = tt
each_here P (w ∷ units) each =
    (each w (let s = same_unit_refl w in rw s refl), each_here P units (λ u has. each u (let or_true : (b : Bool) → (b || true) ≡ true = elim [ true ↦ refl | false ↦ refl ] in rw has (or_true (same_unit u w)))))

-- no more units wait than have joined
pub no_more_wait : (affinity : List (Option (List Cores))) (units : List UnitId) → IsApart units → AllByRecursion (λ u. is_member_among affinity u ≡ true) units → length units ≤ count_all affinity
no_more_wait affinity units apart members =
    let few = no_longer units (all_units 0 affinity) (λ u. times-apart u units apart) (AllByRecursion-map (λ u. is_member_among affinity u ≡ true) (λ u. 1 ≤ times u (all_units 0 affinity)) (λ u member. member_there u affinity member) units members) in
    let all = length-all_units 0 affinity in
    omega (arith, few, all)
