-- Each core of a set made pending, one after another; and the cores that the scheduler wants.
use Rattle.std.proofs.Common.{◌≡◌, ◌≢◌, ◌+◌, ℕ, zero, suc, Bool, true, false, List, [], ◌∷◌, refl, sym, ap, subst, ◌∙◌, arith, inl, inr}
use Rattle.std.specs.Prelude.{Option, Some, None, option_map, not, ◌&&◌, if◌then◌else◌}
use Rattle.std.proofs.lemmas.Bool.{cases_eq}
use Rattle.due_heap.specs.Words.{ChangesId, IsLowest}
use Rattle.sched_model.specs.declared.state.Resource.{Resource}
use Rattle.sched_model.specs.declared.state.Scheduler.{Scheduler}
use Rattle.sched_model.specs.Places.{at_place, change_at, change_each}
use Rattle.sched_model.specs.Pool.{reconsidered_core, pending_core}
use Rattle.sched_model.specs.State.{has_core_bit}
use Rattle.sched_ops.specs.WantedCores.{is_core_wanted}
use Rattle.pool_core.specs.CoreLooks.{pending_where}
use Rattle.pool_core.proofs.Settled.{unwanted, wanted}

-- changes that are the same at each place
same_each : {X : Type 0} (k : ℕ) (f h : ℕ → X → X) (places : List (Option X)) → ((i : ℕ) (x : X) → at_place places i ≡ Some x → f (k + i) x ≡ h (k + i) x) → change_each k f places ≡ change_each k h places
same_each k f h [] same = refl
same_each {X} k f h (o ∷ places) same =
    ap (λ ys. option_map (f k) o ∷ ys) (same_each (suc k) f h places (λ i x at. let e : k + suc i ≡ suc k + i = omega arith in subst (λ (n : ℕ). f n x ≡ h n x) e (same (suc i) x at)))
    ∙ ap (λ y. y ∷ change_each (suc k) h places) (here o refl)
  where
    here : (p : Option X) → o ≡ p → option_map (f k) p ≡ option_map (h k) p
    here None is = refl
    here (Some x) is = let e : k + 0 ≡ k = omega arith in ap Some (subst (λ (n : ℕ). f n x ≡ h n x) e (same 0 x is))

no_change : {X : Type 0} (k : ℕ) (places : List (Option X)) → change_each k (λ n x. x) places ≡ places
no_change k [] = refl
no_change k (None ∷ places) = ap (λ ys. None ∷ ys) (no_change (suc k) places)
no_change k (Some x ∷ places) = ap (λ ys. Some x ∷ ys) (no_change (suc k) places)

-- one place more
one_place : {X : Type 0} (r k : ℕ) (g : X → X) (f h : ℕ → X → X) (places : List (Option X)) → ((x : X) → g (f (k + r) x) ≡ h (k + r) x) → ((i : ℕ) (x : X) → i ≢ r → f (k + i) x ≡ h (k + i) x)
    → change_at r g (change_each k f places) ≡ change_each k h places
one_place r k g f h [] mine others = refl
one_place {X} zero k g f h (o ∷ places) mine others =
    ap (λ y. y ∷ change_each (suc k) f places) (here o)
    ∙ ap (λ ys. option_map (h k) o ∷ ys) (same_each (suc k) f h places (λ i x at. let e : k + suc i ≡ suc k + i = omega arith in let other : suc i ≢ 0 = λ (same : suc i ≡ 0). omega (arith, same) in subst (λ (n : ℕ). f n x ≡ h n x) e (others (suc i) x other)))
  where
    here : (p : Option X) → option_map g (option_map (f k) p) ≡ option_map (h k) p
    here None = refl
    here (Some x) = let e : k + 0 ≡ k = omega arith in ap Some (subst (λ (n : ℕ). g (f n x) ≡ h n x) e (mine x))
one_place {X} (suc r) k g f h (o ∷ places) mine others =
    let e : k + suc r ≡ suc k + r = omega arith in
    ap (λ y. y ∷ change_at r g (change_each (suc k) f places)) (here o)
    ∙ ap (λ ys. option_map (h k) o ∷ ys) (one_place r (suc k) g f h places (λ x. subst (λ (n : ℕ). g (f n x) ≡ h n x) e (mine x)) (λ i x other.
    let at : k + suc i ≡ suc k + i = omega arith in
    let apart : suc i ≢ suc r = λ (same : suc i ≡ suc r). (let less : i ≡ r = omega (arith, same) in other less) in
    subst (λ (n : ℕ). f n x ≡ h n x) at (others (suc i) x apart)))
  where
    here : (p : Option X) → option_map (f k) p ≡ option_map (h k) p
    here None = refl
    here (Some x) = let zero_at : k + 0 ≡ k = omega arith in let first : 0 ≢ suc r = λ (same : 0 ≡ suc r). omega (arith, same) in ap Some (subst (λ (n : ℕ). f n x ≡ h n x) zero_at (others 0 x first))

-- the core is pending where the set has its number and what is left of the set has not
abbrev pub marked : ℕ → ℕ → ℕ → Resource → Resource
marked set rest r c = (if has_core_bit set r && not (has_core_bit rest r) then pending_core c else c)

-- before the first
pub none_marked : (set : ℕ) (cores : List (Option Resource)) → cores ≡ change_each 0 (marked set set) cores
none_marked set cores = sym (same_each 0 (marked set set) (λ n c. c) cores (λ i c at. by_bit c (has_core_bit set (0 + i))) ∙ no_change 0 cores)
  where
    by_bit : (c : Resource) (b : Bool) → (if b && not b then pending_core c else c) ≡ c
    by_bit c true = refl
    by_bit c false = refl

-- the least of what is left
pub least_marked : (set rest next r : ℕ) (cores : List (Option Resource)) → IsLowest rest r → ChangesId r false rest next → ((i : ℕ) → has_core_bit rest i ≡ true → has_core_bit set i ≡ true)
    → change_at r pending_core (change_each 0 (marked set rest) cores) ≡ change_each 0 (marked set next) cores
least_marked set rest next r cores low change within = one_place r 0 pending_core (marked set rest) (marked set next) cores mine others
  where
    mine : (c : Resource) → pending_core (marked set rest (0 + r) c) ≡ marked set next (0 + r) c
    mine c =
        let e : 0 + r ≡ r = omega arith in
        ap (λ (n : ℕ). pending_core (marked set rest n c)) e
        ∙ ap (λ (b : Bool). pending_core (if b && not (has_core_bit rest r) then pending_core c else c)) (within r low.has)
        ∙ ap (λ (b : Bool). pending_core (if not b then pending_core c else c)) low.has
        ∙ sym (ap (λ (n : ℕ). marked set next n c) e ∙ ap (λ (b : Bool). if b && not (has_core_bit next r) then pending_core c else c) (within r low.has) ∙ ap (λ (b : Bool). if not b then pending_core c else c) change.here)

    others : (i : ℕ) (c : Resource) → i ≢ r → marked set rest (0 + i) c ≡ marked set next (0 + i) c
    others i c other =
        let e : 0 + i ≡ i = omega arith in
        ap (λ (n : ℕ). marked set rest n c) e
        ∙ ap (λ (b : Bool). if has_core_bit set i && not b then pending_core c else c) (sym (change.others i other))
        ∙ sym (ap (λ (n : ℕ). marked set next n c) e)

-- what is left stays within the set
pub still_within : (set rest next r : ℕ) → ChangesId r false rest next → ((i : ℕ) → has_core_bit rest i ≡ true → has_core_bit set i ≡ true) → (i : ℕ) → has_core_bit next i ≡ true → has_core_bit set i ≡ true
still_within set rest next r change within i there = elim (cases_eq i r) [
  | inl same ↦
      let clash : false ≡ true = sym change.here ∙ ap (has_core_bit next) (sym same) ∙ there in
      absurd (cc)
  | inr other ↦ within i (sym (change.others i other) ∙ there)
]

-- after the last
pub all_marked : (set rest : ℕ) (cores : List (Option Resource)) → ((i : ℕ) → has_core_bit rest i ≡ false) → change_each 0 (marked set rest) cores ≡ change_each 0 (pending_where set) cores
all_marked set rest cores none = same_each 0 (marked set rest) (pending_where set) cores (λ i c at. by_bit c (has_core_bit set (0 + i)) (has_core_bit rest (0 + i)) (none (0 + i)))
  where
    by_bit : (c : Resource) (a b : Bool) → b ≡ false → (if a && not b then pending_core c else c) ≡ (if a then pending_core c else c)
    by_bit c true true is = absurd (cc)
    by_bit c true false is = refl
    by_bit c false b is = refl

-- where the set is that of the cores that the scheduler wants, each is looked at
pub wanted_marked : (t home : ℕ) (scheduler : Scheduler) (set : ℕ) (cores : List (Option Resource)) → ((r : ℕ) → has_core_bit set r ≡ is_core_wanted t home scheduler r (at_place cores r))
    → change_each 0 (pending_where set) cores ≡ change_each 0 (reconsidered_core t home scheduler) cores
wanted_marked t home scheduler set cores is = same_each 0 (pending_where set) (reconsidered_core t home scheduler) cores look
  where
    look : (i : ℕ) (c : Resource) → at_place cores i ≡ Some c → pending_where set (0 + i) c ≡ reconsidered_core t home scheduler (0 + i) c
    look i c at =
        let e : i ≡ 0 + i = omega arith in
        let asked : has_core_bit set i ≡ is_core_wanted t home scheduler i (Some c) = is i ∙ ap (is_core_wanted t home scheduler i) at in
        subst (λ (n : ℕ). pending_where set n c ≡ reconsidered_core t home scheduler n c) e (by_answer (is_core_wanted t home scheduler i (Some c)) refl asked)
      where
        by_answer : (b : Bool) → is_core_wanted t home scheduler i (Some c) ≡ b → has_core_bit set i ≡ is_core_wanted t home scheduler i (Some c) → pending_where set i c ≡ reconsidered_core t home scheduler i c
        by_answer true so asked = ap (λ (b : Bool). if b then pending_core c else c) (asked ∙ so) ∙ wanted t home scheduler i c so
        by_answer false not_so asked = ap (λ (b : Bool). if b then pending_core c else c) (asked ∙ not_so) ∙ unwanted t home scheduler i c not_so
