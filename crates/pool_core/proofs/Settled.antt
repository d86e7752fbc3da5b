-- Cores changed one after another, and what a look makes of one.
use Rattle.std.proofs.Common.{◌≡◌, ◌≤◌, ◌+◌, ℕ, zero, suc, Bool, true, false, List, [], ◌∷◌, refl, sym, ap, subst, ◌∙◌, cond, arith, length}
use Rattle.std.specs.Prelude.{Option, option_map, ◌||◌, ◌&&◌, not}
use Rattle.sched_model.specs.declared.state.Resource.{Resource}
use Rattle.sched_model.specs.declared.state.Scheduler.{Scheduler}
use Rattle.sched_model.specs.Places.{change_at, change_each}
use Rattle.sched_model.specs.Policy.{has_better_waiting}
use Rattle.sched_model.specs.Pool.{reconsidered_core, pending_core}
use Rattle.pool_core.specs.CoreLooks.{change_first}

-- one place more
first-more : {X : Type 0} (n k : ℕ) (f : ℕ → X → X) (places : List (Option X)) → change_at n (f (k + n)) (change_first n k f places) ≡ change_first (suc n) k f places
first-more zero k f [] = refl
first-more zero k f (x ∷ places) = let e : k + 0 ≡ k = omega arith in ap (λ (i : ℕ). option_map (f i) x ∷ places) e
first-more (suc n) k f [] = refl
first-more (suc n) k f (x ∷ places) =
    let e : k + suc n ≡ suc k + n = omega arith in
    subst (λ (i : ℕ). change_at (suc n) (f i) (option_map (f k) x ∷ change_first n (suc k) f places) ≡ option_map (f k) x ∷ change_first (suc n) (suc k) f places) (sym e) (ap (λ ys. option_map (f k) x ∷ ys) (first-more n (suc k) f places))

-- the next place
pub first-next : {X : Type 0} (n : ℕ) (f : ℕ → X → X) (places : List (Option X)) → change_at n (f n) (change_first n 0 f places) ≡ change_first (n + 1) 0 f places
first-next n f places =
    let same : 0 + n ≡ n = omega arith in
    let next : suc n ≡ n + 1 = omega arith in
    subst (λ (i : ℕ). change_at n (f i) (change_first n 0 f places) ≡ change_first (suc n) 0 f places) same (first-more n 0 f places) ∙ ap (λ (i : ℕ). change_first i 0 f places) next

-- all of them
pub first-all : {X : Type 0} (n k : ℕ) (f : ℕ → X → X) (places : List (Option X)) → length places ≤ n → change_first n k f places ≡ change_each k f places
first-all zero k f [] few = refl
first-all zero k f (x ∷ places) few = absurd (omega (arith, few))
first-all (suc n) k f [] few = refl
first-all (suc n) k f (x ∷ places) few = ap (λ ys. option_map (f k) x ∷ ys) (first-all n (suc k) f places (omega (arith, few)))

module _ (t home : ℕ) (scheduler : Scheduler) (r : ℕ) where
  -- a core that is wanted becomes pending
  pub wanted : (c : Resource) → (not c.leaving && not c.pending && has_better_waiting c.cur c.since.0 t r home scheduler) ≡ true → pending_core c ≡ reconsidered_core t home scheduler r c
  wanted c is = by_leaving c.leaving c.pending (has_better_waiting c.cur c.since.0 t r home scheduler) is
    where
      by_leaving : (l p b : Bool) → (not l && not p && b) ≡ true → record c { pending = true } ≡ cond l c (record c { pending = p || b })
      by_leaving true p b e = absurd (cc)
      by_leaving false true b e = refl
      by_leaving false false true e = refl
      by_leaving false false false e = absurd (cc)

  -- any other stays as it is
  pub unwanted : (c : Resource) → (not c.leaving && not c.pending && has_better_waiting c.cur c.since.0 t r home scheduler) ≡ false → c ≡ reconsidered_core t home scheduler r c
  unwanted c is = by_leaving c.leaving c.pending refl (has_better_waiting c.cur c.since.0 t r home scheduler) is
    where
      by_leaving : (l p : Bool) → c.pending ≡ p → (b : Bool) → (not l && not p && b) ≡ false → c ≡ cond l c (record c { pending = p || b })
      by_leaving true p same b e = refl
      by_leaving false true same b e = ap (λ (x : Bool). record c { pending = x }) same
      by_leaving false false same true e = absurd (cc)
      by_leaving false false same false e = ap (λ (x : Bool). record c { pending = x }) same
