-- A pool is settled exactly where none of its cores is wanted.
use Rattle.std.proofs.Common.{◌≡◌, ◌+◌, ℕ, zero, suc, Bool, true, false, not, List, [], ◌∷◌, refl, sym, ap, subst, ◌∙◌, cond, arith}
use Rattle.std.specs.Prelude.{Option, Some, None, ◌&&◌, ◌||◌, option_map}
use Rattle.sched_model.specs.declared.state.Pool.{Pool}
use Rattle.sched_model.specs.declared.state.Resource.{Resource}
use Rattle.sched_model.specs.Places.{at_place, change_each}
use Rattle.sched_model.specs.Policy.{has_better_waiting}
use Rattle.sched_model.specs.Pool.{pool_core_set, reconsidered_core}
use Rattle.sched_laws.specs.EachPlace.{EachAt}
use Rattle.sched_laws.proofs.EachPlace.{at_place-change_each}
use Rattle.sched_laws.proofs.Lists.{some_same}
use Rattle.pool_laws.specs.CoreLooks.{IsSettled}
use Rattle.settle_laws.specs.Wanted.{NoneWanted}

-- what a look makes of a core that asks whether b
abbrev pub looked : Bool → Resource → Resource
looked b c = cond c.leaving c (record c { pending = c.pending || b })

pub not_looked : (b : Bool) (c : Resource) → (not c.leaving && not c.pending && b) ≡ false → looked b c ≡ c
not_looked b c none = by_two c.leaving c.pending b refl none
  where
    by_two : (l p x : Bool) → c.pending ≡ p → (not l && not p && x) ≡ false → cond l c (record c { pending = p || x }) ≡ c
    by_two true p x f n = refl
    by_two false true x f n = ap (λ (y : Bool). record c { pending = y }) (sym f)
    by_two false false false f n = ap (λ (y : Bool). record c { pending = y }) (sym f)
    by_two false false true f n = absurd (cc)

pub looked_none : (b : Bool) (c : Resource) → looked b c ≡ c → (not c.leaving && not c.pending && b) ≡ false
looked_none b c same = by_two c.leaving c.pending b refl same
  where
    by_two : (l p x : Bool) → c.pending ≡ p → cond l c (record c { pending = p || x }) ≡ c → (not l && not p && x) ≡ false
    by_two true p x f n = refl
    by_two false true x f n = refl
    by_two false false false f n = refl
    by_two false false true f n = ap (λ (y : Resource). y.pending) n ∙ f

-- each is left as it is, and so are all
pub each_fixed : {X : Type 0} (n : ℕ) (f : ℕ → X → X) (xs : List (Option X)) → EachAt (λ i x. f (n + i) x ≡ x) xs → change_each n f xs ≡ xs
each_fixed n f [] each = refl
each_fixed {X} n f (o ∷ xs) each =
    let later : change_each (suc n) f xs ≡ xs = each_fixed (suc n) f xs (λ i x at. (let e : n + suc i ≡ suc n + i = omega arith in subst (λ (k : ℕ). f k x ≡ x) e (each (suc i) x at))) in
    let here : option_map (f n) o ≡ o = elim o as (λ o2. o ≡ o2 → option_map (f n) o2 ≡ o2) [
      | None ↦ λ is. refl
      | Some x ↦ λ is. ap Some (let e : n + 0 ≡ n = omega arith in subst (λ (k : ℕ). f k x ≡ x) e (each zero x is))
    ] refl in
    ap (λ (y : Option X). y ∷ change_each (suc n) f xs) here ∙ ap (λ (ys : List (Option X)). o ∷ ys) later

pub fixed_each : {X : Type 0} (f : ℕ → X → X) (xs : List (Option X)) → change_each 0 f xs ≡ xs → EachAt (λ i x. f i x ≡ x) xs
fixed_each {X} f xs same i x at =
    let number : 0 + i ≡ i = omega arith in
    some_same (ap (λ (k : ℕ). Some (f k x)) (sym number)
    ∙ ap (option_map (f (0 + i))) (sym at)
    ∙ sym (at_place-change_each 0 i f xs)
    ∙ ap (λ (ys : List (Option X)). at_place ys i) same
    ∙ at)

pub none_wanted : (t : ℕ) (pool : Pool) → IsSettled t pool → NoneWanted t pool
none_wanted t pool settled r c at =
    looked_none (has_better_waiting c.cur c.since.0 t r (pool_core_set pool) pool.scheduler) c
    (fixed_each (reconsidered_core t (pool_core_set pool) pool.scheduler) pool.resources (ap (λ (x : Pool). x.resources) settled) r c at)

pub is_settled : (t : ℕ) (pool : Pool) → NoneWanted t pool → IsSettled t pool
is_settled t pool none =
    ap (λ (cores : List (Option Resource)). record pool { resources = cores })
    (each_fixed 0 (reconsidered_core t (pool_core_set pool) pool.scheduler) pool.resources
    (λ r c at. (let number : r ≡ 0 + r = omega arith in subst (λ (k : ℕ). reconsidered_core t (pool_core_set pool) pool.scheduler k c ≡ c) number (not_looked (has_better_waiting c.cur c.since.0 t r (pool_core_set pool) pool.scheduler) c (none r c at)))))
