-- Looking at the cores of a pool again, and at one of them alone.
use Rattle.std.proofs.Common.{◌≡◌, ℕ, zero, suc, ◌+◌, List, [], ◌∷◌, Bool, true, false, refl, sym, ◌∙◌, ap, arith}
use Rattle.std.specs.Prelude.{Option, Some, None, option_map, ◌||◌, if◌then◌else◌}
use Rattle.sched_model.specs.declared.state.Resource.{Resource}
use Rattle.sched_model.specs.declared.state.Scheduler.{Scheduler}
use Rattle.sched_model.specs.declared.state.Pool.{Pool}
use Rattle.sched_model.specs.Places.{change_at, change_each}
use Rattle.sched_model.specs.Policy.{has_better_waiting}
use Rattle.sched_model.specs.Pool.{settled_pool, reconsidered_core, change_core, pool_core_set}
use Rattle.sched_model.proofs.PlaceLemmas.{cores_from-change_each, cores_from-change_at}
use Rattle.pool_laws.specs.CoreLooks.{IsSettled, settled_core}

or_again : (a b : Bool) → ((a || b) || b) ≡ (a || b)
or_again true b = refl
or_again false true = refl
or_again false false = refl

-- looking at a core again changes nothing
again_core : (t home : ℕ) (scheduler : Scheduler) (r : ℕ) (c : Resource) → reconsidered_core t home scheduler r (reconsidered_core t home scheduler r c) ≡ reconsidered_core t home scheduler r c
again_core t home scheduler r c =
    elim c.leaving as (λ leaving. c.leaving ≡ leaving → reconsidered_core t home scheduler r (reconsidered_core t home scheduler r c) ≡ reconsidered_core t home scheduler r c) [
      | true ↦ λ is.
          let same : reconsidered_core t home scheduler r c ≡ c = ap (λ (b : Bool). if b then c else record c { pending = c.pending || has_better_waiting c.cur c.since.0 t r home scheduler }) is in
          ap (reconsidered_core t home scheduler r) same
      | false ↦ λ is.
          let better : Bool = has_better_waiting c.cur c.since.0 t r home scheduler in
          let once : reconsidered_core t home scheduler r c ≡ record c { pending = c.pending || better } = ap (λ (b : Bool). if b then c else record c { pending = c.pending || better }) is in
          let twice : reconsidered_core t home scheduler r (record c { pending = c.pending || better }) ≡ record c { pending = (c.pending || better) || better } =
          ap (λ (b : Bool). if b then record c { pending = c.pending || better } else record c { pending = (c.pending || better) || better }) is in
          ap (reconsidered_core t home scheduler r) once ∙ twice ∙ ap (λ (b : Bool). record c { pending = b }) (or_again c.pending better) ∙ sym once
    ] refl

again_each : (n : ℕ) (f : ℕ → Resource → Resource) (cores : List (Option Resource)) → ((r : ℕ) (c : Resource) → f r (f r c) ≡ f r c) → change_each n f (change_each n f cores) ≡ change_each n f cores
again_each n f [] once = refl
again_each n f (None ∷ cores) once = ap (λ (rest : List (Option Resource)). None ∷ rest) (again_each (suc n) f cores once)
again_each n f (Some c ∷ cores) once =
    ap (λ (x : Resource). Some x ∷ change_each (suc n) f (change_each (suc n) f cores)) (once n c)
    ∙ ap (λ (rest : List (Option Resource)). Some (f n c) ∷ rest) (again_each (suc n) f cores once)

pub settled_again : (t : ℕ) (pool : Pool) → IsSettled t (settled_pool t pool)
settled_again t pool =
    let home = pool_core_set pool in
    let scheduler = pool.scheduler in
    let same : pool_core_set (settled_pool t pool) ≡ home = cores_from-change_each 0 0 (reconsidered_core t home scheduler) pool.resources in
    ap (λ (k : ℕ). record pool { resources = change_each 0 (reconsidered_core t k scheduler) (change_each 0 (reconsidered_core t home scheduler) pool.resources) }) same
    ∙ ap (λ (cores : List (Option Resource)). record pool { resources = cores }) (again_each 0 (reconsidered_core t home scheduler) pool.resources (again_core t home scheduler))

abbrev rest_of : List (Option Resource) → List (Option Resource)
rest_of [] = []
rest_of (c ∷ cores) = cores

abbrev first_of : List (Option Resource) → Option Resource
first_of [] = None
first_of (c ∷ cores) = c

twice_changed : (f g : Resource → Resource) (c : Option Resource) → option_map g (option_map f c) ≡ option_map (λ x. g (f x)) c
twice_changed f g None = refl
twice_changed f g (Some c) = refl

each_cons : (n : ℕ) (look : ℕ → Resource → Resource) (c : Option Resource) (cores : List (Option Resource)) → change_each n look (c ∷ cores) ≡ option_map (look n) c ∷ change_each (suc n) look cores
each_cons n look None cores = refl
each_cons n look (Some c) cores = refl

-- where looking at each changes nothing, one that changes alone is to be looked at alone
each_alone : (n i : ℕ) (look : ℕ → Resource → Resource) (f : Resource → Resource) (cores : List (Option Resource)) → change_each n look cores ≡ cores
    → change_each n look (change_at i f cores) ≡ change_at i (λ c. look (n + i) (f c)) cores
each_alone n i look f [] same = refl
each_alone n zero look f (c ∷ cores) same =
    let tail : change_each (suc n) look cores ≡ cores = ap rest_of (sym (each_cons n look c cores) ∙ same) in
    let number : n ≡ n + zero = omega arith in
    each_cons n look (option_map f c) cores
    ∙ ap (λ (x : Option Resource). x ∷ change_each (suc n) look cores) (twice_changed f (look n) c ∙ ap (λ (k : ℕ). option_map (λ x. look k (f x)) c) number)
    ∙ ap (λ (xs : List (Option Resource)). option_map (λ x. look (n + zero) (f x)) c ∷ xs) tail
each_alone n (suc i) look f (c ∷ cores) same =
    let head : option_map (look n) c ≡ c = ap first_of (sym (each_cons n look c cores) ∙ same) in
    let tail : change_each (suc n) look cores ≡ cores = ap rest_of (sym (each_cons n look c cores) ∙ same) in
    let number : suc n + i ≡ n + suc i = omega arith in
    each_cons n look c (change_at i f cores)
    ∙ ap (λ (x : Option Resource). x ∷ change_each (suc n) look (change_at i f cores)) head
    ∙ ap (λ (xs : List (Option Resource)). c ∷ xs) (each_alone (suc n) i look f cores tail ∙ ap (λ (k : ℕ). change_at i (λ x. look k (f x)) cores) number)

pub settled_alone : (t r : ℕ) (f : Resource → Resource) (pool : Pool) → IsSettled t pool → settled_pool t (change_core r f pool) ≡ settled_core t r f pool
settled_alone t r f pool settled_before =
    let home = pool_core_set pool in
    let same : pool_core_set (change_core r f pool) ≡ home = cores_from-change_at 0 r f pool.resources in
    let before : change_each 0 (reconsidered_core t home pool.scheduler) pool.resources ≡ pool.resources = ap (λ (x : Pool). x.resources) settled_before in
    ap (λ (k : ℕ). record pool { resources = change_each 0 (reconsidered_core t k pool.scheduler) (change_at r f pool.resources) }) same
    ∙ ap (λ (cores : List (Option Resource)). record pool { resources = cores }) (each_alone 0 r (reconsidered_core t home pool.scheduler) f pool.resources before)
    ∙ ap (λ (k : ℕ). record pool { resources = change_at r (λ c. reconsidered_core t home pool.scheduler k (f c)) pool.resources }) (let e : 0 + r ≡ r = omega arith in e)
