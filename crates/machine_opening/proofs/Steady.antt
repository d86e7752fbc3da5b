-- While all cores are to decide, a look at them changes nothing.
use Rattle.std.proofs.Common.{◌≡◌, ℕ, suc, Bool, true, false, ◌||◌, List, [], ◌∷◌, refl, sym, ap, ◌∙◌, cond}
use Rattle.std.specs.Prelude.{Option, Some, None}
use Rattle.sched_model.specs.declared.state.Pool.{Pool}
use Rattle.sched_model.specs.declared.state.Resource.{Resource}
use Rattle.sched_model.specs.declared.state.Scheduler.{Scheduler}
use Rattle.sched_model.specs.Places.{change_each}
use Rattle.sched_model.specs.Policy.{has_better_waiting}
use Rattle.sched_model.specs.Pool.{pool_core_set, reconsidered_core, settled_pool}
use Rattle.sched_laws.specs.EachPlace.{EachPlace}
use Rattle.pool_core.specs.Seen.{Seen, seen_at}
use Rattle.machine_opening.specs.OpeningPool.{IsPending, with_pool}

-- a core that is to decide
core_stays : (t home r : ℕ) (scheduler : Scheduler) (c : Resource) → IsPending c → reconsidered_core t home scheduler r c ≡ c
core_stays t home r scheduler c is = by_leaving c.leaving c.pending is refl (has_better_waiting c.cur c.since.0 t r home scheduler)
  where
    by_leaving : (l p : Bool) → p ≡ true → c.pending ≡ p → (b : Bool) → cond l c (record c { pending = p || b }) ≡ c
    by_leaving true p e same b = refl
    by_leaving false true e same b = sym (ap (λ (x : Bool). record c { pending = x }) same)
    by_leaving false false e same b = absurd (cc)

-- all of them
cores_stay : (t home k : ℕ) (scheduler : Scheduler) (cores : List (Option Resource)) → EachPlace IsPending cores → change_each k (reconsidered_core t home scheduler) cores ≡ cores
cores_stay t home k scheduler [] pending = refl
cores_stay t home k scheduler (None ∷ cores) pending = ap (λ (rest : List (Option Resource)). None ∷ rest) (cores_stay t home (suc k) scheduler cores (λ i x at. pending (suc i) x at))
cores_stay t home k scheduler (Some c ∷ cores) pending =
    ap (λ (x : Resource). Some x ∷ change_each (suc k) (reconsidered_core t home scheduler) cores) (core_stays t home k scheduler c (pending 0 c refl))
    ∙ ap (λ (rest : List (Option Resource)). Some c ∷ rest) (cores_stay t home (suc k) scheduler cores (λ i x at. pending (suc i) x at))

pool_stays : (t : ℕ) (pool : Pool) → EachPlace IsPending pool.resources → settled_pool t pool ≡ pool
pool_stays t pool pending = ap (λ (cores : List (Option Resource)). record pool { resources = cores }) (cores_stay t (pool_core_set pool) 0 pool.scheduler pool.resources pending)

-- another pool whose cores are all to decide, at the opening
pub stays : (pool : Pool) (seen : Seen) → seen.latest ≡ 0 → EachPlace IsPending pool.resources → seen_at 0 (settled_pool 0 pool) seen ≡ with_pool pool seen
stays pool seen early pending =
    ap (λ (p : Pool). seen_at 0 p seen) (pool_stays 0 pool pending) ∙ ap (λ (n : ℕ). seen_at n pool seen) (sym early)
