-- The look of RTDS and of the null scheduler reads no moment.
use Rattle.std.proofs.Common.{◌≡◌, ℕ, suc, Bool, false, not, List, [], ◌∷◌, refl, ap, ◌∙◌}
use Rattle.std.specs.Prelude.{Option, Some, None, ◌&&◌, ◌||◌}
use Rattle.std.specs.List.{list_any}
use Rattle.sched_base.specs.declared.UnitId.{UnitId}
use Rattle.sched_model.specs.declared.state.Pool.{Pool}
use Rattle.sched_model.specs.declared.state.Records.{Records}
use Rattle.sched_model.specs.declared.state.Records.TheVariants.{Credit2Pool, RtdsPool, ArincPool, NullPool}
use Rattle.sched_model.specs.declared.state.Resource.{Resource}
use Rattle.sched_model.specs.declared.state.Scheduler.{Scheduler}
use Rattle.sched_model.specs.Places.{change_each}
use Rattle.sched_model.specs.EligibleUnits.{is_unit_allowed, is_unit_eligible, may_have_core}
use Rattle.sched_model.specs.Policy.{has_better_waiting, is_unit_better}
use Rattle.sched_model.specs.Pool.{pool_core_set, settled_pool, reconsidered_core}
use Rattle.pool_laws.specs.CoreLooks.{IsSettled}
use Rattle.settle_laws.specs.Wanted.{reads_moment}
use Rattle.settle_laws.proofs.Fixed.{looked}

-- two tests that agree on each of a list
pub any_same : {X : Type 0} (f g : X → Bool) (xs : List X) → ((x : X) → f x ≡ g x) → list_any f xs ≡ list_any g xs
any_same f g [] same = refl
any_same f g (x ∷ xs) same = ap (λ (b : Bool). b || list_any f xs) (same x) ∙ ap (λ (b : Bool). g x || b) (any_same f g xs same)

passes_always : (records : Records) (s : Scheduler) (home core t t2 : ℕ) (u : UnitId) → reads_moment records ≡ false → may_have_core records s home core t u ≡ may_have_core records s home core t2 u
passes_always (Credit2Pool records) s home core t t2 u reads = refl
passes_always (RtdsPool domains) s home core t t2 u reads = refl
passes_always (ArincPool records) s home core t t2 u reads = absurd (cc)
passes_always (NullPool kept) s home core t t2 u reads = refl

better_always : (records : Records) (cur : UnitId) (since since2 t t2 : ℕ) (u : UnitId) → reads_moment records ≡ false → is_unit_better records cur since t u ≡ is_unit_better records cur since2 t2 u
better_always (Credit2Pool records) cur since since2 t t2 u reads = absurd (cc)
better_always (RtdsPool domains) cur since since2 t t2 u reads = refl
better_always (ArincPool records) cur since since2 t t2 u reads = refl
better_always (NullPool kept) cur since since2 t t2 u reads = refl

pub answers_always : (cur : Option UnitId) (since since2 t t2 core home : ℕ) (s : Scheduler) → reads_moment s.records ≡ false → has_better_waiting cur since t core home s ≡ has_better_waiting cur since2 t2 core home s
answers_always None since since2 t t2 core home s reads =
    any_same (is_unit_eligible s home core t) (is_unit_eligible s home core t2) s.queue (λ u. ap (λ (b : Bool). is_unit_allowed s home core u && b) (passes_always s.records s home core t t2 u reads))
answers_always (Some cur) since since2 t t2 core home s reads =
    ap (λ (b : Bool). not (is_unit_allowed s home core cur) || b)
    (any_same (λ u. is_unit_eligible s home core t u && is_unit_better s.records cur since t u) (λ u. is_unit_eligible s home core t2 u && is_unit_better s.records cur since2 t2 u) s.queue (λ u.
    ap (λ (b : Bool). (is_unit_allowed s home core u && b) && is_unit_better s.records cur since t u) (passes_always s.records s home core t t2 u reads)
    ∙ ap (λ (b : Bool). is_unit_eligible s home core t2 u && b) (better_always s.records cur since since2 t t2 u reads)))

pub each_same : {X : Type 0} (n : ℕ) (f g : ℕ → X → X) (xs : List (Option X)) → ((i : ℕ) (x : X) → f i x ≡ g i x) → change_each n f xs ≡ change_each n g xs
each_same n f g [] same = refl
each_same {X} n f g (None ∷ xs) same = ap (λ (ys : List (Option X)). None ∷ ys) (each_same (suc n) f g xs same)
each_same {X} n f g (Some x ∷ xs) same = ap (λ (y : X). Some y ∷ change_each (suc n) f xs) (same n x) ∙ ap (λ (ys : List (Option X)). Some (g n x) ∷ ys) (each_same (suc n) f g xs same)

pub looks_always : (t t2 : ℕ) (pool : Pool) → reads_moment pool.scheduler.records ≡ false → settled_pool t pool ≡ settled_pool t2 pool
looks_always t t2 pool reads =
    ap (λ (cores : List (Option Resource)). record pool { resources = cores })
    (each_same 0 (reconsidered_core t (pool_core_set pool) pool.scheduler) (reconsidered_core t2 (pool_core_set pool) pool.scheduler) pool.resources
    (λ r c. ap (λ (b : Bool). looked b c) (answers_always c.cur c.since.0 c.since.0 t t2 r (pool_core_set pool) pool.scheduler reads)))

pub settled_always : (t t2 : ℕ) (pool : Pool) → reads_moment pool.scheduler.records ≡ false → IsSettled t pool → IsSettled t2 pool
settled_always t t2 pool reads settled = looks_always t2 t pool reads ∙ settled
