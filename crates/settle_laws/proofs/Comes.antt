-- A unit that comes to wait behind the others.
use Rattle.std.proofs.Common.{◌≡◌, ◌+◌, ℕ, suc, Bool, true, false, not, List, [], ◌∷◌, refl, sym, ap, subst, ◌∙◌, arith, cond}
use Rattle.std.specs.Prelude.{Option, Some, None, ◌&&◌, ◌||◌, option_map}
use Rattle.std.specs.List.{list_any}
use Rattle.std.proofs.lemmas.List.Folds.{list_any-append}
use Rattle.std.proofs.Math.Bool.{or-false}
use Rattle.sched_base.specs.declared.UnitId.{UnitId}
use Rattle.sched_model.specs.declared.state.Pool.{Pool}
use Rattle.sched_model.specs.declared.state.Records.{Records}
use Rattle.sched_model.specs.declared.state.Records.TheVariants.{Credit2Pool, RtdsPool, ArincPool, NullPool}
use Rattle.sched_model.specs.declared.state.Resource.{Resource}
use Rattle.sched_model.specs.declared.state.Scheduler.{Scheduler}
use Rattle.sched_model.specs.Places.{change_each}
use Rattle.sched_model.specs.EligibleUnits.{is_unit_allowed, is_unit_eligible, may_have_core}
use Rattle.sched_model.specs.Policy.{has_better_waiting, is_unit_better, scheduler_with_queued}
use Rattle.sched_model.specs.Pool.{pool_core_set, settled_pool, reconsidered_core, queue_unit}
use Rattle.sched_laws.specs.EachPlace.{EachAt}
use Rattle.pool_laws.specs.CoreLooks.{IsSettled}
use Rattle.settle_laws.specs.Wanted.{waits_for, reconsidered_for, settled_for}
use Rattle.settle_laws.proofs.Fixed.{looked, none_wanted}
use Rattle.settle_laws.proofs.Moments.{any_same}

-- what a unit may have does not depend on who waits
pub passes_by : (records : Records) (s : Scheduler) (queue : List UnitId) (home core t : ℕ) (u : UnitId) → may_have_core records (record s { queue = queue }) home core t u ≡ may_have_core records s home core t u
passes_by (Credit2Pool records) s queue home core t u = refl
passes_by (RtdsPool domains) s queue home core t u = refl
passes_by (ArincPool records) s queue home core t u = refl
passes_by (NullPool kept) s queue home core t u = refl

pub eligible_by : (s : Scheduler) (queue : List UnitId) (home core t : ℕ) (u : UnitId) → is_unit_eligible (record s { queue = queue }) home core t u ≡ is_unit_eligible s home core t u
eligible_by s queue home core t u = ap (λ (b : Bool). is_unit_allowed s home core u && b) (passes_by s.records s queue home core t u)

or_assoc : (a b c : Bool) → (a || (b || c)) ≡ ((a || b) || c)
or_assoc true b c = refl
or_assoc false b c = refl

-- a core's answer is whether its own unit may go on, and whether it is to decide for one that waits
abbrev pub not_allowed : Option UnitId → ℕ → ℕ → Scheduler → Bool
not_allowed None core home s = false
not_allowed (Some cur) core home s = not (is_unit_allowed s home core cur)

pub answer_is : (cur : Option UnitId) (since t core home : ℕ) (s : Scheduler) → has_better_waiting cur since t core home s ≡ (not_allowed cur core home s || list_any (waits_for cur since t core home s) s.queue)
answer_is None since t core home s = refl
answer_is (Some cur) since t core home s = refl

pub waits_by : (cur : Option UnitId) (since t core home : ℕ) (s : Scheduler) (queue : List UnitId) (u : UnitId) → waits_for cur since t core home (record s { queue = queue }) u ≡ waits_for cur since t core home s u
waits_by None since t core home s queue u = eligible_by s queue home core t u
waits_by (Some cur) since t core home s queue u = ap (λ (b : Bool). b && is_unit_better s.records cur since t u) (eligible_by s queue home core t u)

pub not_allowed_by : (cur : Option UnitId) (core home : ℕ) (s : Scheduler) (queue : List UnitId) → not_allowed cur core home (record s { queue = queue }) ≡ not_allowed cur core home s
not_allowed_by None core home s queue = refl
not_allowed_by (Some cur) core home s queue = refl

pub answer_with : (cur : Option UnitId) (since t core home : ℕ) (u : UnitId) (s : Scheduler) → has_better_waiting cur since t core home (scheduler_with_queued u s) ≡ (has_better_waiting cur since t core home s || waits_for cur since t core home s u)
answer_with cur since t core home u s =
    let next : Scheduler = scheduler_with_queued u s in
    let no : Bool = not_allowed cur core home s in
    let any : List UnitId → Bool = list_any (waits_for cur since t core home s) in
    answer_is cur since t core home next
    ∙ ap (λ (b : Bool). b || list_any (waits_for cur since t core home next) next.queue) (not_allowed_by cur core home s next.queue)
    ∙ ap (λ (b : Bool). no || b) (any_same (waits_for cur since t core home next) (waits_for cur since t core home s) next.queue (waits_by cur since t core home s next.queue))
    ∙ ap (λ (b : Bool). no || b) (list_any-append (waits_for cur since t core home s) s.queue (u ∷ []))
    ∙ ap (λ (b : Bool). no || (any s.queue || b)) (or-false (waits_for cur since t core home s u))
    ∙ or_assoc no (any s.queue) (waits_for cur since t core home s u)
    ∙ ap (λ (b : Bool). b || waits_for cur since t core home s u) (sym (answer_is cur since t core home s))

-- a core that was not wanted before is wanted for the unit alone
looked_more : (before b : Bool) (c : Resource) → (not c.leaving && not c.pending && before) ≡ false → looked (before || b) c ≡ looked b c
looked_more before b c none = by_two c.leaving c.pending before none
  where
    by_two : (l p x : Bool) → (not l && not p && x) ≡ false → cond l c (record c { pending = p || (x || b) }) ≡ cond l c (record c { pending = p || b })
    by_two true p x n = refl
    by_two false true x n = refl
    by_two false false false n = refl
    by_two false false true n = absurd (cc)

pub each_same_at : {X : Type 0} (n : ℕ) (f g : ℕ → X → X) (xs : List (Option X)) → EachAt (λ i x. f (n + i) x ≡ g (n + i) x) xs → change_each n f xs ≡ change_each n g xs
each_same_at n f g [] each = refl
each_same_at {X} n f g (o ∷ xs) each =
    let later : change_each (suc n) f xs ≡ change_each (suc n) g xs = each_same_at (suc n) f g xs (λ i x at. (let e : n + suc i ≡ suc n + i = omega arith in subst (λ (k : ℕ). f k x ≡ g k x) e (each (suc i) x at))) in
    let here : option_map (f n) o ≡ option_map (g n) o = elim o as (λ o2. o ≡ o2 → option_map (f n) o2 ≡ option_map (g n) o2) [
      | None ↦ λ is. refl
      | Some x ↦ λ is. ap Some (let e : n + 0 ≡ n = omega arith in subst (λ (k : ℕ). f k x ≡ g k x) e (each 0 x is))
    ] refl in
    ap (λ (y : Option X). y ∷ change_each (suc n) f xs) here ∙ ap (λ (ys : List (Option X)). option_map (g n) o ∷ ys) later

pub settled_alone : (t : ℕ) (u : UnitId) (pool : Pool) → IsSettled t pool → settled_pool t (queue_unit u pool) ≡ settled_for t u (queue_unit u pool)
settled_alone t u pool settled =
    ap (λ (cores : List (Option Resource)). record next { resources = cores })
    (each_same_at 0 (reconsidered_core t home next.scheduler) (reconsidered_for t home next.scheduler u) pool.resources (λ r c at.
    (let number : 0 + r ≡ r = omega arith in subst (λ (k : ℕ). reconsidered_core t home next.scheduler k c ≡ reconsidered_for t home next.scheduler u k c) (sym number) (each r c at))))
  where
    home : ℕ
    home = pool_core_set pool

    next : Pool
    next = queue_unit u pool

    each : EachAt (λ r c. reconsidered_core t home next.scheduler r c ≡ reconsidered_for t home next.scheduler u r c) pool.resources
    each r c at =
        ap (λ (b : Bool). looked b c) (answer_with c.cur c.since.0 t r home u pool.scheduler)
        ∙ looked_more (has_better_waiting c.cur c.since.0 t r home pool.scheduler) (waits_for c.cur c.since.0 t r home pool.scheduler u) c (none_wanted t pool settled r c at)
        ∙ ap (λ (b : Bool). looked b c) (sym (waits_by c.cur c.since.0 t r home pool.scheduler next.scheduler.queue u))
