-- A decision after which no core is wanted, from what it leaves of each waiting unit's claim.
use Rattle.std.proofs.Common.{◌≡◌, ◌≢◌, ℕ, Bool, true, false, not, refl, sym, ap, subst, ◌∙◌, inl, inr}
use Rattle.std.specs.Prelude.{Option, Some, None, ◌&&◌, ◌||◌, option_map, slice_set}
use Rattle.std.specs.List.{list_any}
use Rattle.std.proofs.Math.Decide.{ℕ_discrete}
use Rattle.std.proofs.lemmas.Bool.{or_cases}
use Rattle.sched_base.proofs.Bools.{false_before, or_more}
use Rattle.sched_base.specs.declared.UnitId.{UnitId}
use Rattle.sched_model.specs.declared.state.Pool.{Pool}
use Rattle.sched_model.specs.declared.state.Resource.{Resource}
use Rattle.sched_model.specs.declared.state.Scheduler.{Scheduler}
use Rattle.sched_model.specs.declared.ask.Ask.{Ask}
use Rattle.sched_model.specs.Places.{at_place, has_listed_unit, is_unit}
use Rattle.sched_model.specs.EligibleUnits.{Decision, is_unit_allowed}
use Rattle.sched_model.specs.Policy.{after_decision, has_better_waiting, decision_of}
use Rattle.sched_model.specs.Pool.{after_decide, core_ask, cores_from, decided_core, pool_core_set, same_choice}
use Rattle.sched_model.proofs.PlaceLemmas.{cores_from-change_at}
use Rattle.sched_laws.proofs.EachPlace.{at_place-put_at, at_place-put_at_other, by_test, place_below}
use Rattle.sched_laws.proofs.Lists.{some_same}
use Rattle.sched_laws.proofs.OnePlace.{decided_cur}
use Rattle.pool_laws.specs.CoreLooks.{IsSettled}
use Rattle.sched_model.specs.declared.state.Credit2Records.{Credit2Records}
use Rattle.sched_model.specs.declared.state.Records.TheVariants.{Credit2Pool}
use Rattle.settle_laws.specs.Ready.{HasRecord}
use Rattle.settle_laws.specs.Wanted.{NoneWanted, is_wanted, waits_for}
use Rattle.settle_laws.proofs.Fixed.{none_wanted, is_settled}
use Rattle.settle_laws.proofs.Comes.{answer_is, not_allowed}
use Rattle.settle_laws.proofs.Waiting.{Left, left_has, some_passes, any_passes}

-- a unit that is neither the core's own nor waits, and has a record in a Credit2 pool
pub record Apart (ask : Ask) (s : Scheduler) (x : UnitId) : Type 0 where
  pub other : is_unit ask.cur x ≡ false
  pub waits_not : has_listed_unit s.queue x ≡ false
  pub known : (records : Credit2Records) → s.records ≡ Credit2Pool records → HasRecord records x

-- what a decision leaves: no other core is wanted that was not before, and the core itself is not, if it is not leaving
pub record Spares (ask : Ask) (s : Scheduler) : Type 0 where
  pub others : (k : ℕ) (cur : Option UnitId) (since : ℕ) → k ≢ ask.core.0 → ((x : UnitId) → cur ≡ Some x → Apart ask s x)
      → has_better_waiting cur since ask.at.0 k ask.home.0 (after_decision (decision_of ask s) s) ≡ true → has_better_waiting cur since ask.at.0 k ask.home.0 s ≡ true
  pub own : (since : ℕ) → ask.leaving ≡ false → (same_choice (decision_of ask s).unit ask.cur ≡ true → since ≡ ask.since.0)
      → has_better_waiting (decision_of ask s).unit since ask.at.0 ask.core.0 ask.home.0 (after_decision (decision_of ask s) s) ≡ false

-- the first of it, from each unit that still waits
pub others_from : (decision : Decision) (s : Scheduler) (k t home : ℕ) (cur : Option UnitId) (since : ℕ)
    → ((w : UnitId) → Left decision.unit s.queue w → waits_for cur since t k home (after_decision decision s) w ≡ true → waits_for cur since t k home s w ≡ true)
    → has_better_waiting cur since t k home (after_decision decision s) ≡ true → has_better_waiting cur since t k home s ≡ true
others_from decision s k t home cur since each is =
    let next : Scheduler = after_decision decision s in
    let no : Bool = not_allowed cur k home s in
    let before : Bool = list_any (waits_for cur since t k home s) s.queue in
    let after : Bool = list_any (waits_for cur since t k home next) next.queue in
    answer_is cur since t k home s ∙ elim (or_cases (not_allowed cur k home next) after (sym (answer_is cur since t k home next) ∙ is)) [
      | inl bars ↦ or_more no before (sym (same_no cur) ∙ bars)
      | inr any ↦ (
          let p = some_passes (waits_for cur since t k home next) next.queue any in
          let left = left_has decision.unit s.queue p.unit p.waits in
          last no before (any_passes (waits_for cur since t k home s) s.queue p.unit left.waits (each p.unit left p.passes)))
    ]
  where
    same_no : (cur : Option UnitId) → not_allowed cur k home (after_decision decision s) ≡ not_allowed cur k home s
    same_no None = refl
    same_no (Some x) = refl

    last : (a b : Bool) → b ≡ true → (a || b) ≡ true
    last true b is = refl
    last false b is = is

-- and the second
pub own_from : (decision : Decision) (s : Scheduler) (r t home since : ℕ)
    → ((u : UnitId) → decision.unit ≡ Some u → is_unit_allowed s home r u ≡ true)
    → ((w : UnitId) → Left decision.unit s.queue w → waits_for decision.unit since t r home (after_decision decision s) w ≡ false)
    → has_better_waiting decision.unit since t r home (after_decision decision s) ≡ false
own_from decision s r t home since allowed each =
    let next : Scheduler = after_decision decision s in
    answer_is decision.unit since t r home next
    ∙ ap (λ (b : Bool). b || list_any (waits_for decision.unit since t r home next) next.queue) (may decision.unit refl)
    ∙ none (list_any (waits_for decision.unit since t r home next) next.queue) (λ any.
    let p = some_passes (waits_for decision.unit since t r home next) next.queue any in
    let fails = each p.unit (left_has decision.unit s.queue p.unit p.waits) in
    let passes = p.passes in
    cc)
  where
    may : (o : Option UnitId) → decision.unit ≡ o → not_allowed o r home (after_decision decision s) ≡ false
    may None is = refl
    may (Some u) is = ap not (allowed u is)

    none : (b : Bool) → (b ≡ true → true ≡ false) → b ≡ false
    none true to = to refl
    none false to = refl

wanted_less : (l p x y : Bool) → (y ≡ true → x ≡ true) → (not l && not p && x) ≡ false → (not l && not p && y) ≡ false
wanted_less true p x y to is = refl
wanted_less false true x y to is = refl
wanted_less false false x y to is = false_before y x to is

wanted_not : (l p y : Bool) → (l ≡ false → y ≡ false) → (not l && not p && y) ≡ false
wanted_not true p y to = refl
wanted_not false true y to = refl
wanted_not false false y to = to refl

-- after such a decision the pool is settled as it was before
module _ (g t r : ℕ) (c : Resource) (pool : Pool) (at : at_place pool.resources r ≡ Some c) where
  abbrev decided : Resource
  decided = decided_core t (decision_of (core_ask g t pool r c) pool.scheduler) c

  same_home : pool_core_set (after_decide g t r c pool) ≡ pool_core_set pool
  same_home =
      ap (λ (o : Option Resource). cores_from 0 (slice_set pool.resources r (option_map (λ (x : Resource). decided) o))) (sym at)
      ∙ cores_from-change_at 0 r (λ x. decided) pool.resources

  decided_leaving : decided.leaving ≡ c.leaving
  decided_leaving = by_test (λ (d : Resource). d.leaving ≡ c.leaving) (same_choice (decision_of (core_ask g t pool r c) pool.scheduler).unit c.cur) _ _ (λ is. refl) (λ is. refl)

  decided_since : same_choice (decision_of (core_ask g t pool r c) pool.scheduler).unit c.cur ≡ true → decided.since.0 ≡ c.since.0
  decided_since = by_test (λ (d : Resource). same_choice (decision_of (core_ask g t pool r c) pool.scheduler).unit c.cur ≡ true → d.since.0 ≡ c.since.0) (same_choice (decision_of (core_ask g t pool r c) pool.scheduler).unit c.cur) _ _ (λ is same. refl) (λ is same. absurd (cc))

  pub spared : ((k : ℕ) (y : Resource) (x : UnitId) → k ≢ r → at_place pool.resources k ≡ Some y → y.cur ≡ Some x → Apart (core_ask g t pool r c) pool.scheduler x)
      → Spares (core_ask g t pool r c) pool.scheduler → IsSettled t pool → IsSettled t (after_decide g t r c pool)
  spared apart spares settled = is_settled t next each
    where
      next : Pool
      next = after_decide g t r c pool

      here : (y : Resource) → decided ≡ y → is_wanted t (pool_core_set pool) next.scheduler r y ≡ false
      here y is = subst (λ (d : Resource). is_wanted t (pool_core_set pool) next.scheduler r d ≡ false) is (
          wanted_not decided.leaving decided.pending _ (λ stays.
          ap (λ (o : Option UnitId). has_better_waiting o decided.since.0 t r (pool_core_set pool) next.scheduler) (decided_cur t (decision_of (core_ask g t pool r c) pool.scheduler) c)
          ∙ spares.own decided.since.0 (sym decided_leaving ∙ stays) decided_since))

      there : (k : ℕ) (y : Resource) → k ≢ r → at_place pool.resources k ≡ Some y → is_wanted t (pool_core_set pool) next.scheduler k y ≡ false
      there k y other at_k =
          wanted_less y.leaving y.pending _ _ (spares.others k y.cur y.since.0 other (λ x is. apart k y x other at_k is)) (none_wanted t pool settled k y at_k)

      each : NoneWanted t next
      each k y at_k = subst (λ (h : ℕ). is_wanted t h next.scheduler k y ≡ false) (sym same_home) (elim (ℕ_discrete k r) [
        | yes same ↦ (
            let at_r : at_place next.resources r ≡ Some y = subst (λ (j : ℕ). at_place next.resources j ≡ Some y) same at_k in
            let is : decided ≡ y = some_same (sym (at_place-put_at r decided pool.resources (place_below pool.resources r c at)) ∙ at_r) in
            subst (λ (j : ℕ). is_wanted t (pool_core_set pool) next.scheduler j y ≡ false) (sym same) (here y is))
        | no other ↦ there k y other (sym (at_place-put_at_other r k decided pool.resources other) ∙ at_k)
      ])
