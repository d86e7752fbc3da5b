-- A core that is neither leaving nor pending keeps nobody waiting, as long as its due has not come.
use Rattle.std.proofs.Common.{◌≡◌, ◌≢◌, ℕ, Bool, true, false, not, List, [], ◌∷◌, refl, subst, sym, ◌∙◌, ap}
use Rattle.std.specs.Prelude.{Option, Some, None, is_some, slice_get, ◌&&◌, ◌||◌, ◌==◌, ◌/◌, ◌%◌, slice_index_or, bit_and}
use Rattle.std.specs.List.{list_any, AllByRecursion}
use Rattle.std.proofs.lemmas.Bool.{eq-eqb, not-true, and_from}
use Rattle.sched_base.specs.Numbers.{core_set, domain, has_moment_come}
use Rattle.sched_base.specs.declared.UnitId.{UnitId}
use Rattle.sched_base.specs.declared.Cores.{Cores}
use Rattle.sched_model.specs.declared.state.Processor.{Processor}
use Rattle.sched_model.specs.declared.state.Resource.{Resource}
use Rattle.sched_model.specs.Places.{clear_at, change_at, change_item, test_at, is_unit}
use Rattle.sched_model.specs.declared.state.Pool.{Pool}
use Rattle.sched_model.specs.declared.state.Scheduler.{Scheduler}
use Rattle.sched_model.specs.declared.state.Records.{Records}
use Rattle.sched_model.specs.declared.state.RtdsUnit.{RtdsUnit}
use Rattle.sched_model.specs.State.{has_core_bit}
use Rattle.sched_model.specs.declared.state.Records.TheVariants.{Credit2Pool, RtdsPool, ArincPool, NullPool}
use Rattle.sched_model.specs.EligibleUnits.{is_unit_eligible, is_unit_allowed, unit_cores, may_have_core, rtds_unit_at}
use Rattle.sched_model.specs.Policy as policy
use Rattle.sched_model.specs.Policy.{has_better_waiting, parted_records}
use Rattle.sched_model.specs.Rtds.{is_record_before}
use Rattle.sched_model.specs.Pool.{enabled_in, settled_pool, pool_core_set, reconsidered_core, change_processor, pool_without_domain, is_domain_unit}
use Rattle.sched_model.specs.declared.action.Action.TheVariants.{DomMoved}
use Rattle.sched_model.specs.Machine.{is_null_pool}
use Rattle.sched_laws.specs.Laws.{is_more_urgent}
use Rattle.sched_model.proofs.PlaceLemmas.{cores_from-change_each, cores_from-change_at}
use Rattle.sched_laws.specs.EachPlace.{EachAt, EachPlace}
use Rattle.sched_laws.proofs.EachPlace.{EachAt-change_at, read_change_each, by_cond}
use Rattle.sched_laws.proofs.Lists.{none_passes, at_numbered}
use Rattle.sched_base.proofs.Lists.{AllByRecursion-map}
use Rattle.sched_laws.proofs.OwnUnits.{moving_not_staying}
use Rattle.sched_laws.specs.PoolFacts.{UnitsAreOwn, IsStaying}
use Rattle.sched_laws.proofs.Due.{window_of}
use Rattle.sched_base.proofs.Bools.{and_left, and_right, not_false, or_left, or_right}
use Rattle.sched_laws.proofs.EachPlace.{at_place-clear_at_other}

-- nobody waits for the core at t
abbrev pub calm : ℕ → ℕ → Scheduler → ℕ → Resource → Bool
calm t home scheduler r c =
    elim c.cur as (λ _. Bool) [
      | None ↦ not (list_any (is_unit_eligible scheduler home r t) scheduler.queue)
      | Some cur ↦ is_unit_allowed scheduler home r cur && not (list_any (λ u. is_unit_eligible scheduler home r t u && is_more_urgent scheduler.records cur u) scheduler.queue)
    ]

abbrev pub CoreIsCalm : ℕ → ℕ → Scheduler → ℕ → Resource → Type 0
CoreIsCalm t home scheduler r c = c.leaving ≡ false → c.pending ≡ false → has_moment_come t c.due ≡ false → calm t home scheduler r c ≡ true

abbrev pub IsCalm : ℕ → Pool → Type 0
IsCalm t pool = EachAt (CoreIsCalm t (pool_core_set pool) pool.scheduler) pool.resources

list_any_less : (test less : UnitId → Bool) → ((u : UnitId) → less u ≡ true → test u ≡ true) → (xs : List UnitId) → list_any test xs ≡ false → list_any less xs ≡ false
list_any_less test less to [] none = refl
list_any_less test less to (u ∷ xs) none =
    elim (less u) as (λ b. less u ≡ b → (b || list_any less xs) ≡ false) [
      | true ↦ λ is. absurd (let a = to u is in let b = or_left (test u) (list_any test xs) none in let e : true ≡ false = sym a ∙ b in cc)
      | false ↦ λ is. list_any_less test less to xs (or_right (test u) (list_any test xs) none)
    ] refl

pub list_any_same : (a b : UnitId → Bool) (xs : List UnitId) → AllByRecursion (λ u. a u ≡ b u) xs → list_any a xs ≡ list_any b xs
list_any_same a b [] same = refl
list_any_same a b (u ∷ xs) same = ap (λ x. x || list_any a xs) same.0 ∙ ap (λ x. b u || x) (list_any_same a b xs same.1)

pub each_of : (P : UnitId → Type 0) → ((u : UnitId) → P u) → (xs : List UnitId) → AllByRecursion P xs
each_of P all [] = tt
each_of P all (u ∷ xs) = (all u, each_of P all xs)

urgent_better : (records : Records) (cur u : UnitId) (since t : ℕ) → is_more_urgent records cur u ≡ true → policy.is_unit_better records cur since t u ≡ true
urgent_better (RtdsPool domains) cur u since t is = is
urgent_better any cur u since t is = absurd (cc)

and_both : (a b c : Bool) → (b ≡ true → c ≡ true) → (a && b) ≡ true → (a && c) ≡ true
and_both true b c to is = to is
and_both false b c to is = absurd (cc)

none_better : (t home : ℕ) (scheduler : Scheduler) (r : ℕ) (since : ℕ) (cur : Option UnitId) → has_better_waiting cur since t r home scheduler ≡ false
    → elim cur as (λ _. Bool) [ None ↦ not (list_any (is_unit_eligible scheduler home r t) scheduler.queue) | Some w ↦ is_unit_allowed scheduler home r w && not (list_any (λ u. is_unit_eligible scheduler home r t u && is_more_urgent scheduler.records w u) scheduler.queue) ] ≡ true
none_better t home scheduler r since None none = ap not none
none_better t home scheduler r since (Some w) none =
    let allowed : is_unit_allowed scheduler home r w ≡ true = not_false _ (or_left (not (is_unit_allowed scheduler home r w)) (list_any (λ u. is_unit_eligible scheduler home r t u && policy.is_unit_better scheduler.records w since t u) scheduler.queue) none) in
    let no = or_right (not (is_unit_allowed scheduler home r w)) (list_any (λ u. is_unit_eligible scheduler home r t u && policy.is_unit_better scheduler.records w since t u) scheduler.queue) none in
    and_from (is_unit_allowed scheduler home r w) _ allowed (ap not (list_any_less (λ u. is_unit_eligible scheduler home r t u && policy.is_unit_better scheduler.records w since t u) (λ u. is_unit_eligible scheduler home r t u && is_more_urgent scheduler.records w u)
    (λ u is. and_both (is_unit_eligible scheduler home r t u) _ _ (urgent_better scheduler.records w u since t) is) scheduler.queue no))

-- looking at the cores makes them calm
pub calm_settled : (t : ℕ) (pool : Pool) → IsCalm t (settled_pool t pool)
calm_settled t pool r c at =
    let home : ℕ = pool_core_set pool in
    let old = read_change_each r (reconsidered_core t home pool.scheduler) pool.resources c at in
    let here : CoreIsCalm t home pool.scheduler r (reconsidered_core t home pool.scheduler r old.0) =
    by_cond (CoreIsCalm t home pool.scheduler r) old.0.leaving old.0 (record old.0 { pending = old.0.pending || has_better_waiting old.0.cur old.0.since.0 t r home pool.scheduler })
    (λ is stays. absurd (let e : true ≡ false = sym is ∙ stays in cc))
    (λ is stays decided low. none_better t home pool.scheduler r old.0.since.0 old.0.cur (or_right old.0.pending _ decided)) in
    subst (λ h. CoreIsCalm t h pool.scheduler r c) (sym (cores_from-change_each 0 0 (reconsidered_core t home pool.scheduler) pool.resources)) (subst (CoreIsCalm t home pool.scheduler r) old.2 here)

pub calm_change_processor : (g t p : ℕ) (f : Processor → Processor) (pool : Pool) → IsCalm t pool → IsCalm t (change_processor g p f pool)
calm_change_processor g t p f pool calms =
    let change : Resource → Resource = λ c. record c { processors = change_item (p % g) f c.processors } in
    subst (λ h. EachAt (CoreIsCalm t h pool.scheduler) (change_at (p / g) change pool.resources)) (sym (cores_from-change_at 0 (p / g) change pool.resources))
    (EachAt-change_at (CoreIsCalm t (pool_core_set pool) pool.scheduler) (p / g) change pool.resources calms (λ c at here. here))

-- the same at a later moment of the same window
passes_same : (records : Records) (scheduler : Scheduler) (home r t next : ℕ) (u : UnitId) → window_of records next ≡ window_of records t → may_have_core records scheduler home r next u ≡ may_have_core records scheduler home r t u
passes_same (ArincPool records) scheduler home r t next u same = ap (λ o. is_unit o u) same
passes_same any scheduler home r t next u same = refl

pub calm_later : (t next home : ℕ) (scheduler : Scheduler) (r : ℕ) (c : Resource) → window_of scheduler.records next ≡ window_of scheduler.records t → calm t home scheduler r c ≡ true → calm next home scheduler r c ≡ true
calm_later t next home scheduler r c same is = by_cur c.cur is
  where
    eligible_same : (u : UnitId) → is_unit_eligible scheduler home r next u ≡ is_unit_eligible scheduler home r t u
    eligible_same u = ap (λ b. is_unit_allowed scheduler home r u && b) (passes_same scheduler.records scheduler home r t next u same)

    by_cur : (cur : Option UnitId) → elim cur as (λ _. Bool) [ None ↦ not (list_any (is_unit_eligible scheduler home r t) scheduler.queue) | Some w ↦ is_unit_allowed scheduler home r w && not (list_any (λ u. is_unit_eligible scheduler home r t u && is_more_urgent scheduler.records w u) scheduler.queue) ] ≡ true
        → elim cur as (λ _. Bool) [ None ↦ not (list_any (is_unit_eligible scheduler home r next) scheduler.queue) | Some w ↦ is_unit_allowed scheduler home r w && not (list_any (λ u. is_unit_eligible scheduler home r next u && is_more_urgent scheduler.records w u) scheduler.queue) ] ≡ true
    by_cur None before = ap not (list_any_same (is_unit_eligible scheduler home r next) (is_unit_eligible scheduler home r t) scheduler.queue (each_of _ eligible_same scheduler.queue)) ∙ before
    by_cur (Some w) before =
        ap (λ b. is_unit_allowed scheduler home r w && not b) (list_any_same (λ u. is_unit_eligible scheduler home r next u && is_more_urgent scheduler.records w u) (λ u. is_unit_eligible scheduler home r t u && is_more_urgent scheduler.records w u) scheduler.queue
        (each_of _ (λ u. ap (λ b. b && is_more_urgent scheduler.records w u) (eligible_same u)) scheduler.queue)) ∙ before

-- a domain that goes takes nothing of the others

passes_parted : (records : Records) (a b : Scheduler) (d home r t : ℕ) (u : UnitId) → is_null_pool records ≡ false → u.dom.0 ≢ d → may_have_core (parted_records records d) a home r t u ≡ may_have_core records b home r t u
passes_parted (Credit2Pool records) a b d home r t u null other = rw (may_have_core, parted_records, at_place-clear_at_other d u.dom.0 records.domains other) refl
passes_parted (RtdsPool domains) a b d home r t u null other = rw (may_have_core, rtds_unit_at, at_place-clear_at_other d u.dom.0 domains other) refl
passes_parted (ArincPool records) a b d home r t u null other = refl
passes_parted (NullPool kept) a b d home r t u null other = absurd (cc)

rtds_parted : (domains : List (Option (List RtdsUnit))) (d : ℕ) (u : UnitId) → u.dom.0 ≢ d → rtds_unit_at (clear_at d domains) u ≡ rtds_unit_at domains u
rtds_parted domains d u other = ap (λ (o : Option (List RtdsUnit)). elim o as (λ _. Option RtdsUnit) [ None ↦ None | Some units ↦ slice_get units u.n ]) (at_place-clear_at_other d u.dom.0 domains other)

abbrev before_of : Option RtdsUnit → Option RtdsUnit → Bool
before_of a b = elim a as (λ _. Bool) [ None ↦ false | Some x ↦ elim b as (λ _. Bool) [ None ↦ false | Some y ↦ is_record_before x y ] ]

urgent_parted : (records : Records) (d : ℕ) (cur u : UnitId) → cur.dom.0 ≢ d → u.dom.0 ≢ d → is_more_urgent (parted_records records d) cur u ≡ is_more_urgent records cur u
urgent_parted (RtdsPool domains) d cur u other other2 = ap (λ a. before_of a (rtds_unit_at (clear_at d domains) cur)) (rtds_parted domains d u other2) ∙ ap (λ b. before_of (rtds_unit_at domains u) b) (rtds_parted domains d cur other)
urgent_parted any d cur u other other2 = refl

cores_parted : (affinity : List (Option (List Cores))) (d : ℕ) (u : UnitId) → u.dom.0 ≢ d → unit_cores (clear_at d affinity) u ≡ unit_cores affinity u
cores_parted affinity d u other = ap (λ (o : Option (List Cores)). elim o as (λ _. ℕ) [ None ↦ 0 | Some units ↦ (slice_index_or units u.n (core_set 0)).0 ]) (at_place-clear_at_other d u.dom.0 affinity other)

pub calm_without_domain : (g t d : ℕ) (pool : Pool) → is_null_pool pool.scheduler.records ≡ false → enabled_in g t pool (DomMoved (domain d)) ≡ true → UnitsAreOwn pool → IsCalm t pool → IsCalm t (pool_without_domain d pool)
calm_without_domain g t d pool null on own calms r c at stays decided low = by_cur c.cur (or_left (is_domain_unit d c.cur) (is_domain_unit d c.saving) (none r c at)) (calms r c at stays decided low)
  where
    none : EachPlace (λ (x : Resource). (is_domain_unit d x.cur || is_domain_unit d x.saving) ≡ false) pool.resources
    none = at_numbered (λ (x : Resource). (is_domain_unit d x.cur || is_domain_unit d x.saving) ≡ false) 0 pool.resources (none_passes _ _ (not-true _ (and_right (test_at pool.domains d (λ x. is_some x.moving)) _ on)))

    others : AllByRecursion (λ (u : UnitId). u.dom.0 ≢ d) pool.scheduler.queue
    others = AllByRecursion-map (IsStaying pool.domains) (λ u. u.dom.0 ≢ d) (λ u staying. moving_not_staying d pool.domains u (and_left (test_at pool.domains d (λ x. is_some x.moving)) _ on) staying) pool.scheduler.queue own.queue

    allowed_same : (u : UnitId) → u.dom.0 ≢ d → is_unit_allowed (policy.parted_scheduler d pool.scheduler) (pool_core_set pool) r u ≡ is_unit_allowed pool.scheduler (pool_core_set pool) r u
    allowed_same u other = ap (λ k. has_core_bit k r || bit_and k (pool_core_set pool) == 0) (cores_parted pool.scheduler.affinity d u other)

    eligible_same : (u : UnitId) → u.dom.0 ≢ d → is_unit_eligible (policy.parted_scheduler d pool.scheduler) (pool_core_set pool) r t u ≡ is_unit_eligible pool.scheduler (pool_core_set pool) r t u
    eligible_same u other =
        ap (λ b. b && may_have_core (parted_records pool.scheduler.records d) (policy.parted_scheduler d pool.scheduler) (pool_core_set pool) r t u) (allowed_same u other)
        ∙ ap (λ b. is_unit_allowed pool.scheduler (pool_core_set pool) r u && b) (passes_parted pool.scheduler.records (policy.parted_scheduler d pool.scheduler) pool.scheduler d (pool_core_set pool) r t u null other)

    not_of : (w : UnitId) → is_domain_unit d (Some w) ≡ false → w.dom.0 ≢ d
    not_of w is e = (let h : (w.dom.0 == d) ≡ true = eq-eqb w.dom.0 d e in let f : true ≡ false = sym h ∙ is in absurd (cc))

    by_cur : (cur : Option UnitId) → is_domain_unit d cur ≡ false
        → elim cur as (λ _. Bool) [ None ↦ not (list_any (is_unit_eligible pool.scheduler (pool_core_set pool) r t) pool.scheduler.queue) | Some w ↦ is_unit_allowed pool.scheduler (pool_core_set pool) r w && not (list_any (λ u. is_unit_eligible pool.scheduler (pool_core_set pool) r t u && is_more_urgent pool.scheduler.records w u) pool.scheduler.queue) ] ≡ true
        → elim cur as (λ _. Bool) [ None ↦ not (list_any (is_unit_eligible (policy.parted_scheduler d pool.scheduler) (pool_core_set pool) r t) pool.scheduler.queue) | Some w ↦ is_unit_allowed (policy.parted_scheduler d pool.scheduler) (pool_core_set pool) r w && not (list_any (λ u. is_unit_eligible (policy.parted_scheduler d pool.scheduler) (pool_core_set pool) r t u && is_more_urgent (parted_records pool.scheduler.records d) w u) pool.scheduler.queue) ] ≡ true
    by_cur None other before = ap not (list_any_same (is_unit_eligible (policy.parted_scheduler d pool.scheduler) (pool_core_set pool) r t) (is_unit_eligible pool.scheduler (pool_core_set pool) r t) pool.scheduler.queue (AllByRecursion-map (λ u. u.dom.0 ≢ d) _ eligible_same pool.scheduler.queue others)) ∙ before
    by_cur (Some w) other before =
        ap (λ b. b && not (list_any (λ u. is_unit_eligible (policy.parted_scheduler d pool.scheduler) (pool_core_set pool) r t u && is_more_urgent (parted_records pool.scheduler.records d) w u) pool.scheduler.queue)) (allowed_same w (not_of w other))
        ∙ ap (λ b. is_unit_allowed pool.scheduler (pool_core_set pool) r w && not b) (list_any_same (λ u. is_unit_eligible (policy.parted_scheduler d pool.scheduler) (pool_core_set pool) r t u && is_more_urgent (parted_records pool.scheduler.records d) w u) (λ u. is_unit_eligible pool.scheduler (pool_core_set pool) r t u && is_more_urgent pool.scheduler.records w u) pool.scheduler.queue
        (AllByRecursion-map (λ u. u.dom.0 ≢ d) _ (λ u far. ap (λ b. b && is_more_urgent (parted_records pool.scheduler.records d) w u) (eligible_same u far) ∙ ap (λ b. is_unit_eligible pool.scheduler (pool_core_set pool) r t u && b) (urgent_parted pool.scheduler.records d w u (not_of w other) far)) pool.scheduler.queue others))
        ∙ before
