-- What is kept of a null pool, and that its decisions keep it: a core's own unit is the one that the core is kept for, a unit that a core saves is kept for
-- no other core, and no unit is kept for two.
use Rattle.std.proofs.Common.{◌≡◌, ◌≢◌, ◌<◌, ◌≤◌, ℕ, zero, suc, Bool, true, false, List, [], ◌∷◌, refl, arith, subst, sym, ◌∙◌, ap, cond, ◌⊎◌, inl, inr}
use Rattle.std.specs.Prelude.{Option, Some, None, length}
use Rattle.std.proofs.Math.Decide.{ℕ_discrete}
use Rattle.sched_base.specs.declared.UnitId.{UnitId}
use Rattle.sched_base.specs.declared.Moment.{Moment}
use Rattle.sched_model.specs.declared.state.Resource.{Resource}
use Rattle.sched_model.specs.declared.state.Pool.{Pool}
use Rattle.sched_model.specs.declared.state.Scheduler.{Scheduler}
use Rattle.sched_model.specs.declared.state.Records.{Records}
use Rattle.sched_model.specs.declared.state.Records.TheVariants.{Credit2Pool, RtdsPool, ArincPool, NullPool}
use Rattle.sched_model.specs.Places.{at_place, put_at, clear_at, same_unit}
use Rattle.sched_model.specs.declared.ask.Ask.{Ask}
use Rattle.sched_model.specs.EligibleUnits.{Decision, is_unit_placed}
use Rattle.sched_model.specs.Policy.{decision_by}
use Rattle.sched_model.specs.NullScheduler as null
use Rattle.sched_model.specs.Pool as pools
use Rattle.sched_model.specs.Pool.{core_ask, decided_core, same_choice}
use Rattle.sched_laws.specs.EachPlace.{EachAt}
use Rattle.sched_laws.proofs.Records.{decided_is}
use Rattle.sched_laws.proofs.EachPlace.{read_put_at, read_clear_at, by_test, by_cond}
use Rattle.sched_base.proofs.Lists.{AllByRecursion-map}
use Rattle.sched_laws.proofs.Choices.{null_has}
use Rattle.sched_laws.specs.PoolFacts.{IfUnit}
use Rattle.sched_laws.proofs.Counts.{total_at, total_two, same_unit_other}
use Rattle.sched_laws.specs.Counts.{times, one_at}
use Rattle.sched_laws.proofs.OnePlace.{one_same, same_choice_same, there_each}
use Rattle.sched_laws.specs.PoolFacts.{OnePlace, core_places}
use Rattle.sched_laws.proofs.EachPlace.{at_place-put_at, at_place-put_at_other, at_place-clear_at_other, place_below, length_set}

-- the units for which the cores are kept, where the pool is a null pool
abbrev pub kept_of : Records → Option (List (Option UnitId))
kept_of (NullPool kept) = Some kept
kept_of any = None

pub record KeptFits (kept : List (Option UnitId)) (cores : List (Option Resource)) : Type 0 where
  pub count : length kept ≡ length cores
  pub cur : EachAt (λ r (c : Resource). (u : UnitId) → c.cur ≡ Some u → at_place kept r ≡ Some u) cores
  pub saving : EachAt (λ r (c : Resource). (u : UnitId) → c.saving ≡ Some u → (q : ℕ) → at_place kept q ≡ Some u → q ≡ r) cores
  pub once : (q r : ℕ) (u : UnitId) → at_place kept q ≡ Some u → at_place kept r ≡ Some u → q ≡ r

-- the same of a pool with these records; nothing where it is not a null pool
abbrev pub NullFits : Records → List (Option Resource) → Type 0
NullFits records cores = (kept : List (Option UnitId)) → kept_of records ≡ Some kept → KeptFits kept cores

pub null_fits : (kept : List (Option UnitId)) (cores : List (Option Resource)) → KeptFits kept cores → NullFits (NullPool kept) cores
null_fits kept cores fits other is = (let e : kept ≡ other = cc in subst (λ k. KeptFits k cores) e fits)

-- what is kept without the units that pass a test
pub read_released : (test : UnitId → Bool) (kept : List (Option UnitId)) (q : ℕ) (w : UnitId) → at_place (null.kept_without test kept) q ≡ Some w → (at_place kept q ≡ Some w) × (test w ≡ false)
read_released test [] q w at = absurd (cc)
read_released test (None ∷ kept) zero w at = absurd (cc)
read_released test (Some x ∷ kept) zero w at =
    elim (test x) as (λ b. test x ≡ b → cond b None (Some x) ≡ Some w → (Some x ≡ Some w) × (test w ≡ false)) [
      | true ↦ λ is h. absurd (cc)
      | false ↦ λ is h. (h, (let e : x ≡ w = cc in subst (λ y. test y ≡ false) e is))
    ] refl at
read_released test (o ∷ kept) (suc q) w at = read_released test kept q w at

pub at_released : (test : UnitId → Bool) (kept : List (Option UnitId)) (q : ℕ) (w : UnitId) → at_place kept q ≡ Some w → test w ≡ false → at_place (null.kept_without test kept) q ≡ Some w
at_released test [] q w at fails = absurd (cc)
at_released test (None ∷ kept) zero w at fails = absurd (cc)
at_released test (Some x ∷ kept) zero w at fails =
    elim (test x) as (λ b. test x ≡ b → cond b None (Some x) ≡ Some w) [
      | true ↦ λ is. absurd (let e : x ≡ w = cc in let f : test w ≡ true = subst (λ y. test y ≡ true) e is in cc)
      | false ↦ λ is. at
    ] refl
at_released test (o ∷ kept) (suc q) w at fails = at_released test kept q w at fails

pub length_released : (test : UnitId → Bool) (kept : List (Option UnitId)) → length (null.kept_without test kept) ≡ length kept
length_released test [] = refl
length_released test (o ∷ kept) = (let r = length_released test kept in grind (arith, r))

-- once a core is kept for a unit, no unit is kept for two
kept_once : (r : ℕ) (u : UnitId) (kept : List (Option UnitId)) → ((a b : ℕ) (w : UnitId) → at_place kept a ≡ Some w → at_place kept b ≡ Some w → a ≡ b)
    → (a b : ℕ) (w : UnitId) → at_place (null.kept_for r u kept) a ≡ Some w → at_place (null.kept_for r u kept) b ≡ Some w → a ≡ b
kept_once r u kept once a b w at_a at_b =
    elim (read_put_at r a u (null.kept_without (same_unit u) kept) w at_a) [
      | inl was_a ↦ elim (read_put_at r b u (null.kept_without (same_unit u) kept) w at_b) [
        | inl was_b ↦ once a b w (read_released (same_unit u) kept a w was_a).0 (read_released (same_unit u) kept b w was_b).0
        | inr is_b ↦ absurd (not_released is_b.1 (read_released (same_unit u) kept a w was_a).1)
      ]
      | inr is_a ↦ elim (read_put_at r b u (null.kept_without (same_unit u) kept) w at_b) [
        | inl was_b ↦ absurd (not_released is_a.1 (read_released (same_unit u) kept b w was_b).1)
        | inr is_b ↦ is_a.0 ∙ sym is_b.0
      ]
    ]
  where
    not_released : u ≡ w → same_unit u w ≡ false → ⊥
    not_released e other = same_unit_other u w other e

-- a unit that is placed, runnable and the core's own is chosen again
pub goes_on : (ask : Ask) (scheduler : Scheduler) (kept : List (Option UnitId)) (u : UnitId) → ask.leaving ≡ false → ask.cur ≡ Some u → ask.runnable ≡ true → is_unit_placed scheduler kept ask.home.0 ask.core.0 u ≡ true
    → (null.null_decision ask scheduler kept).unit ≡ Some u
goes_on ask scheduler kept u stays cur runs placed = rw (null.null_decision, stays, null.null_choice, cur, runs, placed) refl

pub fits_none : (records : Records) (cores : List (Option Resource)) → kept_of records ≡ None → NullFits records cores
fits_none records cores none kept is = absurd (cc)

-- a core's decision; it saves nothing before
module _ (g t r : ℕ) (c : Resource) (pool : Pool) (at : at_place pool.resources r ≡ Some c) (no_saving : c.saving ≡ None) (one : OnePlace g pool) where
  -- the unit waits, or is the core's own
  abbrev Has : UnitId → Type 0
  Has u = (1 ≤ times u pool.scheduler.queue) ⊎ (c.cur ≡ Some u)

  decided_cur : (unit : Option UnitId) (due : Option Moment) (reset : ℕ) (records : Records) → (decided_core t (record { unit = unit; due = due; reset = reset; records = records }) c).cur ≡ unit
  decided_cur unit due reset records = by_test (λ (d : Resource). d.cur ≡ unit) (same_choice unit c.cur) _ _ (λ is. sym (same_choice_same unit c.cur is)) (λ is. refl)

  decided_saving : (unit : Option UnitId) (due : Option Moment) (reset : ℕ) (records : Records) (w : UnitId) → (decided_core t (record { unit = unit; due = due; reset = reset; records = records }) c).saving ≡ Some w → c.cur ≡ Some w
  decided_saving unit due reset records w = by_test (λ (d : Resource). d.saving ≡ Some w → c.cur ≡ Some w) (same_choice unit c.cur) _ _ (λ is saves. absurd (let e : None ≡ Some w = sym no_saving ∙ saves in cc)) (λ is saves. saves)

  -- what the core gets is on no other core
  not_elsewhere : (u : UnitId) → Has u → (p : ℕ) (e : Resource) → p ≢ r → at_place pool.resources p ≡ Some e → 1 ≤ core_places u e → ⊥
  not_elsewhere u (inl waits) p e other at_p on = (let a = total_at (core_places u) p e pool.resources at_p in let m = one.most u in absurd (omega (arith, waits, on, a, m)))
  not_elsewhere u (inr own) p e other at_p on =
      let a = total_two (core_places u) r p c e pool.resources (λ same. other (sym same)) at at_p in
      let b : one_at u c.cur ≡ 1 = rw own (one_same u) in
      let m = one.most u in
      absurd (omega (arith, on, a, b, m))

  is_cur : (u : UnitId) (e : Resource) → e.cur ≡ Some u → 1 ≤ core_places u e
  is_cur u e is = (let b : one_at u e.cur ≡ 1 = rw is (one_same u) in omega (arith, b))

  is_saving : (u : UnitId) (e : Resource) → e.saving ≡ Some u → 1 ≤ core_places u e
  is_saving u e is = (let b : one_at u e.saving ≡ 1 = rw is (one_same u) in omega (arith, b))

  module _ (kept : List (Option UnitId)) (fits : KeptFits kept pool.resources) where
    inside : r < length kept
    inside = (let a = place_below pool.resources r c at in let b = fits.count in omega (arith, a, b))

    -- the core keeps its place with another unit, and what is kept changes at it
    fits_put : (next : List (Option UnitId)) (d : Resource) → length next ≡ length kept
        → ((u : UnitId) → d.cur ≡ Some u → at_place next r ≡ Some u)
        → ((u : UnitId) → d.saving ≡ Some u → c.cur ≡ Some u)
        → ((p : ℕ) (e : Resource) (u : UnitId) → p ≢ r → at_place pool.resources p ≡ Some e → e.cur ≡ Some u → at_place kept p ≡ Some u → at_place next p ≡ Some u)
        → ((q : ℕ) (u : UnitId) → at_place next q ≡ Some u → (at_place kept q ≡ Some u) ⊎ ((q ≡ r) × Has u))
        → ((q p : ℕ) (u : UnitId) → at_place next q ≡ Some u → at_place next p ≡ Some u → q ≡ p)
        → KeptFits next (put_at r d pool.resources)
    fits_put next d same cur saves others old once = record {
      count = same ∙ fits.count ∙ sym (length_set r (Some d) pool.resources);
      cur = λ p e at_p u is. elim (ℕ_discrete p r) [
        | yes here ↦ (
            let f : d ≡ e = here_is p e here at_p in
            subst (λ k. at_place next k ≡ Some u) (sym here) (cur u (subst (λ (x : Resource). x.cur ≡ Some u) (sym f) is)))
        | no other ↦ (
            let was = there_is p e other at_p in
            others p e u other was is (fits.cur p e was u is))
      ];
      saving = λ p e at_p u is q at_q. elim (ℕ_discrete p r) [
        | yes here ↦ (
            let f : d ≡ e = here_is p e here at_p in
            let own = saves u (subst (λ (x : Resource). x.saving ≡ Some u) (sym f) is) in
            elim (old q u at_q) [ inl was ↦ fits.once q r u was (fits.cur r c at u own) ∙ sym here | inr new ↦ new.0 ∙ sym here ])
        | no other ↦ (
            let was = there_is p e other at_p in
            elim (old q u at_q) [ inl before ↦ fits.saving p e was u is q before | inr new ↦ absurd (not_elsewhere u new.1 p e other was (is_saving u e is)) ])
      ];
      once = once;
    }
      where
        here_is : (p : ℕ) (e : Resource) → p ≡ r → at_place (put_at r d pool.resources) p ≡ Some e → d ≡ e
        here_is p e here at_p =
            let a : at_place (put_at r d pool.resources) r ≡ Some e = subst (λ k. at_place (put_at r d pool.resources) k ≡ Some e) here at_p in
            let b : at_place (put_at r d pool.resources) r ≡ Some d = at_place-put_at r d pool.resources (place_below pool.resources r c at) in
            cc

        there_is : (p : ℕ) (e : Resource) → p ≢ r → at_place (put_at r d pool.resources) p ≡ Some e → at_place pool.resources p ≡ Some e
        there_is p e other at_p = sym (at_place-put_at_other r p d pool.resources other) ∙ at_p

    -- the core idles; it may be kept for nobody then
    fits_idle : (next : List (Option UnitId)) (due : Option Moment) (reset : ℕ) (records : Records) → length next ≡ length kept
        → ((q : ℕ) (u : UnitId) → at_place next q ≡ Some u → at_place kept q ≡ Some u)
        → ((p : ℕ) (u : UnitId) → p ≢ r → at_place kept p ≡ Some u → at_place next p ≡ Some u)
        → KeptFits next (put_at r (decided_core t (record { unit = None; due = due; reset = reset; records = records }) c) pool.resources)
    fits_idle next due reset records same old others =
        fits_put next _ same
        (λ u is. absurd (let e : None ≡ Some u = sym (decided_cur None due reset records) ∙ is in cc))
        (decided_saving None due reset records)
        (λ p e u other at_p is was. others p u other was)
        (λ q u at_q. inl (old q u at_q))
        (λ q p u at_q at_p. fits.once q p u (old q u at_q) (old p u at_p))

    -- the core gets a unit, which is kept for it alone
    fits_chosen : (u : UnitId) (due : Option Moment) (reset : ℕ) (records : Records) → Has u → KeptFits (null.kept_for r u kept) (put_at r (decided_core t (record { unit = Some u; due = due; reset = reset; records = records }) c) pool.resources)
    fits_chosen u due reset records has =
        let less : List (Option UnitId) = null.kept_without (same_unit u) kept in
        let same : length less ≡ length kept = length_released (same_unit u) kept in
        let within : r < length less = (let i = inside in omega (arith, i, same)) in
        fits_put (null.kept_for r u kept) _ (length_set r (Some u) less ∙ same)
        (λ w is. at_place-put_at r u less within ∙ sym (decided_cur (Some u) due reset records) ∙ is)
        (decided_saving (Some u) due reset records)
        (λ p e w other at_p is was. at_place-put_at_other r p u less other ∙ at_released (same_unit u) kept p w was (not_same w (λ f. not_elsewhere u has p e other at_p (is_cur u e (is ∙ ap (λ x. Some x) (sym f))))))
        (λ q w at_q. elim (read_put_at r q u less w at_q) [ inl was ↦ inl (read_released (same_unit u) kept q w was).0 | inr new ↦ inr (new.0, subst Has new.1 has) ])
        (kept_once r u kept fits.once)
      where
        not_same : (w : UnitId) → (u ≡ w → ⊥) → same_unit u w ≡ false
        not_same w other = (grind (arith, other))

    fits_decide : (o : Option UnitId) → IfUnit Has o → NullFits (null.null_decision_for r kept o).records (put_at r (decided_core t (null.null_decision_for r kept o) c) pool.resources)
    fits_decide None has = null_fits kept _ (fits_idle kept None 0 (NullPool kept) refl (λ q u at_q. at_q) (λ p u other at_p. at_p))
    fits_decide (Some u) has = null_fits (null.kept_for r u kept) _ (fits_chosen u None 0 (NullPool (null.kept_for r u kept)) has)

    fits_choose : (d : Decision) → d ≡ null.null_decision (core_ask g t pool r c) pool.scheduler kept → NullFits d.records (put_at r (decided_core t d c) pool.resources)
    fits_choose d is =
        let ask : Ask = core_ask g t pool r c in
        let Q : Decision → Type 0 = λ x. NullFits x.records (put_at r (decided_core t x c) pool.resources) in
        subst Q (sym is)
        (by_cond Q ask.leaving (null.null_decision_for r (clear_at r kept) None) (null.null_decision_for r kept (null.null_choice ask pool.scheduler kept))
        (λ leaves. null_fits (clear_at r kept) _ (fits_idle (clear_at r kept) None 0 (NullPool (clear_at r kept)) (length_set r None kept) (λ q u at_q. (read_clear_at r q kept u at_q).1) (λ p u other at_p. at_place-clear_at_other r p kept other ∙ at_p)))
        (λ stays. fits_decide (null.null_choice ask pool.scheduler kept)
        (null_has Has ask pool.scheduler (AllByRecursion-map (λ u. 1 ≤ times u pool.scheduler.queue) Has (λ u waits. inl waits) pool.scheduler.queue (there_each pool.scheduler.queue)) (λ u own runs. inr own) kept)))

  pub fits_after_decide : NullFits pool.scheduler.records pool.resources → NullFits (pools.after_decide g t r c pool).scheduler.records (pools.after_decide g t r c pool).resources
  fits_after_decide fits = by_records pool.scheduler.records refl
    where
      by_records : (records : Records) → pool.scheduler.records ≡ records → NullFits (decision_by records (core_ask g t pool r c) pool.scheduler).records (put_at r (decided_core t (decision_by records (core_ask g t pool r c) pool.scheduler) c) pool.resources)
      by_records (Credit2Pool records) is = fits_none _ _ (ap kept_of (decided_is (Credit2Pool records) (core_ask g t pool r c) pool.scheduler is).1)
      by_records (RtdsPool domains) is = fits_none _ _ (ap kept_of (decided_is (RtdsPool domains) (core_ask g t pool r c) pool.scheduler is).1)
      by_records (ArincPool records) is = fits_none _ _ (ap kept_of (decided_is (ArincPool records) (core_ask g t pool r c) pool.scheduler is))
      by_records (NullPool kept) is = fits_choose kept (fits kept (ap kept_of is)) _ refl
