-- A decision in a settled pool leaves it settled.
use Rattle.std.proofs.Common.{◌≡◌, ◌≢◌, ◌≤◌, ℕ, Bool, true, false, not, List, refl, sym, ap, subst, ◌∙◌, arith}
use Rattle.std.specs.Prelude.{Option, Some, None}
use Rattle.sched_base.specs.Numbers.{core}
use Rattle.sched_base.specs.declared.UnitId.{UnitId}
use Rattle.sched_base.proofs.Bools.{not_false}
use Rattle.sched_model.specs.declared.action.Action.TheVariants.{Decide}
use Rattle.sched_model.specs.declared.state.Pool.{Pool}
use Rattle.sched_model.specs.declared.state.Resource.{Resource}
use Rattle.sched_model.specs.declared.state.Records.{Records}
use Rattle.sched_model.specs.declared.state.Records.TheVariants.{Credit2Pool, RtdsPool, ArincPool, NullPool}
use Rattle.sched_model.specs.declared.state.Scheduler.{Scheduler}
use Rattle.sched_model.specs.declared.ask.Ask.{Ask}
use Rattle.sched_model.specs.Places.{at_place, has_listed_unit, is_unit}
use Rattle.sched_model.specs.EligibleUnits.{is_unit_allowed}
use Rattle.sched_model.specs.Policy.{decision_of}
use Rattle.sched_model.specs.Pool.{after_decide, after_in, core_ask}
use Rattle.sched_laws.specs.Counts.{one_at}
use Rattle.sched_laws.specs.PoolFacts.{IsKnownPool, core_places}
use Rattle.sched_laws.proofs.Choices.{is_unit_same}
use Rattle.sched_laws.proofs.Counts.{times_some, total_at, total_two}
use Rattle.sched_laws.proofs.OnePlace.{one_same}
use Rattle.pool_laws.specs.CoreLooks.{IsSettled}
use Rattle.settle_laws.specs.Frees.{frees}
use Rattle.settle_laws.specs.Kept.{KeptOnce}
use Rattle.std.specs.Prelude.{◌<◌, option_map, slice_get}
use Rattle.sched_model.specs.declared.state.Credit2Domain.{Credit2Domain}
use Rattle.sched_model.specs.declared.state.Credit2Records.{Credit2Records}
use Rattle.sched_model.specs.declared.state.Credit2Unit.{Credit2Unit}
use Rattle.sched_laws.proofs.Lists.{some_same}
use Rattle.settle_laws.specs.Ready.{AreReady, AreReadyBy, HasRecord, IsOff}
use Rattle.settle_laws.proofs.Credit2.{credit2_spares}
use Rattle.settle_laws.proofs.Views.{View, of_domain, view, view_of}
use Rattle.settle_laws.proofs.Spares.{Apart, Spares, spared}
use Rattle.settle_laws.proofs.Rtds.{rtds_spares}
use Rattle.settle_laws.proofs.Arinc.{arinc_spares}
use Rattle.settle_laws.proofs.Null.{null_spares}
use Rattle.settle_laws.proofs.Tests.{false_if}

-- what a Credit2 decision needs
record Fit (ask : Ask) (s : Scheduler) (records : Credit2Records) : Type 0 where
  waits : (w : UnitId) → has_listed_unit s.queue w ≡ true → IsOff records w
  own : (u : UnitId) → ask.cur ≡ Some u → HasRecord records u
  cut : (u : UnitId) (v : View) → view_of records u ≡ Some v → v.residual < v.weight

abbrev IsReadyTo : Ask → Scheduler → Records → Type 0
IsReadyTo ask s (Credit2Pool records) = Fit ask s records
IsReadyTo ask s (RtdsPool domains) = Unit {0}
IsReadyTo ask s (ArincPool records) = Unit {0}
IsReadyTo ask s (NullPool kept) = Unit {0}

cut_view : (queue : List UnitId) (cores : List (Option Resource)) (records : Credit2Records) → AreReady queue cores records → (u : UnitId) (v : View) → view_of records u ≡ Some v → v.residual < v.weight
cut_view queue cores records ready u v is = by_domain (at_place records.domains u.dom.0) refl is
  where
    by_unit : (d : Credit2Domain) → at_place records.domains u.dom.0 ≡ Some d → (o : Option Credit2Unit) → slice_get d.units u.n ≡ o → option_map (view d.weight) o ≡ Some v → v.residual < v.weight
    by_unit d at None none is = absurd (cc)
    by_unit d at (Some x) there is = (let e : view d.weight x ≡ v = some_same is in subst (λ (y : View). y.residual < y.weight) e (ready.cut u.dom.0 u.n d x at there))

    by_domain : (o : Option Credit2Domain) → at_place records.domains u.dom.0 ≡ o → of_domain u.n o ≡ Some v → v.residual < v.weight
    by_domain None none is = absurd (cc)
    by_domain (Some d) at is = by_unit d at (slice_get d.units u.n) refl is

with_records : (ask : Ask) (s : Scheduler) (records : Records) → s.records ≡ records → IsReadyTo ask s records → ((w : UnitId) → has_listed_unit s.queue w ≡ true → is_unit ask.cur w ≡ false) → KeptOnce s.records → frees ask s ≡ false → Spares ask s
with_records ask s (Credit2Pool records) is ready waits_not once calm =
    subst (λ (r : Records). frees ask (record { queue = s.queue; affinity = s.affinity; records = r }) ≡ false → Spares ask (record { queue = s.queue; affinity = s.affinity; records = r })) (sym is)
    (λ calm2. credit2_spares ask s.queue s.affinity records waits_not ready.waits ready.own ready.cut calm2) calm
with_records ask s (RtdsPool domains) is ready waits_not once calm =
    subst (λ (r : Records). Spares ask (record { queue = s.queue; affinity = s.affinity; records = r })) (sym is) (rtds_spares ask s.queue s.affinity domains waits_not)
with_records ask s (ArincPool records) is ready waits_not once calm =
    subst (λ (r : Records). frees ask (record { queue = s.queue; affinity = s.affinity; records = r }) ≡ false → Spares ask (record { queue = s.queue; affinity = s.affinity; records = r })) (sym is)
    (λ calm2. arinc_spares ask s.queue s.affinity records (λ u some. allowed records u some calm2)) calm
  where
    allowed : (records : _) (u : UnitId) → (decision_of ask (record { queue = s.queue; affinity = s.affinity; records = ArincPool records })).unit ≡ Some u
        → frees ask (record { queue = s.queue; affinity = s.affinity; records = ArincPool records }) ≡ false → is_unit_allowed s ask.home.0 ask.core.0 u ≡ true
    allowed records u some calm2 = not_false (is_unit_allowed s ask.home.0 ask.core.0 u) (sym (ap (λ (o : Option UnitId). elim o as (λ _. Bool) [ None ↦ false | Some x ↦ not (is_unit_allowed s ask.home.0 ask.core.0 x) ]) some) ∙ calm2)
with_records ask s (NullPool kept) is ready waits_not once calm =
    subst (λ (r : Records). KeptOnce r → frees ask (record { queue = s.queue; affinity = s.affinity; records = r }) ≡ false → Spares ask (record { queue = s.queue; affinity = s.affinity; records = r })) (sym is)
    (λ once2 calm2. null_spares ask s.queue s.affinity kept once2 calm2) once calm

module _ (g t r : ℕ) (c : Resource) (pool : Pool) (at : at_place pool.resources r ≡ Some c) (known : IsKnownPool g pool) (ready : AreReadyBy pool.scheduler.records pool) where
  is_cur : (u : UnitId) (e : Resource) → e.cur ≡ Some u → 1 ≤ core_places u e
  is_cur u e is = (let b : one_at u e.cur ≡ 1 = ap (one_at u) is ∙ one_same u in omega (arith, b))

  own_waits_not : (w : UnitId) → has_listed_unit pool.scheduler.queue w ≡ true → is_unit c.cur w ≡ false
  own_waits_not w waits = false_if (is_unit c.cur w) (λ own.
      let a = total_at (core_places w) r c pool.resources at in
      let b = times_some w pool.scheduler.queue waits in
      let m = known.one.most w in
      let n = is_cur w c (is_unit_same c.cur w own) in
      omega (arith, a, b, m, n))

  known_by : (k : ℕ) (y : Resource) (x : UnitId) → at_place pool.resources k ≡ Some y → y.cur ≡ Some x → (r : Records) → AreReadyBy r pool → (records : Credit2Records) → r ≡ Credit2Pool records → HasRecord records x
  known_by k y x at_k is (Credit2Pool own) are records same = (let e : own ≡ records = cc in subst (λ (z : Credit2Records). HasRecord z x) e (are.runs k y x at_k is))
  known_by k y x at_k is (RtdsPool domains) are records same = absurd (cc)
  known_by k y x at_k is (ArincPool own) are records same = absurd (cc)
  known_by k y x at_k is (NullPool kept) are records same = absurd (cc)

  ready_to : (records : Records) → AreReadyBy records pool → IsReadyTo (core_ask g t pool r c) pool.scheduler records
  ready_to (Credit2Pool records) are = record { waits = are.waits; own = λ u is. are.runs r c u at is; cut = cut_view pool.scheduler.queue pool.resources records are }
  ready_to (RtdsPool domains) are = tt
  ready_to (ArincPool records) are = tt
  ready_to (NullPool kept) are = tt

  apart : (k : ℕ) (y : Resource) (x : UnitId) → k ≢ r → at_place pool.resources k ≡ Some y → y.cur ≡ Some x → Apart (core_ask g t pool r c) pool.scheduler x
  apart k y x other at_k is = record {
    other = false_if (is_unit c.cur x) (λ own.
        let a = total_two (core_places x) r k c y pool.resources (λ same. other (sym same)) at at_k in
        let m = known.one.most x in
        let n = is_cur x c (is_unit_same c.cur x own) in
        let o = is_cur x y is in
        omega (arith, a, m, n, o));
    known = λ records at_records. known_by k y x at_k is pool.scheduler.records ready records at_records;
    waits_not = false_if (has_listed_unit pool.scheduler.queue x) (λ waits.
        let a = total_at (core_places x) k y pool.resources at_k in
        let b = times_some x pool.scheduler.queue waits in
        let m = known.one.most x in
        let o = is_cur x y is in
        omega (arith, a, b, m, o));
  }

  pub decides : KeptOnce pool.scheduler.records → frees (core_ask g t pool r c) pool.scheduler ≡ false → IsSettled t pool → IsSettled t (after_in g t pool (Decide (core r)))
  decides once calm settled =
      subst (λ (o : Option Resource). IsSettled t (elim o as (λ _. Pool) [ None ↦ pool | Some x ↦ after_decide g t r x pool ])) (sym at)
      (spared g t r c pool at apart (with_records (core_ask g t pool r c) pool.scheduler pool.scheduler.records refl (ready_to pool.scheduler.records ready) own_waits_not once calm) settled)
