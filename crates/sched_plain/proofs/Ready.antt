-- What the law of decisions asks of a pool holds of every pool of a state that a run leads to.
use Rattle.std.proofs.Common.{◌≡◌, ◌≤◌, ◌<◌, ◌+◌, ◌-◌, ◌*◌, ◌/◌, ℕ, suc, true, refl, sym, ap, subst, ◌∙◌, arith, inl, inr, length}
use Rattle.std.specs.Prelude.{Some, None, is_none}
use Rattle.std.proofs.Math.Nat.{le-div_iff_mul-le, suc-mul}
use Rattle.sched_base.proofs.Lists.{each_get}
use Rattle.sched_base.specs.declared.UnitId.{UnitId}
use Rattle.sched_model.specs.declared.config.DomConfig.{DomConfig}
use Rattle.sched_model.specs.declared.machine.Machine.{Machine}
use Rattle.sched_model.specs.declared.state.Credit2Records.{Credit2Records}
use Rattle.sched_model.specs.declared.state.Domain.{Domain}
use Rattle.sched_model.specs.declared.state.Pool.{Pool}
use Rattle.sched_model.specs.declared.state.Records.{Records}
use Rattle.sched_model.specs.declared.state.Records.TheVariants.{Credit2Pool, RtdsPool, ArincPool, NullPool}
use Rattle.sched_model.specs.declared.state.State.{State}
use Rattle.sched_model.specs.Places.{at_place, has_listed_unit}
use Rattle.sched_model.specs.Opening.{machine_core_count}
use Rattle.sched_model.specs.Pool.{domain_unit_count}
use Rattle.sched_model.specs.Runs.{Reached}
use Rattle.sched_laws.specs.EachPlace.{EachPlace}
use Rattle.sched_laws.specs.PoolFacts.{IfUnit, IsStaying, IsThere, core_places}
use Rattle.sched_laws.specs.Counts.{one_at}
use Rattle.sched_laws.proofs.Choices.{at_unit}
use Rattle.sched_laws.proofs.Counts.{times_some, total_at}
use Rattle.sched_laws.proofs.Lists.{item_below, some-test_at, some_same, test_at-some}
use Rattle.sched_laws.proofs.OnePlace.{one_same}
use Rattle.sched_laws.proofs.NullKept.{kept_of}
use Rattle.sched_laws.proofs.Reached.{null_fits}
use Rattle.sched_laws.proofs.SiblingsLaw.{some_processor}
use Rattle.state_ranges.specs.Ranges.{IsUnitOf}
use Rattle.state_ranges.specs.Records.{HasRecords, HasCredit2Record, IsRecorded}
use Rattle.state_ranges.specs.Fits.{Credit2Fits, UnitFits}
use Rattle.state_ranges.proofs.BudgetWalk.{WholePool}
use Rattle.state_ranges.proofs.RecordRanges.{RecordsFit}
use Rattle.state_ranges.proofs.RangesLaw.{StateFits, fits_in_runs}
use Rattle.state_ranges.proofs.RecordsLaw.{has_records}
use Rattle.settle_laws.specs.Kept.{KeptOnce}
use Rattle.settle_laws.specs.Ready.{AreReadyBy, HasRecord}
use Rattle.sched_plain.specs.ReachedStates.{Stands}
use Rattle.sched_plain.specs.SettledPools.{MayDecide}

-- the unit's number is below that of its domain's units
unit_low : (n g vcpus : ℕ) → 0 < g → n * g < vcpus → n < (vcpus + g - 1) / g
unit_low n g vcpus some low =
    let m : suc n * g ≡ n * g + g = suc-mul n g in
    let within : suc n * g ≤ vcpus + g - 1 = omega (arith, low, some, m) in
    let r : suc n ≤ (vcpus + g - 1) / g = (le-div_iff_mul-le some).1 within in
    omega (arith, r)

module _ (m : Machine) (s : State) (stands : Stands m s) (i : ℕ) (pool : Pool) (at : at_place s.pools i ≡ Some pool) where
  whole : WholePool m s.now pool
  whole = (subst (λ (from : Reached). StateFits m from.state) stands.reached.leads (fits_in_runs m stands.checked stands.reached.entries stands.reached.run)).pools i pool at

  has : HasRecords m.config.granularity pool
  has = subst (λ (from : Reached). EachPlace (HasRecords m.config.granularity) from.state.pools) stands.reached.leads (has_records m stands.checked stands.reached.entries stands.reached.run) i pool at

  -- a unit of a domain of the pool has a record
  recorded : (records : Credit2Records) → pool.scheduler.records ≡ Credit2Pool records → (u : UnitId) → IsThere pool.domains u → IsUnitOf m u → HasRecord records u
  recorded records is u there unit =
      let d = some-test_at pool.domains u.dom.0 (λ x. true) there in
      let of : HasCredit2Record records u.dom.0 (domain_unit_count m.config.granularity d.0) = subst (λ (r : Records). IsRecorded r u.dom.0 (domain_unit_count m.config.granularity d.0)) is (has.recorded u.dom.0 d.0 d.1) in
      let fit = whole.fits.domains u.dom.0 d.0 d.1 in
      let config : unit.config ≡ fit.config = some_same (sym unit.at ∙ fit.at) in
      let inside : u.n * m.config.granularity < length d.0.vcpus = subst (λ (k : ℕ). u.n * m.config.granularity < k) (ap (λ (x : DomConfig). length x.guests) config ∙ sym fit.count) unit.inside in
      let low : u.n < domain_unit_count m.config.granularity d.0 = unit_low u.n m.config.granularity (length d.0.vcpus) (some_processor m.config.granularity stands.checked.config.granularity) inside in
      let e = of.units in
      let x = item_below of.domain.units u.n (omega (arith, low, e)) in
      record { domain = of.domain; unit = x.0; at = of.at; there = x.1 }

  -- one that waits does not run
  off : (records : Credit2Records) → pool.scheduler.records ≡ Credit2Pool records → (u : UnitId) → has_listed_unit pool.scheduler.queue u ≡ true → (of : HasRecord records u) → of.unit.burned ≡ None
  off records is u waits of = elim ((whole.credit records is).runs u.dom.0 of.domain of.at u.n of.unit of.there) [
    | inl none ↦ none
    | inr on ↦ absurd (
        let a = total_at (core_places u) on.0 on.1 pool.resources on.2 in
        let own = on.3 in
        let b : one_at u on.1.cur ≡ 1 = ap (one_at u) own ∙ one_same u in
        let most = whole.known.one.most u in
        let c = times_some u pool.scheduler.queue waits in
        omega (arith, a, b, c, most))
  ]

  units_ready : (records : Records) → pool.scheduler.records ≡ records → AreReadyBy records pool
  units_ready (Credit2Pool records) is = record {
    waits = λ u waits.
        let stays = some-test_at pool.domains u.dom.0 (λ (d : Domain). is_none d.moving) (at_unit (IsStaying pool.domains) u pool.scheduler.queue waits whole.known.own.queue) in
        let of = recorded records is u (test_at-some pool.domains u.dom.0 (λ d. true) stays.0 stays.1 refl) (at_unit (IsUnitOf m) u pool.scheduler.queue waits whole.fits.queue) in
        record { known = of; off = off records is u waits of };
    runs = λ r c u at_r own. recorded records is u
        (subst (IfUnit (IsThere pool.domains)) own (whole.known.own.cores r c at_r).cur)
        (subst (IfUnit (IsUnitOf m)) own (whole.fits.cores r c at_r).cur);
    cut = λ k n d x at_k there.
        let fits : Credit2Fits (length m.config.domains) s.now records = subst (RecordsFit (length m.config.domains) (machine_core_count m.config) s.now) is whole.fits.records in
        (each_get (UnitFits s.now d.weight) d.units n x (fits.domains k d at_k).units there).residual;
  }
  units_ready (RtdsPool domains) is = tt
  units_ready (ArincPool records) is = tt
  units_ready (NullPool kept) is = tt

  kept_once : (records : Records) → pool.scheduler.records ≡ records → KeptOnce records
  kept_once (Credit2Pool records) is = tt
  kept_once (RtdsPool domains) is = tt
  kept_once (ArincPool records) is = tt
  kept_once (NullPool kept) is = λ q r u a b.
      (null_fits m stands.checked stands.reached.entries stands.reached.run i pool
      (subst (λ (from : Reached). at_place from.state.pools i ≡ Some pool) (sym stands.reached.leads) at) kept (ap kept_of is)).once q r u a b

  pub may_decide : MayDecide m.config.granularity pool
  may_decide = record { known = whole.known; units = units_ready pool.scheduler.records refl; once = kept_once pool.scheduler.records refl }
