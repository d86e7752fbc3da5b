-- What a state tells of a domain, read from the pool that has it.
use Rattle.term_laws.proofs.Beginning.{home_pool_of}
use Rattle.std.proofs.Common.{◌≡◌, ◌≢◌, ◌<◌, ◌≤◌, ◌+◌, ◌-◌, ◌*◌, ◌/◌, ℕ, suc, Bool, true, false, length, refl, arith, ap, subst, sym, ◌∙◌, cond}
use Rattle.std.specs.Prelude.{Option, Some, None, slice_get, unwrap_or, ◌==◌}
use Rattle.std.proofs.Math.Decide.{ℕ_discrete}
use Rattle.std.proofs.lemmas.Nat.{le-div}
use Rattle.std.proofs.lemmas.Bool.{eq-eqb, and_from}
use Rattle.sched_base.specs.declared.Moment.{Moment}
use Rattle.sched_base.specs.declared.UnitId.{UnitId}
use Rattle.sched_model.specs.declared.machine.Machine.{Machine}
use Rattle.sched_model.specs.declared.state.State.{State}
use Rattle.sched_model.specs.declared.state.Pool.{Pool}
use Rattle.sched_model.specs.declared.state.Resource.{Resource}
use Rattle.sched_model.specs.declared.state.Credit2Unit.{Credit2Unit}
use Rattle.sched_model.specs.declared.state.Credit2Domain.{Credit2Domain}
use Rattle.sched_model.specs.declared.state.Credit2Records.{Credit2Records}
use Rattle.sched_model.specs.declared.state.Records.{Records}
use Rattle.sched_model.specs.declared.state.Records.TheVariants.{Credit2Pool}
use Rattle.sched_model.specs.Places.{at_place, test_at}
use Rattle.sched_model.specs.CheckedMachine.{IsChecked}
use Rattle.sched_model.specs.Opening.{machine_core_count}
use Rattle.sched_model.specs.Policy.{domain_credit2_record}
use Rattle.sched_model.specs.Actions.{home_pool_of_core, home_pool_of_domain}
use Rattle.sched_model.specs.Runs.{Reached}
use Rattle.sched_laws.specs.EachPlace.{EachPlace}
use Rattle.sched_laws.proofs.Choices.{same_unit_same}
use Rattle.sched_laws.specs.PoolFacts.{IfUnit}
use Rattle.sched_laws.proofs.Counts.{total_two}
use Rattle.sched_laws.specs.Counts.{one_at}
use Rattle.sched_laws.proofs.EachPlace.{by_option, place_below, is_empty}
use Rattle.sched_laws.proofs.Kept.{IsApart}
use Rattle.sched_laws.proofs.Lists.{item_below}
use Rattle.sched_laws.proofs.OnePlace.{one_same}
use Rattle.sched_laws.specs.PoolFacts.{core_places}
use Rattle.sched_laws.specs.PoolFacts.{UnitsAreOwn, IsThere}
use Rattle.sched_laws.proofs.SiblingsLaw.{some_processor}
use Rattle.state_ranges.specs.Ranges.{IsUnitOf}
use Rattle.state_ranges.specs.Budgets.{BudgetFits, Nobody}
use Rattle.state_ranges.proofs.BudgetWalk.{CountIs}
use Rattle.state_ranges.proofs.RangesLaw.{StateFits, fits_in_runs}
use Rattle.state_ranges.specs.Records.{HasRecords}
use Rattle.state_ranges.proofs.RecordsLaw.{has_records}
use Rattle.term_laws.specs.Term.{core_in}
use Rattle.term_laws.proofs.Same.{cur_in}
use Rattle.sched_laws.proofs.PoolsLaw.{home_is as domain_home}
use Rattle.term_laws.proofs.ActsIn.{core_is_in, has_domain, one_home}
use Rattle.term_laws.proofs.ReachedStates.{IsReached, Known, knows}
use Rattle.term_laws.specs.CapTerm.{credit2_in}
use Rattle.term_laws.proofs.CapTracks.{number_in, on_core, due_at}
use Rattle.term_laws.proofs.StepsDomain.{ArePast}
use Rattle.term_laws.proofs.Same.{due_in}

-- what is known of a state that a run leads to
pub record Stands (m : Machine) (s : State) : Type 0 where
  pub known : Known m s
  pub fit : StateFits m s
  pub records : EachPlace (HasRecords m.config.granularity) s.pools

pub stands : (m : Machine) → IsChecked m → (s : State) → IsReached m s → Stands m s
stands m checked s r = record {
  known = knows m checked s r;
  fit = subst (StateFits m) (ap (λ (x : Reached). x.state) r.leads) (fits_in_runs m checked r.before r.run);
  records = subst (λ (x : State). EachPlace (HasRecords m.config.granularity) x.pools) (ap (λ (x : Reached). x.state) r.leads) (has_records m checked r.before r.run);
}

-- the pool that has the domain
pub record HomeOf (d : ℕ) (s : State) : Type 0 where
  pub home : ℕ
  pub pool : Pool
  pub at : at_place s.pools home ≡ Some pool
  pub there : test_at pool.domains d (λ x. true) ≡ true

pub home_here : (m : Machine) (s : State) (d : ℕ) → Known m s → d < length m.config.domains → HomeOf d s
home_here m s d k low =
    let h = k.housed.domains d low in
    let p = home_pool_of (at_place s.pools h.0) d h.1 in
    record { home = h.0; pool = p.0; at = p.1; there = p.2 }

-- the unit that is numbered
pub unit_of_number : (d n : ℕ) (o : Option UnitId) → number_in d o ≡ Some n → (u : UnitId) × (o ≡ Some u) × (u.dom.0 ≡ d) × (u.n ≡ n)
unit_of_number d n None is = absurd (cc)
unit_of_number d n (Some u) is = go (u.dom.0 == d) refl is
  where
    go : (b : Bool) → (u.dom.0 == d) ≡ b → cond b (Some u.n) None ≡ Some n → (v : UnitId) × (Some u ≡ Some v) × (v.dom.0 ≡ d) × (v.n ≡ n)
    go true same is2 = (u, refl, grind (arith, same), cc)
    go false same is2 = absurd (cc)

pub same_units : (u v : UnitId) → u.dom.0 ≡ v.dom.0 → u.n ≡ v.n → u ≡ v
same_units u v a b = same_unit_same u v (and_from (u.dom.0 == v.dom.0) (u.n == v.n) (eq-eqb u.dom.0 v.dom.0 a) (eq-eqb u.n v.n b))

pub on_core_cur : (s : State) (d r : ℕ) → on_core s d r ≡ number_in d (cur_in (core_in s r))
on_core_cur s d r = go (core_in s r)
  where
    go : (o : Option Resource) → elim o as (λ _. Option ℕ) [ None ↦ None | Some c ↦ number_in d c.cur ] ≡ number_in d (cur_in o)
    go None = refl
    go (Some c) = refl

-- a core of another pool than the domain's has none of its units
pub no_unit_there : (s : State) (d i k r : ℕ) (p q : Pool) (c : Resource) → IsApart s → at_place s.pools i ≡ Some p → test_at p.domains d (λ x. true) ≡ true → at_place s.pools k ≡ Some q → UnitsAreOwn q → at_place q.resources r ≡ Some c → k ≢ i → number_in d c.cur ≡ None
no_unit_there s d i k r p q c apart at there at_k own has ne = is_empty (number_in d c.cur) (λ n is. (
    let u = unit_of_number d n c.cur is in
    let in_q : IsThere q.domains u.0 = subst (IfUnit (IsThere q.domains)) u.1 (own.cores r c has).cur in
    ne (one_home s k i q p d apart at_k at (subst (λ e. test_at q.domains e (λ x. true) ≡ true) u.2 in_q) there)))

module _ (m : Machine) (s : State) (k : Known m s) (d i : ℕ) (p : Pool) (at : at_place s.pools i ≡ Some p) (there : test_at p.domains d (λ x. true) ≡ true) where
  pub home_is : home_pool_of_domain s d ≡ Some i
  home_is = domain_home s i d k.apart (has_domain s i d p at there)

  -- what is read of the records of the domain's pool
  pub record_is : (X : Type 0) (f : Records → Option X) → elim (home_pool_of_domain s d) as (λ _. Option X) [ None ↦ None | Some j ↦ elim (at_place s.pools j) as (λ _. Option X) [ None ↦ None | Some pool ↦ f pool.scheduler.records ] ] ≡ f p.scheduler.records
  record_is X f =
      ap (λ (o : Option ℕ). elim o as (λ _. Option X) [ None ↦ None | Some j ↦ elim (at_place s.pools j) as (λ _. Option X) [ None ↦ None | Some pool ↦ f pool.scheduler.records ] ]) home_is
      ∙ ap (λ (o : Option Pool). elim o as (λ _. Option X) [ None ↦ None | Some pool ↦ f pool.scheduler.records ]) at

  pub credit2_is : credit2_in s d ≡ domain_credit2_record p.scheduler.records d
  credit2_is = record_is Credit2Domain (λ (records : Records). domain_credit2_record records d)

  -- the core of the pool, and one of another pool or of none
  cur_is : (r : ℕ) → number_in d (cur_in (core_in s r)) ≡ number_in d (cur_in (at_place p.resources r))
  cur_is r =
      elim (at_place p.resources r) as (λ o. at_place p.resources r ≡ o → number_in d (cur_in (core_in s r)) ≡ number_in d (cur_in o)) [
        | Some c ↦ λ is. ap (λ (o : Option Resource). number_in d (cur_in o)) (core_is_in s i r p c k.apart at is)
        | None ↦ λ is. by_option (λ (o : Option Resource). number_in d (cur_in o) ≡ None) (home_pool_of_core s r) None _ (λ none. refl)
            (λ j found. by_option (λ (o : Option Resource). number_in d (cur_in o) ≡ None) (at_place s.pools j) None (λ q. at_place q.resources r) (λ none. refl)
            (λ q at_j. elsewhere is j q at_j (at_place q.resources r) refl))
      ] refl
    where
      elsewhere : at_place p.resources r ≡ None → (j : ℕ) (q : Pool) → at_place s.pools j ≡ Some q → (o : Option Resource) → at_place q.resources r ≡ o → number_in d (cur_in o) ≡ None
      elsewhere none j q at_j None is = refl
      elsewhere none j q at_j (Some c) is =
          no_unit_there s d i j r p q c k.apart at there at_j (k.own j q at_j) is (λ e. (
          let at2 : at_place s.pools i ≡ Some q = subst (λ n. at_place s.pools n ≡ Some q) e at_j in
          let same : Some p ≡ Some q = sym at ∙ at2 in
          let e2 : p ≡ q = cc in
          let e3 : None ≡ Some c = sym none ∙ ap (λ (x : Pool). at_place x.resources r) e2 ∙ is in
          cc))

  pub on_is : (r : ℕ) → on_core s d r ≡ number_in d (cur_in (at_place p.resources r))
  on_is r = on_core_cur s d r ∙ cur_is r

  pub due_is : (r n : ℕ) → number_in d (cur_in (at_place p.resources r)) ≡ Some n → due_at s r ≡ due_in (at_place p.resources r)
  due_is r n is =
      elim (at_place p.resources r) as (λ o. at_place p.resources r ≡ o → number_in d (cur_in o) ≡ Some n → due_at s r ≡ due_in o) [
        | None ↦ λ none is2. absurd (cc)
        | Some c ↦ λ has is2. ap (λ (o : Option Resource). elim o as (λ _. Option Moment) [ None ↦ None | Some x ↦ x.due ]) (core_is_in s i r p c k.apart at has)
      ] refl is

  -- no unit is on two cores, and cores are those of the machine
  pub on_one : (r n j : ℕ) → number_in d (cur_in (at_place p.resources r)) ≡ Some j → number_in d (cur_in (at_place p.resources n)) ≡ Some j → r ≡ n
  on_one r n j on_r on_n =
      elim (ℕ_discrete r n) [
        | yes e ↦ e
        | no ne ↦ absurd (two (at_place p.resources r) (at_place p.resources n) refl refl on_r on_n ne)
      ]
    where
      two : (o o2 : Option Resource) → at_place p.resources r ≡ o → at_place p.resources n ≡ o2 → number_in d (cur_in o) ≡ Some j → number_in d (cur_in o2) ≡ Some j → r ≢ n → ⊥
      two None o2 is is2 a b ne = cc
      two (Some c) None is is2 a b ne = cc
      two (Some c) (Some e) is is2 a b ne =
          let u = unit_of_number d j c.cur a in
          let v = unit_of_number d j e.cur b in
          let same : v.0 ≡ u.0 = same_units v.0 u.0 (v.2 ∙ sym u.2) (v.3 ∙ sym u.3) in
          let sum = total_two (core_places u.0) r n c e p.resources ne is is2 in
          let one_c : one_at u.0 c.cur ≡ 1 = ap (λ (o : Option UnitId). one_at u.0 o) u.1 ∙ one_same u.0 in
          let one_e : one_at u.0 e.cur ≡ 1 = ap (λ (o : Option UnitId). one_at u.0 o) (v.1 ∙ ap (λ (w : UnitId). Some w) same) ∙ one_same u.0 in
          let most = (k.one i p at).most u.0 in
          omega (arith, sum, one_c, one_e, most)

  pub on_low : (r n : ℕ) → number_in d (cur_in (at_place p.resources r)) ≡ Some n → r < machine_core_count m.config
  on_low r n is =
      elim (at_place p.resources r) as (λ o. at_place p.resources r ≡ o → number_in d (cur_in o) ≡ Some n → r < machine_core_count m.config) [
        | None ↦ λ none is2. absurd (cc)
        | Some c ↦ λ has is2. (let low = place_below p.resources r c has in let count = (k.range.pools i p at).core_places in omega (arith, low, count))
      ] refl is

-- the records of Credit2
pub credit2_pool : (records : Records) (d : ℕ) (x : Credit2Domain) → domain_credit2_record records d ≡ Some x → (own : Credit2Records) × (records ≡ Credit2Pool own) × (at_place own.domains d ≡ Some x)
credit2_pool (Credit2Pool own) d x is = (own, refl, is)
credit2_pool records d x is = absurd (cc)

module _ (m : Machine) (checked : IsChecked m) (s : State) (k : Stands m s) (d i : ℕ) (p : Pool) (at : at_place s.pools i ≡ Some p) (x : Credit2Domain) (is : domain_credit2_record p.scheduler.records d ≡ Some x) where
  budget_fits : BudgetFits s.now (CountIs m d) Nobody Nobody x
  budget_fits = (let own = credit2_pool p.scheduler.records d x is in ((k.fit.pools i p at).credit own.0 own.1).budgets d x own.2)

  -- no unit was charged after now
  pub are_past : ArePast s.now x.units
  are_past n b z has burned = subst (λ (o : Option ℕ). unwrap_or o s.now ≤ s.now) burned (budget_fits.units n z has).last

  -- a unit that a core has is recorded
  pub is_recorded : (r n : ℕ) → number_in d (cur_in (at_place p.resources r)) ≡ Some n → (z : Credit2Unit) × (slice_get x.units n ≡ Some z)
  is_recorded r n on = by_core (at_place p.resources r) refl on
    where
      inside : (u : UnitId) → (unit : IsUnitOf m u) → u.n < (length unit.config.guests + m.config.granularity - 1) / m.config.granularity
      inside u unit =
          let g : ℕ = m.config.granularity in
          let some = some_processor g checked.config.granularity in
          let within = unit.inside in
          let spread : suc u.n * g ≡ u.n * g + g = grind arith in
          le-div (suc u.n) (length unit.config.guests + g - 1) g some (omega (arith, within, spread))

      by_core : (o : Option Resource) → at_place p.resources r ≡ o → number_in d (cur_in o) ≡ Some n → (z : Credit2Unit) × (slice_get x.units n ≡ Some z)
      by_core None none on2 = absurd (cc)
      by_core (Some c) has on2 =
          let u = unit_of_number d n c.cur on2 in
          let unit : IsUnitOf m u.0 = subst (IfUnit (IsUnitOf m)) u.1 ((k.fit.pools i p at).fits.cores r c has).cur in
          let config : slice_get m.config.domains d ≡ Some unit.config = subst (λ (e : ℕ). slice_get m.config.domains e ≡ Some unit.config) u.2 unit.at in
          let count = budget_fits.count unit.config config in
          let low = inside u.0 unit in
          let number = u.3 in
          item_below x.units n (omega (arith, low, count, number))
