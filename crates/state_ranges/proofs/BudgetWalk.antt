-- What each step of a Credit2 pool keeps of its budgets, and of which units run.
use Rattle.std.proofs.Common.{◌≡◌, ◌<◌, ℕ, true, false, List, refl, subst, sym, ◌∙◌, ap, ◌⊎◌, inl, inr, Bool, zero, suc, not, ◌≤◌, ◌+◌, ◌-◌, ◌*◌, ◌/◌, arith, length}
use Rattle.std.specs.Prelude.{Option, Some, None, length, replicate, ◌&&◌, ◌*◌, ◌+◌, ◌/◌, is_none, slice_get, unwrap_or, pos}
use Rattle.sched_base.specs.Numbers.{moment, domain as domain_number, pool as pool_number, span, core as core_number}
use Rattle.sched_base.specs.declared.Moment.{Moment}
use Rattle.sched_base.specs.declared.UnitId.{UnitId}
use Rattle.sched_model.specs.declared.config.ParamChange.{ParamChange}
use Rattle.sched_model.specs.declared.config.ParamChange.TheVariants as changes
use Rattle.sched_model.specs.declared.config.DomParams.{DomParams}
use Rattle.sched_model.specs.declared.config.DomParams.TheVariants as dom_params
use Rattle.sched_model.specs.Credit2 as credit2
use Rattle.sched_model.specs.declared.config.PoolParams.{PoolParams}
use Rattle.sched_model.specs.declared.config.PoolParams.TheVariants as pool_params
use Rattle.sched_model.specs.declared.state.Domain.{Domain}
use Rattle.sched_model.specs.declared.state.Resource.{Resource}
use Rattle.sched_model.specs.declared.state.Pool.{Pool}
use Rattle.sched_model.specs.declared.state.Credit2Records.{Credit2Records}
use Rattle.sched_model.specs.declared.state.Records.{Records}
use Rattle.sched_model.specs.declared.state.Records.TheVariants.{Credit2Pool, RtdsPool, ArincPool, NullPool}
use Rattle.sched_model.specs.declared.action.Action.TheVariants.{Moved}
use Rattle.sched_model.specs.Places.{at_place, put_at, clear_at, change_at, numbers_from}
use Rattle.sched_model.specs.Opening.{joined_core, machine_core_count}
use Rattle.sched_model.specs.Policy as policy
use Rattle.sched_model.specs.Policy.{unit_rtds_record, changed_records, joined_records, parted_records, empty_records, decision_of, decision_by, standard_dom_params, standard_pool_params}
use Rattle.sched_model.specs.Pool as pools
use Rattle.sched_model.specs.Pool.{enabled_in, change_core, change_domain, changed_pool, pool_without_domain, pool_with_domain, is_gathering, is_first_processor_up, decided_core, same_choice, core_ask}
use Rattle.sched_laws.proofs.EachPlace.{EachPlace-empty, by_option, by_test, at_place-put_at, at_place-put_at_other, at_place-clear_at_other, place_below, EachAt-clear_at, EachAt-put_at}
use Rattle.sched_laws.proofs.Lists.{some-test_at}
use Rattle.sched_base.proofs.Lists.{AllByRecursion-map}
use Rattle.sched_laws.proofs.Kept.{IsKept}
use Rattle.sched_laws.proofs.Sound.{none_is}
use Rattle.sched_laws.proofs.Known.{known_pools}
use Rattle.sched_laws.specs.PoolFacts.{IsKnownPool}
use Rattle.sched_base.proofs.Bools.{and_left, and_right}
use Rattle.std.proofs.lemmas.Nat.{le-div}
use Rattle.sched_base.specs.declared.Span.{Span}
use Rattle.sched_base.specs.Credit2Numbers.{start_credit}
use Rattle.sched_model.specs.declared.machine.Machine.{Machine}
use Rattle.sched_model.specs.declared.config.DomConfig.{DomConfig}
use Rattle.sched_model.specs.declared.ask.Ask.{Ask}
use Rattle.sched_model.specs.declared.state.Credit2Unit.{Credit2Unit}
use Rattle.sched_model.specs.declared.state.Credit2Domain.{Credit2Domain}
use Rattle.sched_model.specs.EligibleUnits.{Decision}
use Rattle.sched_model.specs.CheckedMachine.{IsChecked}
use Rattle.sched_model.specs.Commands.{pool_with_rtds_unit}
use Rattle.sched_model.specs.Credit2.{has_domain_budget}
use Rattle.sched_laws.proofs.Choices.{decision_has}
use Rattle.sched_laws.specs.PoolFacts.{IfUnit}
use Rattle.sched_laws.proofs.Counts.{total_at}
use Rattle.sched_laws.specs.Counts.{times, one_at}
use Rattle.sched_laws.proofs.OnePlace.{one_same, both_of, there_each, same_choice_same}
use Rattle.sched_laws.specs.PoolFacts.{OnePlace, core_places}
use Rattle.sched_laws.proofs.Fits.{ChangeFits}
use Rattle.sched_laws.proofs.Records.{same_joined, same_decision}
use Rattle.sched_laws.proofs.Events.{LikePlaces, like_change_at, capped, like_of_domain, like_is, like_map, KeepsCore, KeptByCommands, KeptByParts, commands_of, kept_settled, kept_processor, kept_by_parts, kept_set_leaving, kept_withdrawn, kept_pause, kept_unpause, kept_marked, kept_queue_units}
use Rattle.sched_laws.proofs.Steps.{IsKeptAt}
use Rattle.state_ranges.specs.Ranges.{IsUnitOf}
use Rattle.state_ranges.proofs.RecordRanges.{ParamsInRange, default_fits}
use Rattle.state_ranges.proofs.RangesWalk.{DomFits, NearEnd, EndsFit, PoolFits, range_steps}
use Rattle.state_ranges.specs.Budgets.{BudgetFits, Nobody}
use Rattle.state_ranges.proofs.Budgets.{b_fresh, b_later}
use Rattle.state_ranges.proofs.Decided.{unit_rec, IsCur, choice_pays, decides_unit, decides_idle, s_refilled, s_set_domain, r_burn_cur, r_reset, r_take, r_switch_off, r_set_running, r_refilled, r_set_domain}
use Rattle.state_ranges.specs.Budgets.{None2, Budgets, RunsOnly, AllRunOnly}
use Rattle.sched_laws.proofs.Events.{SameCur, Stays}

-- the domain has as many units as its vCPUs make
abbrev pub CountIs : Machine → ℕ → ℕ → Type 0
CountIs m d k = (config : DomConfig) → slice_get m.config.domains d ≡ Some config → k ≡ (length config.guests + m.config.granularity - 1) / m.config.granularity

-- the unit is some core's own
abbrev pub OnCore : List (Option Resource) → ℕ → ℕ → Type 0
OnCore cores d n = (r : ℕ) × (c : Resource) × (at_place cores r ≡ Some c) × (c.cur ≡ Some (record { dom = domain_number d; n = n }))

pub record CreditOk (m : Machine) (t : ℕ) (records : Credit2Records) (cores : List (Option Resource)) : Type 0 where
  pub budgets : Budgets t (CountIs m) None2 None2 records
  pub runs : AllRunOnly (OnCore cores) records

-- the same of a pool with these records; nothing where it is not one of Credit2
abbrev pub CreditFits : Machine → ℕ → Records → List (Option Resource) → Type 0
CreditFits m t records cores = (own : Credit2Records) → records ≡ Credit2Pool own → CreditOk m t own cores

pub credit_fits : (m : Machine) (t : ℕ) (own : Credit2Records) (cores : List (Option Resource)) → CreditOk m t own cores → CreditFits m t (Credit2Pool own) cores
credit_fits m t own cores fits other is = (let e : own ≡ other = cc in subst (λ (k : Credit2Records). CreditOk m t k cores) e fits)

fits_stay : (m : Machine) (t : ℕ) (records : Records) (old new : List (Option Resource)) → Stays old new → CreditFits m t records old → CreditFits m t records new
fits_stay m t records old new stays fits own is =
    let before = fits own is in
    record {
      budgets = before.budgets;
      runs = λ d x at n y has. elim (before.runs d x at n y has) [
        | inl none ↦ inl none
        | inr on ↦ inr (let e = stays on.0 on.1 (record { dom = domain_number d; n = n }) on.2 on.3 in (on.0, e.0, e.1, e.2))
      ];
    }

fits_like : (m : Machine) (t : ℕ) (records : Records) (old new : List (Option Resource)) → LikePlaces SameCur old new → CreditFits m t records old → CreditFits m t records new
fits_like m t records old new like fits = fits_stay m t records old new (λ r c u at own. (let now = like_is SameCur old new r c like at in (now.0, now.1, now.2 ∙ own))) fits

-- whether it is Credit2
abbrev is_credit2 : Records → Bool
is_credit2 (Credit2Pool records) = true
is_credit2 records = false

joined_kind : (records : Records) (params : DomParams) (d count t : ℕ) → is_credit2 (joined_records records params d count t) ≡ is_credit2 records
joined_kind = same_joined is_credit2 (λ a b. refl) (λ a b. refl)

not_credit2 : (m : Machine) (t : ℕ) (records : Records) (cores : List (Option Resource)) → is_credit2 records ≡ false → CreditFits m t records cores
not_credit2 m t records cores other own is = absurd (let e : true ≡ false = sym (ap is_credit2 is) ∙ other in cc)

-- another core's own unit stays it
other_core : (t r : ℕ) (c : Resource) (pool : Pool) → at_place pool.resources r ≡ Some c → (decision : Decision) (d n : ℕ) → OnCore pool.resources d n → (IsCur c.cur d n → ⊥) → OnCore (put_at r (decided_core t decision c) pool.resources) d n
other_core t r c pool at decision d n on apart = (
  on.0,
  on.1,
  at_place-put_at_other r on.0 (decided_core t decision c) pool.resources (λ e. (
      let there : at_place pool.resources r ≡ Some on.1 = subst (λ k. at_place pool.resources k ≡ Some on.1) e on.2 in
      let same : on.1 ≡ c = cc in
      let own : c.cur ≡ Some (record { dom = domain_number d; n = n }) = subst (λ (x : Resource). x.cur ≡ Some (record { dom = domain_number d; n = n })) same on.3 in
      apart (subst (λ (o : Option UnitId). IsCur o d n) (sym own) (refl, refl)))) ∙ on.2,
  on.3,
)

-- a unit that waits does not run
waiting_is_off : (g : ℕ) (own : Credit2Records) (pool : Pool) (u : UnitId) → OnePlace g pool → AllRunOnly (OnCore pool.resources) own → 1 ≤ times u pool.scheduler.queue → (y : Credit2Unit) → unit_rec own u ≡ Some y → y.burned ≡ None
waiting_is_off g own pool u one runs waits y rec =
    by_option (λ (o : Option Credit2Unit). o ≡ Some y → y.burned ≡ None) (at_place own.domains u.dom.0) _ _ (λ none e. absurd (cc))
    (λ d at has. elim (runs u.dom.0 d at u.n y has) [
      | inl none ↦ none
      | inr on ↦ absurd (
          let a = total_at (core_places u) on.0 on.1 pool.resources on.2 in
          let own_u = on.3 in
          let b : one_at u on.1.cur ≡ 1 = rw own_u (one_same u) in
          let most = one.most u in
          omega (arith, waits, a, b, most))
    ]) rec

unit_inside : (m : Machine) → 0 < m.config.granularity → (u : UnitId) → (is : IsUnitOf m u) → u.n < (length is.config.guests + m.config.granularity - 1) / m.config.granularity
unit_inside m some u is =
    let g : ℕ = m.config.granularity in
    let within = is.inside in
    let spread : suc u.n * g ≡ u.n * g + g = grind arith in
    le-div (suc u.n) (length is.config.guests + g - 1) g some (omega (arith, within, spread))

fresh_off : (On : ℕ → Type 0) (weight percent units t : ℕ) → RunsOnly On (credit2.fresh_credit2_domain weight percent units t).units
fresh_off On weight percent units t n y at = inl (off units n y at)
  where
    off : (k n : ℕ) (y : Credit2Unit) → slice_get (replicate k (record { credit = pos start_credit; residual = 0; held = pos 0; burned = None })) n ≡ Some y → y.burned ≡ None
    off zero n y at = absurd (cc)
    off (suc k) zero y at = (let e : ◌≡◌ {A = Credit2Unit} (record { credit = pos start_credit; residual = 0; held = pos 0; burned = None }) y = cc in sym (ap (λ (z : Credit2Unit). z.burned) e))
    off (suc k) (suc n) y at = off k n y at

module _ (m : Machine) (some : 0 < m.config.granularity) (t : ℕ) where
  abbrev pub N : Pool → Type 0
  N pool = CreditFits m t pool.scheduler.records pool.resources

  n_replenish : (records : Records) (u : UnitId) (cores : List (Option Resource)) → CreditFits m t records cores → CreditFits m t (policy.records_after_replenish records t u) cores
  n_replenish (RtdsPool domains) u cores fits = not_credit2 m t (policy.records_after_replenish (RtdsPool domains) t u) cores refl
  n_replenish records u cores fits = fits

  n_refill : (records : Records) (d : ℕ) (cores : List (Option Resource)) → CreditFits m t records cores → CreditFits m t (policy.records_after_refill records t d) cores
  n_refill (Credit2Pool own) d cores fits = (let ok = fits own refl in credit_fits m t (credit2.refilled_pool t d own) cores (record { budgets = s_refilled t (CountIs m) d own ok.budgets; runs = r_refilled t (OnCore cores) d own ok.runs }))
  n_refill records d cores fits = fits

  n_parted : (records : Records) (d : ℕ) (cores : List (Option Resource)) → CreditFits m t records cores → CreditFits m t (parted_records records d) cores
  n_parted (Credit2Pool own) d cores fits = (
      let ok = fits own refl in
      credit_fits m t (record own { domains = clear_at d own.domains }) cores (record {
        budgets = EachAt-clear_at (λ d. BudgetFits t (CountIs m d) Nobody Nobody) d own.domains ok.budgets;
        runs = EachAt-clear_at (λ d (x : Credit2Domain). RunsOnly (OnCore cores d) x.units) d own.domains ok.runs;
      }))
  n_parted (RtdsPool domains) d cores fits = not_credit2 m t (parted_records (RtdsPool domains) d) cores refl
  n_parted (ArincPool records) d cores fits = fits
  n_parted (NullPool kept) d cores fits = not_credit2 m t (parted_records (NullPool kept) d) cores refl

  n_joined : (records : Records) (params : DomParams) (d count : ℕ) (cores : List (Option Resource)) → ParamsInRange params → CountIs m d count → CreditFits m t records cores → CreditFits m t (joined_records records params d count t) cores
  n_joined (Credit2Pool own) (dom_params.Credit2 weight percent) d count cores good counted fits = (
      let ok = fits own refl in
      credit_fits m t (record own { domains = put_at d (credit2.fresh_credit2_domain weight percent count t) own.domains }) cores (record {
        budgets = EachAt-put_at (λ d. BudgetFits t (CountIs m d) Nobody Nobody) d (credit2.fresh_credit2_domain weight percent count t) own.domains ok.budgets (b_fresh t (CountIs m d) weight percent count good.1 counted);
        runs = EachAt-put_at (λ d (x : Credit2Domain). RunsOnly (OnCore cores d) x.units) d (credit2.fresh_credit2_domain weight percent count t) own.domains ok.runs (fresh_off (OnCore cores d) weight percent count t);
      }))
  n_joined (Credit2Pool own) (dom_params.Rtds period budget extra) d count cores good counted fits = fits
  n_joined (Credit2Pool own) dom_params.Arinc653 d count cores good counted fits = fits
  n_joined (Credit2Pool own) dom_params.Null d count cores good counted fits = fits
  n_joined records params d count cores good counted fits = not_credit2 m t (joined_records records params d count t) cores (joined_kind records params d count t)

  n_changed : (records : Records) (change : ParamChange) (cores : List (Option Resource)) → ChangeFits change → CreditFits m t records cores → CreditFits m t (changed_records records change t) cores
  n_changed (Credit2Pool own) (changes.Dom d weight percent) cores good fits = (let ok = fits own refl in credit_fits m t (credit2.records_with_terms t d.0 weight percent own) cores (record { budgets = s_set_domain t (CountIs m) d.0 weight percent own good.1 ok.budgets; runs = r_set_domain t (OnCore cores) d.0 weight percent own ok.runs }))
  n_changed (Credit2Pool own) (changes.Rate limit) cores good fits = (let ok = fits own refl in credit_fits m t (record own { limit = limit }) cores (record { budgets = ok.budgets; runs = ok.runs }))
  n_changed (Credit2Pool own) (changes.«Unit» u period budget extra) cores good fits = fits
  n_changed (Credit2Pool own) (changes.Frame frame) cores good fits = fits
  n_changed (Credit2Pool own) (changes.Pin d unit set) cores good fits = fits
  n_changed records (changes.Frame frame) cores good fits = not_credit2 m t (changed_records records (changes.Frame frame) t) cores refl
  n_changed records change cores good fits = not_credit2 m t (changed_records records change t) cores refl

  n_unit_changed : (records : Records) (u : UnitId) (period budget : Span) (extra : Bool) (cores : List (Option Resource)) → CreditFits m t records cores → CreditFits m t (changed_records records (changes.«Unit» u period budget extra) t) cores
  n_unit_changed (RtdsPool domains) u period budget extra cores fits = not_credit2 m t (changed_records (RtdsPool domains) (changes.«Unit» u period budget extra) t) cores refl
  n_unit_changed records u period budget extra cores fits = fits

  n_change_core : (r : ℕ) (f : Resource → Resource) (pool : Pool) → ((c : Resource) → SameCur c (f c)) → N pool → N (change_core r f pool)
  n_change_core r f pool same fits = fits_like m t pool.scheduler.records pool.resources (change_at r f pool.resources) (like_change_at SameCur r f pool.resources (λ c. refl) (λ c at. same c)) fits

  -- a decision: the core's own unit stops, and the chosen one runs
  n_decide : (own : Credit2Records) (r : ℕ) (c : Resource) (pool : Pool) → pool.scheduler.records ≡ Credit2Pool own → at_place pool.resources r ≡ Some c → PoolFits m t pool → OnePlace m.config.granularity pool → CreditOk m t own pool.resources
      → (chosen : Option UnitId) → IfUnit (λ u. has_domain_budget (credit2.own_burned_records c.cur t own) u ≡ true) chosen → IfUnit (λ u. IsUnitOf m u × ((1 ≤ times u pool.scheduler.queue) ⊎ (c.cur ≡ Some u))) chosen
      → (decision : Decision) → decision ≡ credit2.credit2_decision_for (core_ask m.config.granularity t pool r c) pool.scheduler (credit2.own_burned_records c.cur t own) chosen → CreditFits m t decision.records (put_at r (decided_core t decision c) pool.resources)
  n_decide own r c pool is at fits one ok None pays may decision same =
      let ask : Ask = core_ask m.config.granularity t pool r c in
      subst (λ (d : Decision). CreditFits m t d.records (put_at r (decided_core t d c) pool.resources)) (sym same)
      (credit_fits m t (credit2.off_records c.cur (credit2.own_burned_records c.cur t own)) _ (record {
        budgets = decides_idle t (CountIs m) ask pool.scheduler own refl ok.budgets;
        runs = λ d x at2 n y has. elim (r_switch_off t (OnCore pool.resources) c.cur (credit2.own_burned_records c.cur t own) (r_burn_cur t (OnCore pool.resources) c.cur own ok.runs) d x at2 n y has) [
          | inl none ↦ inl none
          | inr on ↦ inr (other_core t r c pool at (record { unit = None; due = None; reset = 0; records = Credit2Pool (credit2.off_records c.cur (credit2.own_burned_records c.cur t own)) }) d n on.0 on.1)
        ];
      }))
  n_decide own r c pool is at fits one ok (Some u) pays may decision same =
      let ask : Ask = core_ask m.config.granularity t pool r c in
      let burned : Credit2Records = credit2.own_burned_records c.cur t own in
      let k : ℕ = credit2.reset_count t u burned in
      let taken : Credit2Records = credit2.change_domain u.dom.0 (credit2.domain_after_take u.n) (credit2.reset_records t k burned) in
      let d2 : Decision = credit2.credit2_decision_for ask pool.scheduler burned (Some u) in
      let off : (c.cur ≡ Some u) ⊎ ((y : Credit2Unit) → unit_rec own u ≡ Some y → y.burned ≡ None) = elim may.1 [
        | inr mine ↦ inl mine
        | inl waits ↦ inr (λ y rec. waiting_is_off m.config.granularity own pool u one ok.runs waits y rec)
      ] in
      let inside : (n : ℕ) → CountIs m u.dom.0 n → u.n < n = λ n count. (let w = unit_inside m some u may.0 in let e = count may.0.config may.0.at in omega (arith, w, e)) in
      subst (λ (d : Decision). CreditFits m t d.records (put_at r (decided_core t d c) pool.resources)) (sym same)
      (credit_fits m t (credit2.running_records (Some t) u (credit2.off_records c.cur taken)) (put_at r (decided_core t d2 c) pool.resources) (record {
        budgets = decides_unit t (CountIs m) ask pool.scheduler own refl ok.budgets u pays inside off k;
        runs =
            let taken_runs = r_take t (OnCore pool.resources) u (credit2.reset_records t k burned) (r_reset t (OnCore pool.resources) k burned (r_burn_cur t (OnCore pool.resources) c.cur own ok.runs)) in
            let stopped = r_switch_off t (OnCore pool.resources) c.cur taken taken_runs in
            r_set_running t (λ d n. OnCore pool.resources d n × (IsCur c.cur d n → ⊥)) (OnCore (put_at r (decided_core t d2 c) pool.resources)) u (credit2.off_records c.cur taken)
            (λ d n on. other_core t r c pool at d2 d n on.0 on.1)
            (r, decided_core t d2 c, at_place-put_at r (decided_core t d2 c) pool.resources (place_below pool.resources r c at), decided_is d2 c)
            stopped;
      }))
    where
      decided_is : (d : Decision) (c : Resource) → (decided_core t d c).cur ≡ d.unit
      decided_is d c = by_test (λ (x : Resource). x.cur ≡ d.unit) (same_choice d.unit c.cur) _ _ (λ is. sym (same_choice_same d.unit c.cur is)) (λ is. refl)

  n_after_decide : (r : ℕ) (c : Resource) (pool : Pool) → at_place pool.resources r ≡ Some c → PoolFits m t pool → IsKnownPool m.config.granularity pool → N pool → N (pools.after_decide m.config.granularity t r c pool)
  n_after_decide r c pool at fits known credit = by_records pool.scheduler.records refl
    where
      may_be : IfUnit (λ u. IsUnitOf m u × ((1 ≤ times u pool.scheduler.queue) ⊎ (c.cur ≡ Some u))) (decision_of (core_ask m.config.granularity t pool r c) pool.scheduler).unit
      may_be = decision_has (λ u. IsUnitOf m u × ((1 ≤ times u pool.scheduler.queue) ⊎ (c.cur ≡ Some u))) (core_ask m.config.granularity t pool r c) pool.scheduler
          (AllByRecursion-map (λ u. (1 ≤ times u pool.scheduler.queue) × IsUnitOf m u) (λ u. IsUnitOf m u × ((1 ≤ times u pool.scheduler.queue) ⊎ (c.cur ≡ Some u))) (λ u both. (both.1, inl both.0)) pool.scheduler.queue (both_of (λ u. 1 ≤ times u pool.scheduler.queue) (IsUnitOf m) pool.scheduler.queue (there_each pool.scheduler.queue) fits.queue))
          (λ u own runs. (subst (IfUnit (IsUnitOf m)) own (fits.cores r c at).cur, inr own))

      unit_is : (own : Credit2Records) (chosen : Option UnitId) → (credit2.credit2_decision_for (core_ask m.config.granularity t pool r c) pool.scheduler own chosen).unit ≡ chosen
      unit_is own None = refl
      unit_is own (Some u) = refl

      kind : is_credit2 (decision_of (core_ask m.config.granularity t pool r c) pool.scheduler).records ≡ is_credit2 pool.scheduler.records
      kind = same_decision is_credit2 (λ a b. refl) (λ a b. refl) (λ a b. refl) pool.scheduler.records (core_ask m.config.granularity t pool r c) pool.scheduler refl

      by_records : (records : Records) → pool.scheduler.records ≡ records → CreditFits m t (decision_of (core_ask m.config.granularity t pool r c) pool.scheduler).records (put_at r (decided_core t (decision_of (core_ask m.config.granularity t pool r c) pool.scheduler) c) pool.resources)
      by_records (Credit2Pool own) is =
          let ask : Ask = core_ask m.config.granularity t pool r c in
          let burned : Credit2Records = credit2.own_burned_records c.cur t own in
          let same : decision_of ask pool.scheduler ≡ credit2.credit2_decision_for ask pool.scheduler burned (credit2.credit2_choice ask pool.scheduler burned) = ap (λ (x : Records). decision_by x ask pool.scheduler) is in
          n_decide own r c pool is at fits known.one (credit own is) (credit2.credit2_choice ask pool.scheduler burned) (choice_pays t (CountIs m) ask pool.scheduler burned)
          (subst (IfUnit (λ u. IsUnitOf m u × ((1 ≤ times u pool.scheduler.queue) ⊎ (c.cur ≡ Some u)))) (ap (λ (d : Decision). d.unit) same ∙ unit_is burned (credit2.credit2_choice ask pool.scheduler burned)) may_be)
          (decision_of ask pool.scheduler) same
      by_records (RtdsPool domains) is = not_credit2 m t _ _ (kind ∙ ap is_credit2 is)
      by_records (ArincPool records) is = not_credit2 m t _ _ (kind ∙ ap is_credit2 is)
      by_records (NullPool kept) is = not_credit2 m t _ _ (kind ∙ ap is_credit2 is)

  n_parts : KeptByParts m.config.granularity t (λ pool action. PoolFits m t pool × IsKnownPool m.config.granularity pool) N
  n_parts = record {
    cores = λ cores pool like. fits_like m t pool.scheduler.records pool.resources cores (like_map KeepsCore SameCur pool.resources cores (λ c d keeps. keeps.cur) like);
    domains = λ d f pool count moving fits. fits;
    queues = λ u pool runs fits. fits;
    dequeues = λ d pool fits. fits;
    decides = λ r c pool at on. n_after_decide r c pool at on.0 on.1;
    saves = λ r c u pool at is on. n_change_core r pools.saved_core pool (λ x. refl);
    replenishes = λ u pool on. n_replenish pool.scheduler.records u pool.resources;
    dues = λ r u x old pool on is. n_change_core r (pools.due_within t x.budget) pool (λ c. refl);
    refills = λ d pool on. n_refill pool.scheduler.records d pool.resources;
  }

  n_commands : KeptByCommands m.config.granularity N
  n_commands = commands_of n_parts

  pub n_set_params : (change : ParamChange) (pool : Pool) → ChangeFits change → N pool → N (changed_pool change t pool)
  n_set_params change pool good fits =
      kept_marked n_commands t (λ d next. fits_like m t next.scheduler.records next.resources _ (like_of_domain SameCur d (capped t) next.resources (λ c. refl) (λ c. refl)))
      change (record pool { scheduler = policy.changed_scheduler change t pool.scheduler }) (n_changed pool.scheduler.records change pool.resources good fits)

  n_set_rtds_unit : (period budget : Option Span) (extra : Option Bool) (u : UnitId) (pool : Pool) → N pool → N (pool_with_rtds_unit t period budget extra u pool)
  n_set_rtds_unit period budget extra u pool fits =
      by_option N (unit_rtds_record pool.scheduler.records u) _ _ (λ is. fits)
      (λ x is. n_unit_changed pool.scheduler.records u (unwrap_or period (span x.next_period)) (unwrap_or budget (span x.next_budget)) (unwrap_or extra x.next_extra) pool.resources fits)

  counted : (d : ℕ) (domain : Domain) → DomFits m t d domain → CountIs m d (pools.domain_unit_count m.config.granularity domain)
  counted d domain comes config at =
      let count = comes.count in
      let there = comes.at in
      let same : comes.config ≡ config = cc in
      ap (λ k. (k + m.config.granularity - 1) / m.config.granularity) (count ∙ ap (λ (c : DomConfig). length c.guests) same)

  pub n_with_domain : (d : ℕ) (domain : Domain) (params : DomParams) (pool : Pool) → ParamsInRange params → DomFits m t d domain → N pool → N (pool_with_domain m.config.granularity t d domain params pool)
  n_with_domain d domain params pool good comes fits =
      kept_queue_units n_commands d (numbers_from 0 (pools.domain_unit_count m.config.granularity domain)) (record pool { domains = put_at d domain pool.domains; scheduler = policy.joined_scheduler d (pools.domain_unit_count m.config.granularity domain) params t pool.scheduler })
      (n_joined pool.scheduler.records params d (pools.domain_unit_count m.config.granularity domain) pool.resources good (counted d domain comes) fits)

  n_without_domain : (d : ℕ) (pool : Pool) → N pool → N (pool_without_domain d pool)
  n_without_domain d pool fits = n_parted pool.scheduler.records d pool.resources fits

  n_core_comes : (r : ℕ) (ends : List Moment) (pool : Pool) → at_place pool.resources r ≡ None → N pool → N (record pool { resources = put_at r (joined_core ends) pool.resources })
  n_core_comes r ends pool none fits =
      fits_stay m t pool.scheduler.records pool.resources (put_at r (joined_core ends) pool.resources)
      (λ k c u at own. (c, at_place-put_at_other r k (joined_core ends) pool.resources (λ e. (let there : at_place pool.resources r ≡ Some c = subst (λ j. at_place pool.resources j ≡ Some c) e at in absurd (cc))) ∙ at, own)) fits

  n_core_goes : (r : ℕ) (pool : Pool) → enabled_in m.config.granularity t pool (Moved (core_number r)) ≡ true → N pool → N (record pool { resources = clear_at r pool.resources })
  n_core_goes r pool on fits =
      let found = some-test_at pool.resources r (λ c. c.leaving && is_none c.cur && is_none c.saving && not c.pending && is_gathering c && is_first_processor_up t c) on in
      let c0 : Resource = found.0 in
      let two : (c0.leaving && is_none c0.cur) ≡ true = and_left _ (is_none c0.saving) (and_left (c0.leaving && is_none c0.cur && is_none c0.saving) (not c0.pending) (and_left (c0.leaving && is_none c0.cur && is_none c0.saving && not c0.pending) (is_gathering c0) (and_left (c0.leaving && is_none c0.cur && is_none c0.saving && not c0.pending && is_gathering c0) (is_first_processor_up t c0) found.2))) in
      let free : c0.cur ≡ None = none_is c0.cur (and_right c0.leaving (is_none c0.cur) two) in
      fits_stay m t pool.scheduler.records pool.resources (clear_at r pool.resources)
      (λ k c u at own. (
        c,
        at_place-clear_at_other r k pool.resources (λ e. (
            let there : at_place pool.resources r ≡ Some c = subst (λ j. at_place pool.resources j ≡ Some c) e at in
            let here : at_place pool.resources r ≡ Some c0 = found.1 in
            let same : c0 ≡ c = cc in
            let clash : None ≡ Some u = sym free ∙ ap (λ (x : Resource). x.cur) same ∙ own in
            absurd (cc))) ∙ at,
        own,
      )) fits

-- a pool that keeps no records yet
pub n_fresh : (m : Machine) (t : ℕ) (params : PoolParams) (domains count : ℕ) (cores : List (Option Resource)) → CreditFits m t (empty_records params domains count) cores
n_fresh m t (pool_params.Credit2 limit) domains count cores =
    credit_fits m t (record { limit = limit; last_reset = None; domains = replicate domains None }) cores (record {
      budgets = λ d x at. absurd (EachPlace-empty {X = Credit2Domain} (λ y. ⊥) domains d x at);
      runs = λ d x at. absurd (EachPlace-empty {X = Credit2Domain} (λ y. ⊥) domains d x at);
    })
n_fresh m t other domains count cores = not_credit2 m t (empty_records other domains count) cores refl

pub n_later : (m : Machine) (t next : ℕ) (records : Records) (cores : List (Option Resource)) → t ≤ next → CreditFits m t records cores → CreditFits m next records cores
n_later m t next records cores past fits own is = (let ok = fits own is in record { budgets = λ d x at. b_later t next (CountIs m d) x past (ok.budgets d x at); runs = ok.runs })

-- all that is kept of a pool
pub record WholePool (m : Machine) (t : ℕ) (pool : Pool) : Type 0 where
  pub known : IsKnownPool m.config.granularity pool
  pub fits : PoolFits m t pool
  pub credit : CreditFits m t pool.scheduler.records pool.resources

pub whole_steps : (m : Machine) (checked : IsChecked m) (some : 0 < m.config.granularity) (t : ℕ) → IsKeptAt m t (NearEnd t) (EndsFit m t) (DomFits m t) (WholePool m t) (WholePool m t)
whole_steps m checked some t =
    let steps = range_steps m checked t in
    let known : IsKept m.config.granularity (IsKnownPool m.config.granularity) = known_pools m.config.granularity some in
    record {
      stays = λ pool w. w;
      weakens = λ pool w. w;
      settles = λ pool w. record { known = known.inside.settles t pool w.known; fits = steps.settles pool w.fits; credit = kept_settled (n_commands m some t) t pool w.credit };
      stalls = λ p end pool near w. record { known = known.inside.stalls p end pool w.known; fits = steps.stalls p end pool near w.fits; credit = kept_processor (n_parts m some t) p (λ q. record q { stall_end = moment end }) pool w.credit };
      acts = λ pool action of on w. record { known = known.inside.acts t pool action on w.known; fits = steps.acts pool action of on w.fits; credit = kept_by_parts (n_parts m some t) pool action (w.fits, w.known) w.credit };
      leaves = λ r pool w. record { known = known.inside.leaves r pool w.known; fits = steps.leaves r pool w.fits; credit = kept_set_leaving (n_commands m some t) r pool w.credit };
      moves = λ d i pool w. record { known = known.inside.moves d i pool w.known; fits = steps.moves d i pool w.fits; credit = kept_withdrawn (n_commands m some t) d (change_domain d (λ x. record x { moving = Some (pool_number i) }) pool) w.credit };
      pauses = λ d pool w. record { known = known.inside.pauses d pool w.known; fits = steps.pauses d pool w.fits; credit = kept_pause (n_commands m some t) d pool w.credit };
      unpauses = λ d pool w. record { known = known.inside.unpauses d pool w.known; fits = steps.unpauses d pool w.fits; credit = kept_unpause (n_commands m some t) d pool w.credit };
      changes = λ change pool good w. record { known = known.inside.changes change t pool w.known; fits = steps.changes change pool good w.fits; credit = n_set_params m some t change pool good w.credit };
      rtds = λ period budget extra u pool good w. record { known = known_set_rtds m some t period budget extra u pool w.known; fits = steps.rtds period budget extra u pool good w.fits; credit = n_set_rtds_unit m some t period budget extra u pool w.credit };
      core_comes = λ r ends pool none good w. record { known = known.core_comes r ends pool none w.known; fits = steps.core_comes r ends pool none good w.fits; credit = n_core_comes m some t r ends pool none w.credit };
      ends_stall = steps.ends_stall;
      ends_go = λ r c pool at w. steps.ends_go r c pool at w.fits;
      core_goes = λ r pool on w. record { known = known.core_goes t r pool on w.known; fits = steps.core_goes r pool on w.fits; credit = n_core_goes m some t r pool on w.credit };
      domain_is = λ d domain pool at w. steps.domain_is d domain pool at w.fits;
      domain_comes = λ d domain pool stays none comes w. record { known = known.domain_comes t d domain (standard_dom_params pool.scheduler.records) pool stays none w.known; fits = steps.domain_comes d domain pool stays none comes w.fits; credit = n_with_domain m some t d domain (standard_dom_params pool.scheduler.records) pool (default_fits pool.scheduler.records) comes w.credit };
      domain_goes = λ d pool on w. record { known = known.domain_goes t d pool on w.known; fits = steps.domain_goes d pool on w.fits; credit = n_without_domain m some t d pool w.credit };
      domain_leaves = λ d pool null on w. record { known = known.domain_goes t d pool on w.known; fits = steps.domain_leaves d pool null on w.fits; credit = n_without_domain m some t d pool w.credit };
      empty = λ kind. record { known = known.empty m.config (standard_pool_params kind); fits = steps.empty kind; credit = n_fresh m t (standard_pool_params kind) (length m.config.domains) (machine_core_count m.config) (replicate (machine_core_count m.config) None) };
    }
  where
    known_set_rtds : (m : Machine) (some : 0 < m.config.granularity) (t : ℕ) (period budget : Option Span) (extra : Option Bool) (u : UnitId) (pool : Pool) → IsKnownPool m.config.granularity pool → IsKnownPool m.config.granularity (pool_with_rtds_unit t period budget extra u pool)
    known_set_rtds m some t period budget extra u pool known =
        by_option (IsKnownPool m.config.granularity) (unit_rtds_record pool.scheduler.records u) _ _ (λ is. known)
        (λ x is. (known_pools m.config.granularity some).inside.changes (changes.«Unit» u (unwrap_or period (span x.next_period)) (unwrap_or budget (span x.next_budget)) (unwrap_or extra x.next_extra)) t pool known)
