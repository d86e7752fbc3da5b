-- The accounts of two units at the opening.
use Rattle.std.proofs.Common.{◌≡◌, ◌<◌, ◌+◌, ℕ, zero, suc, Bool, true, false, refl, arith, cond, subst, sym, ap, ◌∙◌, length}
use Rattle.std.specs.Prelude.{Option, Some, None, slice_get, replicate, pos, ◌-◌}
use Rattle.std.proofs.lemmas.Int.{ints}
use Rattle.std.proofs.lemmas.List.Elements.{recursion_from_All}
use Rattle.sched_base.specs.declared.UnitId.{UnitId}
use Rattle.sched_base.proofs.Lists.{each_get}
use Rattle.sched_model.specs.declared.config.Config.{Config}
use Rattle.sched_model.specs.declared.config.DomConfig.{DomConfig}
use Rattle.sched_model.specs.declared.config.DomParams.TheVariants as dom_params
use Rattle.sched_model.specs.declared.config.PoolConfig.{PoolConfig}
use Rattle.sched_model.specs.declared.config.PoolParams.{PoolParams}
use Rattle.sched_model.specs.declared.config.PoolParams.TheVariants as pool_params
use Rattle.sched_model.specs.declared.config.SchedKind.{SchedKind}
use Rattle.sched_model.specs.declared.config.SchedKind.TheVariants as kinds
use Rattle.sched_model.specs.declared.machine.Machine.{Machine}
use Rattle.sched_model.specs.declared.state.Credit2Domain.{Credit2Domain}
use Rattle.sched_model.specs.declared.state.Credit2Records.{Credit2Records}
use Rattle.sched_model.specs.declared.state.Credit2Unit.{Credit2Unit}
use Rattle.sched_model.specs.declared.state.Pool.{Pool}
use Rattle.sched_model.specs.declared.state.Records.{Records}
use Rattle.sched_model.specs.declared.state.Records.TheVariants.{Credit2Pool, RtdsPool, ArincPool, NullPool}
use Rattle.sched_model.specs.declared.state.Resource.{Resource}
use Rattle.sched_model.specs.Actions.{configured_units}
use Rattle.sched_model.specs.CheckedMachine.{IsChecked, IsCheckedDomain, IsCheckedPool, DomParamsPass, PoolParamsPass}
use Rattle.sched_model.specs.Credit2.{first_refill_moment, fresh_credit2_domain, most_weight}
use Rattle.sched_model.specs.Opening.{opening, pool_at_opening, most_pools}
use Rattle.sched_model.specs.Places.{at_place, is_unit}
use Rattle.sched_model.specs.Policy.{domain_credit2_record}
use Rattle.sched_laws.proofs.Opened.{read_pools}
use Rattle.service_laws.proofs.ChosenInRuns.{fresh_core}
use Rattle.undisturbed_laws.specs.Undisturbed.{Credit2DomainStays, Credit2Stays, HasHome, PoolStays, RecordsStay, StandsAt}
use Rattle.undisturbed_laws.proofs.Opened.{configured_opening, fresh_credit2}
use Rattle.undisturbed_laws.proofs.Units.{core_there}
use Rattle.share_laws.specs.Shares.{HasWeight, IsPlainCredit2}
use Rattle.share_laws.proofs.Decision.{PaysAll, PaysNoMore}
use Rattle.share_laws.proofs.Fair.{Fair, since_last}
use Rattle.share_laws.proofs.Records.{Sees}
use Rattle.share_laws.proofs.Refills.{NoRefills}

-- the records of a pool of Credit2
pub books_of : (m : Machine) (i rate : ℕ) (records : Records) → RecordsStay m i (pool_params.Credit2 rate) records → (books : Credit2Records) × (records ≡ Credit2Pool books) × Credit2Stays m i rate books
books_of m i rate (Credit2Pool books) stay = (books, refl, stay)
books_of m i rate (RtdsPool domains) stay = absurd stay
books_of m i rate (ArincPool records) stay = absurd stay
books_of m i rate (NullPool kept) stay = absurd stay

-- the record of a unit at the opening
abbrev fresh_unit : Credit2Unit
fresh_unit = record { credit = pos 10000000; residual = 0; held = pos 0; burned = None }

get_fresh : (n k : ℕ) → k < n → slice_get (replicate n fresh_unit) k ≡ Some fresh_unit
get_fresh zero k low = absurd (omega (arith, low))
get_fresh (suc n) zero low = refl
get_fresh (suc n) (suc k) low = get_fresh n k (omega (arith, low))

weight_of_kind : (config : Config) (kind : SchedKind) (rate weight : ℕ) → PoolParamsPass config kind (pool_params.Credit2 rate) → DomParamsPass kind (dom_params.Credit2 weight 0) → 0 < weight
weight_of_kind config kinds.Credit2 rate weight pass fits = (let l = fits.0.least in omega (arith, l))
weight_of_kind config kind rate weight pass fits = absurd pass

no_refill_at : (cap : ℕ) → cap ≡ 0 → first_refill_moment cap 0 ≡ None
no_refill_at cap free = subst (λ k. first_refill_moment k 0 ≡ None) (sym free) refl

module _ (m : Machine) (checked : IsChecked m) (i r rate : ℕ) (plain : IsPlainCredit2 m i r rate) where
  passed_pool : IsCheckedPool m.config plain.config
  passed_pool = each_get (IsCheckedPool m.config) m.config.pools i plain.config (recursion_from_All (IsCheckedPool m.config) m.config.pools checked.config.pools) plain.there

  pub some_weight : (u : UnitId) (w : ℕ) → HasWeight m i u w → 0 < w
  some_weight u w has =
      let own = each_get (IsCheckedDomain m.config) m.config.domains u.dom.0 has.domain (recursion_from_All (IsCheckedDomain m.config) m.config.domains checked.config.domains) has.home.there in
      weight_of_kind m.config plain.config.kind rate w (subst (PoolParamsPass m.config plain.config.kind) plain.params passed_pool.params)
      (subst (DomParamsPass plain.config.kind) has.params (own.home_pool plain.config (subst (λ k. slice_get m.config.pools k ≡ Some plain.config) (sym has.home.home) plain.there)).1)

  first : StandsAt (opening m).pools i (PoolStays m i plain.config)
  first = (configured_opening m checked).pools i plain.config plain.there

  first_is : (q : Pool) → at_place (opening m).pools i ≡ Some q → q ≡ pool_at_opening m.config i plain.config
  first_is q at =
      let x = read_pools m.config 0 (most_pools - length m.config.pools) m.config.pools i q at in
      let a = x.1 in
      let b = plain.there in
      let same : x.0 ≡ plain.config = cc in
      let e : 0 + i ≡ i = omega arith in
      x.2 ∙ ap (λ (p : PoolConfig). pool_at_opening m.config (0 + i) p) same ∙ ap (λ (n : ℕ). pool_at_opening m.config n plain.config) e

  pub first_books : (q : Pool) → PoolStays m i plain.config q → (books : Credit2Records) × (q.scheduler.records ≡ Credit2Pool books) × Credit2Stays m i rate books
  first_books q stays = books_of m i rate q.scheduler.records (subst (λ (params : PoolParams). RecordsStay m i params q.scheduler.records) plain.params stays.records)

  module _ (q : Pool) (at : at_place (opening m).pools i ≡ Some q) (books : Credit2Records) (is : q.scheduler.records ≡ Credit2Pool books) (stay : Credit2Stays m i rate books) where
    first_records : (pool_at_opening m.config i plain.config).scheduler.records ≡ Credit2Pool books
    first_records = ap (λ (p : Pool). p.scheduler.records) (sym (first_is q at)) ∙ is

    -- a domain of the pool, as it joined
    joined : (d : ℕ) (c : DomConfig) → HasHome m i d c → (x : Credit2Domain) × (at_place books.domains d ≡ Some x) × Credit2DomainStays m.config.granularity c x × (x ≡ fresh_credit2_domain x.weight x.cap (configured_units m.config.granularity c) 0)
    joined d c home =
        let x = fresh_credit2 m checked i plain.config plain.there rate plain.params d c home in
        (x.0, subst (λ (records : Records). domain_credit2_record records d ≡ Some x.0) first_records x.1, x.2, x.3)

    pub first_sees : (u : UnitId) (w : ℕ) → HasWeight m i u w → Sees books u w fresh_unit
    first_sees u w has =
        let x = joined u.dom.0 has.domain has.home in
        let a = x.2.params in
        let b = has.params in
        let heavy : x.0.weight ≡ w = cc in
        let free : x.0.cap ≡ 0 = cc in
        record {
          domain = x.0;
          at = x.1;
          weight = heavy;
          cap = free;
          get = ap (λ (d : Credit2Domain). slice_get d.units u.n) x.3 ∙ get_fresh (configured_units m.config.granularity has.domain) u.n has.inside;
        }

    pub first_unfilled : NoRefills books
    first_unfilled d y at_d =
        let home = stay.domains.others d y at_d in
        let x = joined d home.0 home.1 in
        let found = x.1 in
        let same : x.0 ≡ y = cc in
        let a = x.2.params in
        let free = plain.uncapped d home.0 home.1 in
        let b = free.1 in
        let none : x.0.cap ≡ 0 = cc in
        sym (ap (λ (z : Credit2Domain). z.refill) same) ∙ ap (λ (z : Credit2Domain). z.refill) x.3 ∙ no_refill_at x.0.cap none

  opened_all : (most w : ℕ) → 0 < w → PaysAll most 10000000 w 0 fresh_unit
  opened_all most w some = record { paid = 0; has = omega (arith, ints); low = some; least = omega arith }

  opened_no_more : (most w : ℕ) → 0 < w → PaysNoMore most 10000000 w 0 fresh_unit
  opened_no_more most w some = record { paid = 0; has = omega (arith, ints); low = some; most_paid = omega arith }

  -- with the greatest weight of the pool
  pub opens_fair : (u v : UnitId) (wu wv : ℕ) → HasWeight m i u wu → HasWeight m i v wv → (most : ℕ) × Fair i r rate most u v wu wv 0 0 (opening m)
  opens_fair u v wu wv has_u has_v =
      let q : Pool = first.item in
      let b = first_books q first.meets in
      let books : Credit2Records = b.0 in
      let core = core_there m i r plain.config q first.meets plain.core in
      let cur : core.0.cur ≡ None = sym (ap (λ (c : Resource). c.cur) (fresh_core m i q first.at r core.0 core.1)) in
      let idle : (w : UnitId) → is_unit core.0.cur w ≡ false = λ w. ap (λ (o : Option UnitId). is_unit o w) cur in (
        most_weight books,
        record {
          pool = q;
          at = first.at;
          core = core.0;
          has = core.1;
          books = books;
          is = b.1;
          unfilled = first_unfilled q first.at books b.1 b.2;
          limit = b.2.limit;
          heavy = refl;
          given = 10000000;
          last = 0;
          past = omega arith;
          unit_u = fresh_unit;
          sees_u = first_sees q first.at books b.1 b.2 u wu has_u;
          ran_u = 0;
          time_u = nothing (is_unit core.0.cur u);
          runs_u = ap (λ x. since_last x 0) (sym (idle u));
          all = opened_all (most_weight books) wu (some_weight u wu has_u);
          unit_v = fresh_unit;
          sees_v = first_sees q first.at books b.1 b.2 v wv has_v;
          ran_v = 0;
          time_v = nothing (is_unit core.0.cur v);
          runs_v = ap (λ x. since_last x 0) (sym (idle v));
          no_more = opened_no_more (most_weight books) wv (some_weight v wv has_v);
          turn = λ on. absurd (let off = idle u in cc);
          bound = omega arith;
        },
      )
    where
      nothing : (b : Bool) → 0 ≡ 0 + cond b (0 - 0) 0
      nothing true = omega arith
      nothing false = omega arith
