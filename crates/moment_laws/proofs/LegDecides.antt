-- What a decision keeps of a pool whose cores' open legs are given: the chosen unit's leg begins now, and it has some budget left, or holds what it took.
use Rattle.std.proofs.Common.{◌≡◌, ◌≢◌, ◌≤◌, ◌<◌, ℕ, Bool, true, false, List, [], ◌∷◌, refl, arith, ap, subst, sym, ◌∙◌, length, ◌⊎◌, inl, inr}
use Rattle.std.specs.Prelude.{Option, Some, None, slice_get, nat_lt, int_lt, ◌&&◌, ◌==◌, ℤ, pos, ◌-ℤ◌, ◌≤ℤ◌}
use Rattle.std.specs.List.{AllByRecursion}
use Rattle.std.proofs.lemmas.Int.{ints, clamps}
use Rattle.std.proofs.Math.Decide.{ℕ_discrete}
use Rattle.std.proofs.lemmas.Bool.{or_cases}
use Rattle.sched_base.specs.Numbers.{domain as domain_number}
use Rattle.sched_base.specs.Credit2Numbers.{taken_budget}
use Rattle.sched_base.specs.declared.UnitId.{UnitId}
use Rattle.sched_model.specs.declared.ask.Ask.{Ask}
use Rattle.sched_model.specs.declared.state.Credit2Unit.{Credit2Unit}
use Rattle.sched_model.specs.declared.state.Credit2Domain.{Credit2Domain}
use Rattle.sched_model.specs.declared.state.Credit2Records.{Credit2Records}
use Rattle.sched_model.specs.declared.state.RtdsUnit.{RtdsUnit}
use Rattle.sched_model.specs.declared.state.Records.{Records}
use Rattle.sched_model.specs.declared.state.Records.TheVariants.{Credit2Pool, RtdsPool, ArincPool, NullPool}
use Rattle.sched_model.specs.declared.state.Scheduler.{Scheduler}
use Rattle.sched_model.specs.declared.state.Pool.{Pool}
use Rattle.sched_model.specs.declared.state.Resource.{Resource}
use Rattle.sched_model.specs.Places.{at_place, put_at, change_item, has_listed_unit, same_unit}
use Rattle.sched_model.specs.EligibleUnits.{Decision, is_unit_allowed, is_unit_eligible, has_cap_budget, eligible_units, rtds_unit_at}
use Rattle.sched_model.specs.Rtds as rtds
use Rattle.sched_model.specs.Rtds.{unit_left_budget, first_of_units}
use Rattle.sched_model.specs.Credit2 as credit2
use Rattle.sched_model.specs.Policy.{decision_of, decision_by}
use Rattle.sched_model.specs.Pool as pools
use Rattle.sched_model.specs.Pool.{core_ask, decided_core, same_choice}
use Rattle.sched_laws.proofs.Records.{same_decision}
use Rattle.sched_laws.specs.EachPlace.{EachAt}
use Rattle.sched_base.proofs.Bools.{and_right, or_more}
use Rattle.sched_laws.proofs.Counts.{same_unit_refl}
use Rattle.sched_laws.proofs.Choices.{decision_has, foremost_has}
use Rattle.sched_laws.specs.PoolFacts.{IfUnit}
use Rattle.sched_laws.proofs.EachPlace.{EachAt-change_to, EachAt-change_at, EachAt-change_each, at_place-put_at, at_place-put_at_other, at_place-clear_at_other, place_below, by_option, by_test, by_cond}
use Rattle.sched_base.proofs.Lists.{AllByRecursion-filter}
use Rattle.sched_laws.proofs.OnePlace.{same_choice_same}
use Rattle.sched_laws.proofs.Sound.{read_change_item}
use Rattle.state_ranges.proofs.Decided.{choice_pays}
use Rattle.moment_laws.specs.Stretches.{Legs, leg_of, units}
use Rattle.moment_laws.proofs.RtdsKeys.{passes_is}
use Rattle.sched_model.specs.Places.{is_unit}
use Rattle.sched_laws.proofs.Choices.{same_unit_same}
use Rattle.record_laws.specs.Decisions.{number_in, was_reset}
use Rattle.record_laws.proofs.Changes.{numbered}
use Rattle.record_laws.proofs.Credit2Seen.{records_decided, reset_is}
use Rattle.record_laws.proofs.Charges.{kept_by_decisions, reset_budget}
use Rattle.record_laws.proofs.RtdsSeen.{from_units, to_units, units_decided, units_kept}
use Rattle.moment_laws.proofs.LegCharges.{lasts_now, EachItem, item_change, RtdsUnitKept, RtdsKept, limit, DomainKept, Credit2Kept, charges_kept}
use Rattle.moment_laws.proofs.LegWalk.{OnSince, Charged, charged_less, IsLegged}
use Rattle.moment_laws.proofs.Tests.{or_later}

-- the unit was put on now, and has some budget left, or holds no less than 0, where its domain is capped
abbrev pub Fresh : UnitId → ℕ → Records → Type 0
Fresh u t (Credit2Pool records) = EachAt (λ d (x : Credit2Domain). EachItem (λ n (y : Credit2Unit). d ≡ u.dom.0 → n ≡ u.n → (y.burned ≡ Some t) × ((x.cap ≡ 0) ⊎ (pos 0 ≤ℤ y.held))) x.units) records.domains
Fresh u t (RtdsPool domains) = EachAt (λ d (units : List RtdsUnit). EachItem (λ n (y : RtdsUnit). d ≡ u.dom.0 → n ≡ u.n → (y.burned ≡ Some t) × (0 < y.left)) units) domains
Fresh u t any = Unit {0}

-- no unit of a domain without a cap holds anything
abbrev pub FreeHolds : Records → Type 0
FreeHolds (Credit2Pool records) = EachAt (λ d (x : Credit2Domain). (n : ℕ) (y : Credit2Unit) → slice_get x.units n ≡ Some y → x.cap ≡ 0 → y.held ≡ pos 0) records.domains
FreeHolds records = Unit {0}

-- a unit that is chosen beside those whose legs go on
charged_more : (On On2 : ℕ → ℕ → ℕ → Type 0) (t : ℕ) (chosen : Option UnitId) (records : Records)
    → ((d n b : ℕ) → On2 d n b → On d n b ⊎ ((u : UnitId) × (chosen ≡ Some u) × (d ≡ u.dom.0) × (n ≡ u.n) × (b ≤ t)))
    → ((u : UnitId) → chosen ≡ Some u → Fresh u t records) → FreeHolds records → Charged On t records → Charged On2 t records
charged_more On On2 t chosen (Credit2Pool records) split fresh free kept = λ d x at n y get. (
    let k = kept d x at n y get in
    record {
      lasts = λ b on. elim (split d n b on) [
        | inl old ↦ k.lasts b old
        | inr new ↦ (
            let f = fresh new.0 new.1 d x at n y get new.2 new.3 in
            lasts_now b t y.burned y.held new.4 f.0 (elim f.1 [ inl none ↦ (let e = free d x at n y get none in omega (arith, ints, e)) | inr low ↦ low ]))
      ];
      within = k.within;
    })
charged_more On On2 t chosen (RtdsPool domains) split fresh free kept = λ d units at n y get b on. elim (split d n b on) [
  | inl old ↦ kept d units at n y get b old
  | inr new ↦ (
      let f = fresh new.0 new.1 d units at n y get new.2 new.3 in
      let low = f.1 in
      lasts_now b t y.burned (pos y.left -ℤ pos 1) new.4 f.0 (omega (arith, ints, low)))
]
charged_more On On2 t chosen (ArincPool records) split fresh free kept = tt
charged_more On On2 t chosen (NullPool places) split fresh free kept = tt

-- whether the scheduler charges its units
abbrev is_charging : Records → Bool
is_charging (ArincPool records) = false
is_charging (NullPool kept) = false
is_charging any = true

none_charged : (On : ℕ → ℕ → ℕ → Type 0) (t : ℕ) (records : Records) → is_charging records ≡ false → Charged On t records
none_charged On t (ArincPool records) none = tt
none_charged On t (NullPool kept) none = tt
none_charged On t any none = absurd (cc)

none_fresh : (u : UnitId) (t : ℕ) (records : Records) → is_charging records ≡ false → Fresh u t records
none_fresh u t (ArincPool records) none = tt
none_fresh u t (NullPool kept) none = tt
none_fresh u t any none = absurd (cc)

all_units : (units : List UnitId) → AllByRecursion (λ u. Unit {0}) units
all_units [] = tt
all_units (u ∷ units) = (tt, all_units units)

-- RTDS: a chosen unit has some budget left
choice_left : (ask : Ask) (scheduler : Scheduler) (domains : List (Option (List RtdsUnit))) → IfUnit (λ u. nat_lt 0 (unit_left_budget domains u) ≡ true) (rtds.rtds_choice ask scheduler domains)
choice_left ask scheduler domains =
    let P : UnitId → Type 0 = λ u. nat_lt 0 (unit_left_budget domains u) ≡ true in
    let next : Scheduler = record scheduler { records = RtdsPool domains } in
    let own : IfUnit P (rtds.rtds_candidate ask scheduler domains) = by_option (IfUnit P) ask.cur _ _ (λ none. tt)
    (λ u is. by_cond (IfUnit P) (ask.runnable && is_unit_allowed scheduler ask.home.0 ask.core.0 u && nat_lt 0 (unit_left_budget domains u)) (Some u) None (λ may. and_right (ask.runnable && is_unit_allowed scheduler ask.home.0 ask.core.0 u) _ may) (λ may. tt)) in
    by_cond (IfUnit P) ask.leaving None (first_of_units domains (rtds.rtds_candidate ask scheduler domains) (eligible_units next ask.home.0 ask.core.0 ask.at.0)) (λ leaves. tt)
    (λ stays. foremost_has P domains (rtds.rtds_candidate ask scheduler domains) (eligible_units next ask.home.0 ask.core.0 ask.at.0) own
    (AllByRecursion-filter (λ u. Unit {0}) P (is_unit_eligible next ask.home.0 ask.core.0 ask.at.0) (λ u passes all. sym (passes_is domains next ask.home.0 ask.core.0 ask.at.0 u) ∙ and_right (is_unit_allowed next ask.home.0 ask.core.0 u) _ passes) scheduler.queue (all_units scheduler.queue)))

module _ (t : ℕ) (u : UnitId) where
  abbrev Left : ℕ → List RtdsUnit → Type 0
  Left d units = EachItem (λ n (y : RtdsUnit). d ≡ u.dom.0 → n ≡ u.n → 0 < y.left) units

  left_off : (cur : Option UnitId) (domains : List (Option (List RtdsUnit))) → EachAt Left domains → EachAt Left (rtds.off_domains cur domains)
  left_off None domains each = each
  left_off (Some w) domains each =
      EachAt-change_at Left w.dom.0 (change_item w.n (λ (x : RtdsUnit). record x { burned = None })) domains each
      (λ units at here. item_change (λ n (y : RtdsUnit). w.dom.0 ≡ u.dom.0 → n ≡ u.n → 0 < y.left) w.n (λ (x : RtdsUnit). record x { burned = None }) units (λ y get old. old) here)

  fresh_rtds : (cur : Option UnitId) (domains : List (Option (List RtdsUnit))) → nat_lt 0 (unit_left_budget domains u) ≡ true → Fresh u t (RtdsPool (rtds.running_domains (Some t) u (rtds.off_domains cur domains)))
  fresh_rtds cur domains left =
      EachAt-change_to Left (λ d (units : List RtdsUnit). EachItem (λ n (y : RtdsUnit). d ≡ u.dom.0 → n ≡ u.n → (y.burned ≡ Some t) × (0 < y.left)) units) u.dom.0 (change_item u.n (λ (x : RtdsUnit). record x { burned = Some t })) (rtds.off_domains cur domains) (left_off cur domains first)
      (λ d units other here n y get same_d same_n. absurd (other same_d))
      (λ units at here n y get same_d same_n. elim (read_change_item u.n n (λ (x : RtdsUnit). record x { burned = Some t }) units y get) [
        | inl was ↦ absurd (was.0 same_n)
        | inr r ↦ subst (λ (z : RtdsUnit). (z.burned ≡ Some t) × (0 < z.left)) r.3 (refl, here u.n r.0 r.1 refl refl)
      ])
    where
      first : EachAt Left domains
      first d units at n y get same_d same_n =
          let there : at_place domains u.dom.0 ≡ Some units = subst (λ k. at_place domains k ≡ Some units) same_d at in
          let item : slice_get units u.n ≡ Some y = subst (λ k. slice_get units k ≡ Some y) same_n get in
          let is : rtds_unit_at domains u ≡ Some y = ap (λ (o : Option (List RtdsUnit)). elim o as (λ _. Option RtdsUnit) [ None ↦ None | Some xs ↦ slice_get xs u.n ]) there ∙ item in
          let same : unit_left_budget domains u ≡ y.left = ap (λ (o : Option RtdsUnit). elim o as (λ _. ℕ) [ None ↦ 0 | Some x ↦ x.left ]) is in
          grind (arith, same, left)

  -- Credit2: a chosen unit takes its budget from a domain that may run
  abbrev Pays : ℕ → Credit2Domain → Type 0
  Pays d x = d ≡ u.dom.0 → has_cap_budget x ≡ true

  abbrev Paid : ℕ → Credit2Domain → Type 0
  Paid d x = EachItem (λ n (y : Credit2Unit). d ≡ u.dom.0 → n ≡ u.n → (x.cap ≡ 0) ⊎ (pos 0 ≤ℤ y.held)) x.units

  pays_reset : (k : ℕ) (records : Credit2Records) → EachAt Pays records.domains → EachAt Pays (credit2.reset_records t k records).domains
  pays_reset k records each =
      subst (EachAt Pays) (sym (reset_is t k records))
      (EachAt-change_each Pays (λ d. was_reset (credit2.most_weight records) t k) records.domains each (λ d x at here same. reset_budget (credit2.most_weight records) t k x ∙ here same))

  paid_taken : (records : Credit2Records) → EachAt Pays records.domains → EachAt Paid (credit2.change_domain u.dom.0 (credit2.domain_after_take u.n) records).domains
  paid_taken records each =
      EachAt-change_to Pays Paid u.dom.0 (credit2.domain_after_take u.n) records.domains each (λ d x other here n y get same_d same_n. absurd (other same_d))
      (λ x at here. by_cond (Paid u.dom.0) (x.cap == 0) x _ (λ free n y get same_d same_n. inl (none x.cap free))
      (λ capped n y get same_d same_n. elim (read_change_item u.n n (λ (z : Credit2Unit). record z { held = taken_budget x.budget (limit x) }) x.units y get) [
        | inl was ↦ absurd (was.0 same_n)
        | inr r ↦ inr (subst (λ (z : Credit2Unit). pos 0 ≤ℤ z.held) r.3 (least x.budget (limit x) (elim (or_cases (x.cap == 0) (int_lt (pos 0) x.budget) (here refl)) [ inl free ↦ absurd (clash free capped) | inr some ↦ some ])))
      ]))
    where
      none : (cap : ℕ) → (cap == 0) ≡ true → cap ≡ 0
      none cap is = grind arith

      clash : {b : Bool} → b ≡ true → b ≡ false → ⊥
      clash {b} x y = (let e : true ≡ false = sym x ∙ y in cc)

      least : (budget : ℤ) (q : ℕ) → int_lt (pos 0) budget ≡ true → pos 0 ≤ℤ taken_budget budget q
      least budget q some = grind (arith, ints, clamps)

  paid_off : (cur : Option UnitId) (records : Credit2Records) → EachAt Paid records.domains → EachAt Paid (credit2.off_records cur records).domains
  paid_off None records each = each
  paid_off (Some w) records each =
      EachAt-change_at Paid w.dom.0 (λ d. record d { units = change_item w.n (λ (x : Credit2Unit). record x { burned = None }) d.units }) records.domains each
      (λ x at here. item_change (λ n (y : Credit2Unit). w.dom.0 ≡ u.dom.0 → n ≡ u.n → (x.cap ≡ 0) ⊎ (pos 0 ≤ℤ y.held)) w.n (λ (x : Credit2Unit). record x { burned = None }) x.units (λ y get old. old) here)

  fresh_credit2 : (cur : Option UnitId) (k : ℕ) (burned : Credit2Records) → credit2.has_domain_budget burned u ≡ true
      → Fresh u t (Credit2Pool (credit2.running_records (Some t) u (credit2.off_records cur (credit2.change_domain u.dom.0 (credit2.domain_after_take u.n) (credit2.reset_records t k burned)))))
  fresh_credit2 cur k burned pays =
      let taken : Credit2Records = credit2.change_domain u.dom.0 (credit2.domain_after_take u.n) (credit2.reset_records t k burned) in
      EachAt-change_to Paid (λ d (x : Credit2Domain). EachItem (λ n (y : Credit2Unit). d ≡ u.dom.0 → n ≡ u.n → (y.burned ≡ Some t) × ((x.cap ≡ 0) ⊎ (pos 0 ≤ℤ y.held))) x.units) u.dom.0 (λ d. record d { units = change_item u.n (λ (x : Credit2Unit). record x { burned = Some t }) d.units }) (credit2.off_records cur taken).domains
      (paid_off cur taken (paid_taken (credit2.reset_records t k burned) (pays_reset k burned first)))
      (λ d x other here n y get same_d same_n. absurd (other same_d))
      (λ x at here n y get same_d same_n. elim (read_change_item u.n n (λ (z : Credit2Unit). record z { burned = Some t }) x.units y get) [
        | inl was ↦ absurd (was.0 same_n)
        | inr r ↦ subst (λ (z : Credit2Unit). (z.burned ≡ Some t) × ((x.cap ≡ 0) ⊎ (pos 0 ≤ℤ z.held))) r.3 (refl, here u.n r.0 r.1 refl refl)
      ])
    where
      first : EachAt Pays burned.domains
      first d x at same_d =
          let there : at_place burned.domains u.dom.0 ≡ Some x = subst (λ k. at_place burned.domains k ≡ Some x) same_d at in
          sym (ap (λ (o : Option Credit2Domain). elim o as (λ _. Bool) [ None ↦ false | Some d ↦ has_cap_budget d ]) there) ∙ pays

-- a decision, where the legs of some units go on: none of them is the core's own or the chosen one
module _ (On : ℕ → ℕ → ℕ → Type 0) (ask : Ask) (scheduler : Scheduler) where
  abbrev Off : Option UnitId → Type 0
  Off o = (u : UnitId) → o ≡ Some u → (b : ℕ) → On u.dom.0 u.n b → ⊥

  rtds_decides : (domains : List (Option (List RtdsUnit))) (chosen : Option UnitId) → Off ask.cur → Off chosen → RtdsKept On ask.at.0 domains → Charged On ask.at.0 (rtds.rtds_decision_for ask (rtds.own_burned_domains ask.cur ask.at.0 domains) chosen).records
  rtds_decides domains chosen own off kept =
      subst (Charged On ask.at.0) (sym (units_decided ask domains chosen))
      (from_units (λ d. RtdsUnitKept On ask.at.0 d) _
      (units_kept ask domains chosen (λ u. RtdsUnitKept On ask.at.0 u.dom.0 u.n)
      (λ u. record { charges = λ x had old b on. absurd (is_off ask.cur own u had b on); stops = λ x had old b on. absurd (is_off ask.cur own u had b on); starts = λ x has old b on. absurd (is_off chosen off u has b on) })
      (to_units (λ d. RtdsUnitKept On ask.at.0 d) domains kept)))
    where
      is_off : (o : Option UnitId) → Off o → (u : UnitId) → is_unit o u ≡ true → (b : ℕ) → On u.dom.0 u.n b → ⊥
      is_off None off u is = absurd (cc)
      is_off (Some w) off u is = off u (ap (λ (v : UnitId). Some v) (same_unit_same w u is))

  credit2_decides : (records : Credit2Records) (chosen : Option UnitId) → Off ask.cur → Off chosen → Credit2Kept On ask.at.0 records → Charged On ask.at.0 (credit2.credit2_decision_for ask scheduler (credit2.own_burned_records ask.cur ask.at.0 records) chosen).records
  credit2_decides records chosen own off kept =
      subst (Charged On ask.at.0) (sym (records_decided ask records scheduler chosen))
      (kept_by_decisions ask records (λ d. DomainKept (On d) ask.at.0) chosen
      (λ d. charges_kept On ask.at.0 d _ _ (number_in d ask.cur) (number_in d chosen) (λ n is. elim is [ inl had ↦ is_off ask.cur own d n had | inr has ↦ is_off chosen off d n has ])) kept)
    where
      is_off : (o : Option UnitId) → Off o → (d n : ℕ) → number_in d o ≡ Some n → (b : ℕ) → On d n b → ⊥
      is_off o off d n is b on = (let u = numbered d n o is in off u.unit u.is b (subst (λ (k : ℕ). On k u.unit.n b) (sym u.dom) (subst (λ (k : ℕ). On d k b) (sym u.n) on)))

  rtds_unit_is : (domains : List (Option (List RtdsUnit))) (chosen : Option UnitId) → (rtds.rtds_decision_for ask domains chosen).unit ≡ chosen
  rtds_unit_is domains None = refl
  rtds_unit_is domains (Some u) = refl

  credit2_unit_is : (records : Credit2Records) (chosen : Option UnitId) → (credit2.credit2_decision_for ask scheduler records chosen).unit ≡ chosen
  credit2_unit_is records None = refl
  credit2_unit_is records (Some u) = refl

  rtds_fresh : (domains : List (Option (List RtdsUnit))) (chosen : Option UnitId) → IfUnit (λ u. nat_lt 0 (unit_left_budget domains u) ≡ true) chosen → (u : UnitId) → chosen ≡ Some u → Fresh u ask.at.0 (rtds.rtds_decision_for ask domains chosen).records
  rtds_fresh domains None left u is = absurd (cc)
  rtds_fresh domains (Some w) left u is = (let e : w ≡ u = cc in subst (λ x. Fresh x ask.at.0 (rtds.rtds_decision_for ask domains (Some w)).records) e (fresh_rtds ask.at.0 w ask.cur domains left))

  credit2_fresh : (records : Credit2Records) (chosen : Option UnitId) → IfUnit (λ u. credit2.has_domain_budget records u ≡ true) chosen → (u : UnitId) → chosen ≡ Some u → Fresh u ask.at.0 (credit2.credit2_decision_for ask scheduler records chosen).records
  credit2_fresh records None pays u is = absurd (cc)
  credit2_fresh records (Some w) pays u is = (let e : w ≡ u = cc in subst (λ x. Fresh x ask.at.0 (credit2.credit2_decision_for ask scheduler records (Some w)).records) e (fresh_credit2 ask.at.0 w ask.cur (credit2.reset_count ask.at.0 w records) records pays))

  -- what the decision makes of the records
  record IsDecided (d : Decision) : Type 0 where
    charged : Charged On ask.at.0 d.records
    fresh : (u : UnitId) → d.unit ≡ Some u → Fresh u ask.at.0 d.records

  not_charging : (d : Decision) → is_charging d.records ≡ false → IsDecided d
  not_charging d none = record { charged = none_charged On ask.at.0 d.records none; fresh = λ u is. none_fresh u ask.at.0 d.records none }

  is_decided : Off ask.cur → Off (decision_of ask scheduler).unit → Charged On ask.at.0 scheduler.records → IsDecided (decision_of ask scheduler)
  is_decided own off kept = by_records scheduler.records refl
    where
      by_records : (records : Records) → scheduler.records ≡ records → IsDecided (decision_of ask scheduler)
      by_records (Credit2Pool records) is =
          let burned : Credit2Records = credit2.own_burned_records ask.cur ask.at.0 records in
          let chosen : Option UnitId = credit2.credit2_choice ask scheduler burned in
          let same : decision_of ask scheduler ≡ credit2.credit2_decision_for ask scheduler burned chosen = ap (λ (x : Records). decision_by x ask scheduler) is in
          let unit : (credit2.credit2_decision_for ask scheduler burned chosen).unit ≡ chosen = credit2_unit_is burned chosen in
          let off2 : Off chosen = subst Off (ap (λ (d : Decision). d.unit) same ∙ unit) off in
          subst IsDecided (sym same) (record {
            charged = credit2_decides records chosen own off2 (subst (Charged On ask.at.0) is kept);
            fresh = λ u e. credit2_fresh burned chosen (choice_pays ask.at.0 (λ d n. Unit {0}) ask scheduler burned) u (sym unit ∙ e);
          })
      by_records (RtdsPool domains) is =
          let burned : List (Option (List RtdsUnit)) = rtds.own_burned_domains ask.cur ask.at.0 domains in
          let chosen : Option UnitId = rtds.rtds_choice ask scheduler burned in
          let same : decision_of ask scheduler ≡ rtds.rtds_decision_for ask burned chosen = ap (λ (x : Records). decision_by x ask scheduler) is in
          let unit : (rtds.rtds_decision_for ask burned chosen).unit ≡ chosen = rtds_unit_is burned chosen in
          let off2 : Off chosen = subst Off (ap (λ (d : Decision). d.unit) same ∙ unit) off in
          subst IsDecided (sym same) (record {
            charged = rtds_decides domains chosen own off2 (subst (Charged On ask.at.0) is kept);
            fresh = λ u e. rtds_fresh burned chosen (choice_left ask scheduler burned) u (sym unit ∙ e);
          })
      by_records records is = not_charging (decision_of ask scheduler) (same_decision is_charging (λ a b. refl) (λ a b. refl) (λ a b. refl) scheduler.records ask scheduler refl ∙ ap is_charging is)

-- the units of the queue
in_queue : (queue : List UnitId) → AllByRecursion (λ u. has_listed_unit queue u ≡ true) queue
in_queue queue = each queue (λ u has. has)
  where
    each : (units : List UnitId) → ((u : UnitId) → has_listed_unit units u ≡ true → has_listed_unit queue u ≡ true) → AllByRecursion (λ u. has_listed_unit queue u ≡ true) units
    each [] to = tt
    each (x ∷ units) to = (to x (or_more (same_unit x x) _ (same_unit_refl x)), each units (λ u has. to u (or_later (same_unit u x) has)))

module _ (g t : ℕ) (legs : Legs) (r : ℕ) (c : Resource) (pool : Pool) (at : at_place pool.resources r ≡ Some c) where
  abbrev decision : Decision
  decision = decision_of (core_ask g t pool r c) pool.scheduler

  abbrev pub next_legs : Legs
  next_legs = leg_of t r decision.unit legs

  -- the units of the other cores whose legs are known
  abbrev Others : ℕ → ℕ → ℕ → Type 0
  Others d n b = (k : ℕ) × (x : Resource) × (k ≢ r) × (at_place pool.resources k ≡ Some x) × (x.cur ≡ Some (record { dom = domain_number d; n = n })) × (at_place legs k ≡ Some b)

  pub legs_other : (o : Option UnitId) (k : ℕ) → k ≢ r → at_place (leg_of t r o legs) k ≡ at_place legs k
  legs_other None k other = at_place-clear_at_other r k legs other
  legs_other (Some u) k other = at_place-put_at_other r k t legs other

  legs_own : (o : Option UnitId) (u : UnitId) → r < length legs → o ≡ Some u → at_place (leg_of t r o legs) r ≡ Some t
  legs_own None u low is = absurd (cc)
  legs_own (Some w) u low is = at_place-put_at r t legs low

  decided_is : (decided_core t decision c).cur ≡ decision.unit
  decided_is = by_test (λ (x : Resource). x.cur ≡ decision.unit) (same_choice decision.unit c.cur) _ _ (λ is. sym (same_choice_same decision.unit c.cur is)) (λ is. refl)

  module _ (others : (k : ℕ) (x : Resource) (u : UnitId) → k ≢ r → at_place pool.resources k ≡ Some x → x.cur ≡ Some u → (has_listed_unit pool.scheduler.queue u ≡ false) × (c.cur ≡ Some u → ⊥)) where
    chosen_from : IfUnit (λ u. (has_listed_unit pool.scheduler.queue u ≡ true) ⊎ (c.cur ≡ Some u)) decision.unit
    chosen_from = decision_has (λ u. (has_listed_unit pool.scheduler.queue u ≡ true) ⊎ (c.cur ≡ Some u)) (core_ask g t pool r c) pool.scheduler (waiting pool.scheduler.queue (in_queue pool.scheduler.queue)) (λ u own runs. inr own)
      where
        waiting : (units : List UnitId) → AllByRecursion (λ u. has_listed_unit pool.scheduler.queue u ≡ true) units → AllByRecursion (λ u. (has_listed_unit pool.scheduler.queue u ≡ true) ⊎ (c.cur ≡ Some u)) units
        waiting [] each = tt
        waiting (u ∷ units) each = (inl each.0, waiting units each.1)

    own_off : (u : UnitId) → c.cur ≡ Some u → (b : ℕ) → Others u.dom.0 u.n b → ⊥
    own_off u own b on = (others on.0 on.1 u on.2 on.3 on.4).1 own

    chosen_off : (u : UnitId) → decision.unit ≡ Some u → (b : ℕ) → Others u.dom.0 u.n b → ⊥
    chosen_off u is b on =
        let o = others on.0 on.1 u on.2 on.3 on.4 in
        let from : (has_listed_unit pool.scheduler.queue u ≡ true) ⊎ (c.cur ≡ Some u) = subst (IfUnit (λ w. (has_listed_unit pool.scheduler.queue w ≡ true) ⊎ (c.cur ≡ Some w))) is chosen_from in
        elim from [ inl waits ↦ (let e : true ≡ false = sym waits ∙ o.0 in cc) | inr own ↦ o.1 own ]

    pub w_after_decide : r < length legs → FreeHolds decision.records → IsLegged g t legs pool → IsLegged g t next_legs (pools.after_decide g t r c pool)
    w_after_decide low free w =
        let done = is_decided Others (core_ask g t pool r c) pool.scheduler own_off chosen_off (less w) in
        record {
          have = λ k x u at_k own. elim (ℕ_discrete k r) [
            | yes e ↦ (t, subst (λ j. at_place next_legs j ≡ Some t) (sym e) (legs_own decision.unit u low (new_unit k x u e at_k own)))
            | no other ↦ (let b = w.have k x u (old_core k x other at_k) own in (b.0, legs_other decision.unit k other ∙ b.1))
          ];
          charged = charged_more Others (OnSince next_legs (put_at r (decided_core t decision c) pool.resources)) t decision.unit decision.records (λ d n b on. elim (ℕ_discrete on.0 r) [
            | yes e ↦ (
                let new = new_unit on.0 on.1 (record { dom = domain_number d; n = n }) e on.2 on.3 in
                let leg : Some t ≡ Some b = sym (legs_own decision.unit (record { dom = domain_number d; n = n }) low new) ∙ subst (λ j. at_place next_legs j ≡ Some b) e on.4 in
                inr (record { dom = domain_number d; n = n }, new, refl, refl, (let s : t ≡ b = cc in omega (arith, s))))
            | no other ↦ inl (on.0, on.1, other, old_core on.0 on.1 other on.2, on.3, sym (legs_other decision.unit on.0 other) ∙ on.4)
          ]) done.fresh free done.charged;
        }
      where
        old_core : (k : ℕ) (x : Resource) → k ≢ r → at_place (put_at r (decided_core t decision c) pool.resources) k ≡ Some x → at_place pool.resources k ≡ Some x
        old_core k x other at_k = sym (at_place-put_at_other r k (decided_core t decision c) pool.resources other) ∙ at_k

        new_unit : (k : ℕ) (x : Resource) (u : UnitId) → k ≡ r → at_place (put_at r (decided_core t decision c) pool.resources) k ≡ Some x → x.cur ≡ Some u → decision.unit ≡ Some u
        new_unit k x u e at_k own =
            let here : at_place (put_at r (decided_core t decision c) pool.resources) r ≡ Some (decided_core t decision c) = at_place-put_at r (decided_core t decision c) pool.resources (place_below pool.resources r c at) in
            let there : at_place (put_at r (decided_core t decision c) pool.resources) r ≡ Some x = subst (λ j. at_place (put_at r (decided_core t decision c) pool.resources) j ≡ Some x) e at_k in
            let same : decided_core t decision c ≡ x = (let s : Some (decided_core t decision c) ≡ Some x = sym here ∙ there in cc) in
            sym decided_is ∙ ap (λ (y : Resource). y.cur) same ∙ own

        less : IsLegged g t legs pool → Charged Others t pool.scheduler.records
        less w = charged_less (OnSince legs pool.resources) Others t pool.scheduler.records (λ d n b on. (on.0, on.1, on.3, on.4, on.5)) w.charged
