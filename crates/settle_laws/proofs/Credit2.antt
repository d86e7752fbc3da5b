-- A decision of a Credit2 core: charges up to the moment and resets change no order, and the chosen unit has the greatest credit.
use Rattle.std.proofs.Common.{◌≡◌, ◌<◌, ◌-◌, ◌*◌, ◌/◌, ℕ, zero, suc, Bool, true, false, not, List, [], ◌∷◌, refl, sym, ap, subst, ◌∙◌, cond, inl, inr, ◌⊎◌, arith}
use Rattle.std.specs.Prelude.{Option, Some, None, ◌&&◌, ◌||◌, option_map, int_lt, nat_lt, is_some, pos, ℤ, ◌+ℤ◌, ◌-ℤ◌, filter}
use Rattle.std.specs.Int.{int_min}
use Rattle.std.specs.List.{AllByRecursion}
use Rattle.std.proofs.Math.Decide.{ℕ_discrete}
use Rattle.std.proofs.Math.Nat.{mod-lt}
use Rattle.std.proofs.lemmas.Int.{ints, clamps}
use Rattle.sched_base.proofs.Bools.{and_left, and_right, and_false, clash}
use Rattle.sched_base.specs.Credit2Numbers.{burned_residual, undivided_charge, raised_credit}
use Rattle.sched_base.specs.declared.Cores.{Cores}
use Rattle.sched_base.specs.declared.UnitId.{UnitId}
use Rattle.sched_model.specs.declared.state.Credit2Records.{Credit2Records}
use Rattle.sched_model.specs.declared.state.Records.{Records}
use Rattle.sched_model.specs.declared.state.Records.TheVariants.{Credit2Pool}
use Rattle.sched_model.specs.declared.state.Scheduler.{Scheduler}
use Rattle.sched_model.specs.declared.ask.Ask.{Ask}
use Rattle.sched_model.specs.Places.{at_place, has_listed_unit, is_unit, same_unit}
use Rattle.sched_model.specs.EligibleUnits.{Decision, is_unit_allowed, is_unit_eligible, eligible_units, may_have_core}
use Rattle.sched_model.specs.Policy.{after_decision, decision_of, is_unit_better}
use Rattle.sched_model.specs.Pool.{same_choice}
use Rattle.sched_model.specs.Credit2 as credit2
use Rattle.sched_model.specs.Credit2.{own_burned_records, burned_unit, change_unit, unit_credit, has_domain_budget, richest_unit, is_rate_limited, most_weight, reset_records, running_records, off_records}
use Rattle.sched_laws.proofs.Choices.{greatest_has, same_unit_same}
use Rattle.sched_laws.proofs.Counts.{same_unit_refl}
use Rattle.sched_laws.proofs.EachPlace.{by_cond, by_option}
use Rattle.sched_laws.specs.PoolFacts.{IfUnit}
use Rattle.record_laws.specs.Decisions.{number_in, resets_for}
use Rattle.record_laws.proofs.Best.{is_best, none_listed}
use Rattle.record_laws.proofs.Charges.{most_decided}
use Rattle.record_laws.proofs.Credit2Seen.{decided_limit, decided_records, domain_burned, domain_decided, most_stays, own_limit, records_decided, taken_records}
use Rattle.record_laws.proofs.Orders.{credit_order, greatest_scan, has_more}
use Rattle.settle_laws.specs.Frees.{frees, lets_run}
use Rattle.settle_laws.specs.Ready.{HasRecord, IsOff}
use Rattle.settle_laws.specs.Wanted.{waits_for}
use Rattle.settle_laws.proofs.Waiting.{Left, has_filter}
use Rattle.settle_laws.proofs.Spares.{Apart, Spares, others_from, own_from}
use Rattle.settle_laws.proofs.Views.{View, view, of_domain, view_of, burn_view, credit_in, now_of, up, reset_view, with_burned, no_time, again, credit_is, now_is, view_other, view_taken, view_burned, view_own, view_off, view_run, view_reset}
use Rattle.settle_laws.proofs.Budgets.{budget_at, budget_burned, budget_chosen, budget_same}
use Rattle.settle_laws.proofs.Tests.{false_if}

-- resets change no order
up_less : (m : ℕ) (a b : ℤ) → int_lt (up m a) (up m b) ≡ true → int_lt a b ≡ true
up_less zero a b is = is
up_less (suc m) a b is = raised a b (pos (suc m * 10000000)) (pos 10500000) is
  where
    raised : (a b k l : ℤ) → int_lt (int_min (a +ℤ k) l) (int_min (b +ℤ k) l) ≡ true → int_lt a b ≡ true
    raised a b k l is = grind (arith, ints, clamps, is)

-- what a view that is not on, or was charged up to the moment, becomes by a reset_records
off_burned : (most t : ℕ) (v : View) → v.burned ≡ None → burn_view most t v ≡ v
off_burned most t v off =
    ap (λ (o : Option ℕ). elim o as (λ _. View) [
      | None ↦ v
      | Some from ↦ record v { credit = v.credit -ℤ pos (undivided_charge v.residual most (t - from) / v.weight); residual = burned_residual v.residual v.weight most (t - from); burned = Some t }
    ]) off

cut_burned : (most t : ℕ) (v : View) → v.residual < v.weight → (burn_view most t v).residual < (burn_view most t v).weight
cut_burned most t v cut =
    by_option (λ (x : View). x.residual < x.weight) v.burned _ _ (λ none. cut) (λ from some. mod-lt (undivided_charge v.residual most (t - from)) (let l = cut in omega (arith, l)))

cut_reset : (most t m : ℕ) (v : View) → v.residual < v.weight → (reset_view most t m v).residual < (reset_view most t m v).weight
cut_reset most t zero v cut = cut
cut_reset most t (suc m) v cut = cut_burned most t v cut

reset_credit : (most t m : ℕ) (v : View) → (burn_view most t v).credit ≡ v.credit → (reset_view most t m v).credit ≡ up m v.credit
reset_credit most t zero v calm = refl
reset_credit most t (suc m) v calm = ap (λ (c : ℤ). raised_credit c (suc m)) calm

reset_now : (most t m : ℕ) (v : View) → v.residual < v.weight → (burn_view most t (reset_view most t m v)).credit ≡ up m (burn_view most t v).credit
reset_now most t zero v cut = refl
reset_now most t (suc m) v cut = again most t v (raised_credit (burn_view most t v).credit (suc m)) cut

-- a unit's view
record Seen (records : Credit2Records) (u : UnitId) : Type 0 where
  it : View
  is : view_of records u ≡ Some it

abbrev seen : (records : Credit2Records) (u : UnitId) → HasRecord records u → Seen records u
seen records u has = record {
  it = view has.domain.weight has.unit;
  is = ap (of_domain u.n) has.at ∙ ap (option_map (view has.domain.weight)) has.there;
}

-- what a waiting unit asks for
abbrev asks_for : Option UnitId → Credit2Records → ℕ → ℕ → UnitId → Bool → Bool
asks_for None records since t w allowed = allowed && has_domain_budget records w
asks_for (Some x) records since t w allowed = (allowed && has_domain_budget records w) && credit2.has_more_credit records x since t w

waits_is : (s : Scheduler) (records : Credit2Records) (cur : Option UnitId) (since t k home : ℕ) (w : UnitId) → s.records ≡ Credit2Pool records
    → waits_for cur since t k home s w ≡ asks_for cur records since t w (is_unit_allowed s home k w)
waits_is s records None since t k home w is = ap (λ (r : Records). is_unit_allowed s home k w && may_have_core r s home k t w) is
waits_is s records (Some x) since t k home w is = ap (λ (r : Records). (is_unit_allowed s home k w && may_have_core r s home k t w) && is_unit_better r x since t w) is

better_is : (records : Credit2Records) (x : UnitId) (since t : ℕ) (w : UnitId) → credit2.has_more_credit records x since t w ≡ (not (is_rate_limited records since t) && int_lt (now_of (most_weight records) t (view_of records x)) (credit_in (view_of records w)))
better_is records x since t w =
    ap (λ (a : ℤ). not (is_rate_limited records since t) && int_lt a (unit_credit records w)) (now_is (most_weight records) t x records)
    ∙ ap (λ (a : ℤ). not (is_rate_limited records since t) && int_lt (now_of (most_weight records) t (view_of records x)) a) (credit_is records w)

all_in : (P : UnitId → Type 0) (test : UnitId → Bool) (units : List UnitId) → ((u : UnitId) → has_listed_unit units u ≡ true → test u ≡ true → P u) → AllByRecursion P (filter test units)
all_in P test [] each = tt
all_in P test (w ∷ units) each =
    let later : AllByRecursion P (filter test units) = all_in P test units (λ u has may_have_core. each u (last (same_unit u w) (has_listed_unit units u) has) may_have_core) in
    elim (test w) as (λ b. test w ≡ b → AllByRecursion P (cond b (w ∷ filter test units) (filter test units))) [
      | true ↦ λ is. (each w (first (same_unit w w) (has_listed_unit units w) (same_unit_refl w)) is, later)
      | false ↦ λ is. later
    ] refl
  where
    last : (a b : Bool) → b ≡ true → (a || b) ≡ true
    last true b is = refl
    last false b is = is

    first : (a b : Bool) → a ≡ true → (a || b) ≡ true
    first true b is = refl
    first false b is = absurd (cc)

module _ (ask : Ask) (queue : List UnitId) (affinity : List (Option (List Cores))) (records : Credit2Records)
    (waits_not : (w : UnitId) → has_listed_unit queue w ≡ true → is_unit ask.cur w ≡ false)
    (off : (w : UnitId) → has_listed_unit queue w ≡ true → IsOff records w)
    (known : (u : UnitId) → ask.cur ≡ Some u → HasRecord records u)
    (cut : (u : UnitId) (v : View) → view_of records u ≡ Some v → v.residual < v.weight) where
  abbrev s : Scheduler
  s = record { queue = queue; affinity = affinity; records = Credit2Pool records }

  abbrev t : ℕ
  t = ask.at.0

  abbrev most : ℕ
  most = most_weight records

  abbrev burned : Credit2Records
  burned = own_burned_records ask.cur t records

  abbrev chosen : Option UnitId
  chosen = credit2.credit2_choice ask s burned

  abbrev decision : Decision
  decision = decision_of ask s

  abbrev next : Scheduler
  next = after_decision decision s

  -- how many resets a choice brings, and the records after it
  abbrev count : Option UnitId → ℕ
  count None = 0
  count (Some u) = credit2.reset_count t u burned

  abbrev taken : UnitId → Credit2Records
  taken = taken_records ask records

  abbrev last : Option UnitId → Credit2Records
  last = decided_records ask records

  unit_by : (o : Option UnitId) → (credit2.credit2_decision_for ask s burned o).unit ≡ o
  unit_by None = refl
  unit_by (Some u) = refl

  unit_is : decision.unit ≡ chosen
  unit_is = unit_by chosen

  records_is : next.records ≡ Credit2Pool (last chosen)
  records_is = records_decided ask records s chosen

  within_last : (o : Option UnitId) (since : ℕ) → is_rate_limited (last o) since t ≡ is_rate_limited records since t
  within_last o since = ap (λ (k : ℕ). nat_lt (t - since) (k * 1000)) (decided_limit ask records o)

  reset_of : (m : ℕ) (w : UnitId) → view_of (reset_records t m burned) w ≡ option_map (reset_view most t m) (view_of burned w)
  reset_of m w = view_reset t m burned w ∙ ap (λ (k : ℕ). option_map (reset_view k t m) (view_of burned w)) (most_stays ask.cur t records)

  same_view : (o : Option View) → o ≡ option_map (reset_view most t 0) o
  same_view None = refl
  same_view (Some v) = refl

  -- of a unit that is neither the core's own nor the chosen one
  view_last : (o : Option UnitId) (w : UnitId) → is_unit ask.cur w ≡ false → is_unit o w ≡ false → view_of (last o) w ≡ option_map (reset_view most t (count o)) (view_of records w)
  view_last None w own other = view_off ask.cur burned w own ∙ view_burned ask.cur t records w own ∙ same_view (view_of records w)
  view_last (Some u) w own other =
      view_other u w _ (off_records ask.cur (taken u)) other ∙ view_off ask.cur (taken u) w own ∙ view_taken u.dom.0 u.n (reset_records t (credit2.reset_count t u burned) burned) w
      ∙ reset_of (credit2.reset_count t u burned) w ∙ ap (option_map (reset_view most t (credit2.reset_count t u burned))) (view_burned ask.cur t records w own)

  -- the credit of one that waits, and what another core's own unit has now
  waiting_credit : (o : Option UnitId) (w : UnitId) → has_listed_unit queue w ≡ true → is_unit o w ≡ false → credit_in (view_of (last o) w) ≡ up (count o) (credit_in (view_of records w))
  waiting_credit o w waits other =
      let v = seen records w (off w waits).known in
      let calm : (burn_view most t v.it).credit ≡ v.it.credit = ap (λ (x : View). x.credit) (off_burned most t v.it (off w waits).off) in
      ap credit_in (view_last o w (waits_not w waits) other ∙ ap (option_map (reset_view most t (count o))) v.is)
      ∙ reset_credit most t (count o) v.it calm
      ∙ sym (ap (λ (x : Option View). up (count o) (credit_in x)) v.is)

  running_now : (o : Option UnitId) (x : UnitId) → HasRecord records x → is_unit ask.cur x ≡ false → is_unit o x ≡ false → now_of most t (view_of (last o) x) ≡ up (count o) (now_of most t (view_of records x))
  running_now o x has own other =
      let v = seen records x has in
      ap (now_of most t) (view_last o x own other ∙ ap (option_map (reset_view most t (count o))) v.is)
      ∙ reset_now most t (count o) v.it (cut x v.it v.is)
      ∙ sym (ap (λ (y : Option View). up (count o) (now_of most t y)) v.is)

  better_before : (o : Option UnitId) (x w : UnitId) (since : ℕ) → HasRecord records x → is_unit ask.cur x ≡ false → is_unit o x ≡ false → has_listed_unit queue w ≡ true → is_unit o w ≡ false
      → credit2.has_more_credit (last o) x since t w ≡ true → credit2.has_more_credit records x since t w ≡ true
  better_before o x w since has own other_x waits other_w is =
      let raw = sym (better_is (last o) x since t w) ∙ is in
      let within : not (is_rate_limited records since t) ≡ true = ap not (sym (within_last o since)) ∙ and_left _ _ raw in
      let less : int_lt (up (count o) (now_of most t (view_of records x))) (up (count o) (credit_in (view_of records w))) ≡ true =
      ap (λ (a : ℤ). int_lt a (up (count o) (credit_in (view_of records w)))) (sym (running_now o x has own other_x))
      ∙ ap (λ (k : ℕ). int_lt (now_of k t (view_of (last o) x)) (up (count o) (credit_in (view_of records w)))) (sym (most_decided ask records o))
      ∙ ap (λ (a : ℤ). int_lt (now_of (most_weight (last o)) t (view_of (last o) x)) a) (sym (waiting_credit o w waits other_w))
      ∙ and_right _ _ raw in
      better_is records x since t w
      ∙ ap (λ (b : Bool). b && int_lt (now_of most t (view_of records x)) (credit_in (view_of records w))) within
      ∙ up_less (count o) _ _ less

  -- a domain that may run after the choice may run before it, once the core's own unit gave back what it held
  budget_last : (o : Option UnitId) (w : UnitId) → has_domain_budget (last o) w ≡ true → has_domain_budget burned w ≡ true
  budget_last o w is =
      ap budget_at (domain_burned ask records w.dom.0)
      ∙ budget_chosen most (most_weight burned) t (resets_for t burned o) (number_in w.dom.0 ask.cur) (number_in w.dom.0 o) (at_place records.domains w.dom.0) (sym (ap budget_at (domain_decided ask records o w.dom.0)) ∙ is)

  -- and before that too, where the own unit's domain gains nothing
  abbrev gains : Option UnitId → Bool
  gains cur = elim cur as (λ _. Bool) [ None ↦ false | Some v ↦ not (has_domain_budget records v) && has_domain_budget (last chosen) v ]

  lets_by : (o : Option UnitId) (v : UnitId) → lets_run (credit2.credit2_decision_for ask s burned o).records v ≡ has_domain_budget (last o) v
  lets_by None v = refl
  lets_by (Some u) v = refl

  budget_before : (calm : frees ask s ≡ false) (w : UnitId) → has_domain_budget (last chosen) w ≡ true → has_domain_budget records w ≡ true
  budget_before calm w is = by_cur ask.cur refl
    where
      had : (a b : Bool) → b ≡ true → (not a && b) ≡ false → a ≡ true
      had true b f n = refl
      had false b f n = absurd (cc)

      by_cur : (o : Option UnitId) → ask.cur ≡ o → has_domain_budget records w ≡ true
      by_cur None none = sym (ap (λ (x : Option UnitId). has_domain_budget (own_burned_records x t records) w) none) ∙ budget_last chosen w is
      by_cur (Some v) some =
          elim (ℕ_discrete v.dom.0 w.dom.0) [
            | yes e ↦ (
                let runs : has_domain_budget (last chosen) v ≡ true = budget_same (last chosen) v w e ∙ is in
                let none : (not (has_domain_budget records v) && has_domain_budget (last chosen) v) ≡ false =
                ap (λ (b : Bool). not (has_domain_budget records v) && b) (sym (lets_by chosen v))
                ∙ sym (ap (λ (x : Option UnitId). elim x as (λ _. Bool) [ None ↦ false | Some y ↦ not (has_domain_budget records y) && lets_run decision.records y ]) some)
                ∙ calm in
                sym (budget_same records v w e) ∙ had (has_domain_budget records v) (has_domain_budget (last chosen) v) runs none)
            | no ne ↦ (sym (budget_burned v t records w ne) ∙ sym (ap (λ (x : Option UnitId). has_domain_budget (own_burned_records x t records) w) some) ∙ budget_last chosen w is)
          ]

  -- what a decision leaves of the claims of those that wait
  others : (calm : frees ask s ≡ false) (k : ℕ) (cur : Option UnitId) (since : ℕ) → ((x : UnitId) → cur ≡ Some x → Apart ask s x) → ((x : UnitId) → cur ≡ Some x → is_unit chosen x ≡ false) → (w : UnitId) → Left decision.unit queue w
      → waits_for cur since t k ask.home.0 next w ≡ true → waits_for cur since t k ask.home.0 s w ≡ true
  others calm k cur since apart other w left is =
      waits_is s records cur since t k ask.home.0 w refl ∙ by_cur cur apart other (sym (waits_is next (last chosen) cur since t k ask.home.0 w records_is) ∙ is)
    where
      allowed : Bool
      allowed = is_unit_allowed s ask.home.0 k w

      not_chosen : is_unit chosen w ≡ false
      not_chosen = ap (λ (o : Option UnitId). is_unit o w) (sym unit_is) ∙ left.other

      runs : (allowed && has_domain_budget (last chosen) w) ≡ true → (allowed && has_domain_budget records w) ≡ true
      runs may =
          ap (λ (b : Bool). b && has_domain_budget records w) (and_left allowed (has_domain_budget (last chosen) w) may)
          ∙ budget_before calm w (and_right allowed (has_domain_budget (last chosen) w) may)

      by_cur : (cur : Option UnitId) → ((x : UnitId) → cur ≡ Some x → Apart ask s x) → ((x : UnitId) → cur ≡ Some x → is_unit chosen x ≡ false) → asks_for cur (last chosen) since t w allowed ≡ true → asks_for cur records since t w allowed ≡ true
      by_cur None apart other may = runs may
      by_cur (Some x) apart other may =
          ap (λ (b : Bool). b && credit2.has_more_credit records x since t w) (runs (and_left (allowed && has_domain_budget (last chosen) w) _ may))
          ∙ better_before chosen x w since ((apart x refl).known records refl) (apart x refl).other (other x refl) left.waits not_chosen (and_right (allowed && has_domain_budget (last chosen) w) _ may)

  -- the core's own choice
  abbrev at_choice : Scheduler
  at_choice = record s { records = Credit2Pool burned }

  abbrev asked : List UnitId
  asked = eligible_units at_choice ask.home.0 ask.core.0 t

  abbrev own_unit : Option UnitId
  own_unit = credit2.credit2_candidate ask s burned

  abbrev keeps_on : Bool
  keeps_on = is_some own_unit && is_rate_limited burned ask.since.0 t

  -- a unit that may be chosen: it may have the core, it has a record, it is charged up to the moment, and it is the core's own or waits
  record IsFit (u : UnitId) : Type 0 where
    allowed : is_unit_allowed s ask.home.0 ask.core.0 u ≡ true
    it : View
    is : view_of burned u ≡ Some it
    low : it.residual < it.weight
    calm : (burn_view most t it).credit ≡ it.credit
    from : (ask.cur ≡ Some u) ⊎ (has_listed_unit queue u ≡ true)

  own_view : (u : UnitId) → ask.cur ≡ Some u → view_of burned u ≡ option_map (burn_view most t) (view_of records u)
  own_view u is = ap (λ (o : Option UnitId). view_of (own_burned_records o t records) u) is ∙ view_own u t records

  own_fit : (u : UnitId) → ask.cur ≡ Some u → is_unit_allowed s ask.home.0 ask.core.0 u ≡ true → IsFit u
  own_fit u is may =
      let v = seen records u (known u is) in
      record {
        allowed = may;
        it = burn_view most t v.it;
        is = own_view u is ∙ ap (option_map (burn_view most t)) v.is;
        low = cut_burned most t v.it (cut u v.it v.is);
        calm = again most t v.it (burn_view most t v.it).credit (cut u v.it v.is);
        from = inl is;
      }

  waiting_fit : (w : UnitId) → has_listed_unit queue w ≡ true → is_unit_eligible at_choice ask.home.0 ask.core.0 t w ≡ true → IsFit w
  waiting_fit w waits may =
      let v = seen records w (off w waits).known in
      record {
        allowed = and_left (is_unit_allowed s ask.home.0 ask.core.0 w) _ may;
        it = v.it;
        is = view_burned ask.cur t records w (waits_not w waits) ∙ v.is;
        low = cut w v.it v.is;
        calm = ap (λ (x : View). x.credit) (off_burned most t v.it (off w waits).off);
        from = inr waits;
      }

  own_fits : IfUnit IsFit own_unit
  own_fits =
      by_option (IfUnit IsFit) ask.cur _ _ (λ is. tt)
      (λ u is. by_cond (IfUnit IsFit) (ask.runnable && is_unit_allowed s ask.home.0 ask.core.0 u && has_domain_budget burned u) _ _ (λ may. own_fit u is (and_right ask.runnable _ (and_left (ask.runnable && is_unit_allowed s ask.home.0 ask.core.0 u) _ may))) (λ may. tt))

  chosen_fits : IfUnit IsFit chosen
  chosen_fits =
      by_cond (IfUnit IsFit) ask.leaving _ _ (λ is. tt)
      (λ is. by_cond (IfUnit IsFit) keeps_on own_unit _ (λ on. own_fits)
      (λ on. greatest_has IsFit burned own_unit asked own_fits (all_in IsFit (is_unit_eligible at_choice ask.home.0 ask.core.0 t) queue waiting_fit)))

  fit_of : (u : UnitId) → chosen ≡ Some u → IsFit u
  fit_of u is = subst (IfUnit IsFit) is chosen_fits

  -- another core's own unit was not chosen
  not_chosen_elsewhere : (x : UnitId) → Apart ask s x → is_unit chosen x ≡ false
  not_chosen_elsewhere x apart = by_chosen chosen refl
    where
      by_chosen : (o : Option UnitId) → chosen ≡ o → is_unit o x ≡ false
      by_chosen None is = refl
      by_chosen (Some u) is = false_if (same_unit u x) (λ same.
          let e : u ≡ x = same_unit_same u x same in
          elim (fit_of u is).from [
            | inl own ↦ clash (is_unit ask.cur x) (ap (λ (o : Option UnitId). is_unit o x) own ∙ same) apart.other
            | inr waits ↦ clash (has_listed_unit queue x) (subst (λ (y : UnitId). has_listed_unit queue y ≡ true) e waits) apart.waits_not
          ])

  -- what the chosen unit has on its core
  own_taken : (u : UnitId) → view_of (last (Some u)) u ≡ option_map (with_burned (Some t)) (view_of (taken u) u)
  own_taken u = view_run (Some t) u (off_records ask.cur (taken u)) ∙ by_cur ask.cur
    where
      twice : (o : Option View) → option_map (with_burned (Some t)) (option_map (with_burned None) o) ≡ option_map (with_burned (Some t)) o
      twice None = refl
      twice (Some v) = refl

      by_cur : (cur : Option UnitId) → option_map (with_burned (Some t)) (view_of (off_records cur (taken u)) u) ≡ option_map (with_burned (Some t)) (view_of (taken u) u)
      by_cur None = refl
      by_cur (Some v) = elim (same_unit v u) as (λ b. same_unit v u ≡ b → option_map (with_burned (Some t)) (view_of (off_records (Some v) (taken u)) u) ≡ option_map (with_burned (Some t)) (view_of (taken u) u)) [
        | true ↦ λ same. (
            let e : v ≡ u = same_unit_same v u same in
            ap (λ (x : UnitId). option_map (with_burned (Some t)) (view_of (running_records None x (taken u)) u)) e
            ∙ ap (option_map (with_burned (Some t))) (view_run None u (taken u))
            ∙ twice (view_of (taken u) u))
        | false ↦ λ other. ap (option_map (with_burned (Some t))) (view_off (Some v) (taken u) u other)
      ] refl

  chosen_now : (u : UnitId) → IsFit u → now_of most t (view_of (last (Some u)) u) ≡ up (count (Some u)) (unit_credit burned u)
  chosen_now u fit =
      let m : ℕ = credit2.reset_count t u burned in
      let v : View = reset_view most t m fit.it in
      ap (now_of most t) (own_taken u ∙ ap (option_map (with_burned (Some t))) (view_taken u.dom.0 u.n (reset_records t m burned) u ∙ reset_of m u ∙ ap (option_map (reset_view most t m)) fit.is))
      ∙ no_time v.credit v.residual v.weight most t (cut_reset most t m fit.it fit.low)
      ∙ reset_credit most t m fit.it fit.calm
      ∙ sym (ap (up m) (credit_is burned u ∙ ap credit_in fit.is))

  own : (calm : frees ask s ≡ false) (since : ℕ) → ask.leaving ≡ false → (same_choice decision.unit ask.cur ≡ true → since ≡ ask.since.0) → (w : UnitId) → Left decision.unit queue w
      → waits_for decision.unit since t ask.core.0 ask.home.0 next w ≡ false
  own calm since stays fits w left =
      ap (λ (o : Option UnitId). waits_for o since t ask.core.0 ask.home.0 next w) unit_is
      ∙ waits_is next (last chosen) chosen since t ask.core.0 ask.home.0 w records_is
      ∙ by_on keeps_on refl
    where
      allowed : Bool
      allowed = is_unit_allowed s ask.home.0 ask.core.0 w

      not_chosen : is_unit chosen w ≡ false
      not_chosen = ap (λ (o : Option UnitId). is_unit o w) (sym unit_is) ∙ left.other

      choice_is : chosen ≡ cond keeps_on own_unit (richest_unit burned own_unit asked)
      choice_is = ap (λ (b : Bool). cond b None (cond keeps_on own_unit (richest_unit burned own_unit asked))) stays

      -- a waiting unit that may run after the choice was asked about
      was_asked : (allowed && has_domain_budget (last chosen) w) ≡ true → has_listed_unit asked w ≡ true
      was_asked may =
          has_filter (is_unit_eligible at_choice ask.home.0 ask.core.0 t) queue w left.waits
          (ap (λ (b : Bool). b && has_domain_budget burned w) (and_left allowed (has_domain_budget (last chosen) w) may) ∙ budget_last chosen w (and_right allowed (has_domain_budget (last chosen) w) may))

      -- the core's own unit goes on within the rate limit
      goes_on : keeps_on ≡ true → (o : Option UnitId) → chosen ≡ o → asks_for o (last chosen) since t w allowed ≡ false
      goes_on on None is = absurd (
          let none : own_unit ≡ None = sym (choice_is ∙ ap (λ (b : Bool). cond b own_unit (richest_unit burned own_unit asked)) on) ∙ is in
          clash (is_some own_unit) (and_left (is_some own_unit) _ on) (ap (λ (o : Option UnitId). is_some o) none))
      goes_on on (Some u) is =
          let own_is : own_unit ≡ Some u = sym (choice_is ∙ ap (λ (b : Bool). cond b own_unit (richest_unit burned own_unit asked)) on) ∙ is in
          let cur_is : ask.cur ≡ Some u = own_cur u own_is in
          let same : since ≡ ask.since.0 = fits (ap (λ (o : Option UnitId). same_choice o ask.cur) (unit_is ∙ is) ∙ ap (same_choice (Some u)) cur_is ∙ same_unit_refl u) in
          let within : is_rate_limited (last chosen) since t ≡ true =
          ap (λ (k : ℕ). is_rate_limited (last chosen) k t) same
          ∙ within_last chosen ask.since.0
          ∙ sym (ap (λ (k : ℕ). nat_lt (t - ask.since.0) (k * 1000)) (own_limit t ask.cur records))
          ∙ and_right (is_some own_unit) _ on in
          ap (λ (b : Bool). (allowed && has_domain_budget (last chosen) w) && (not b && int_lt (unit_credit (change_unit u (burned_unit (most_weight (last chosen)) t) (last chosen)) u) (unit_credit (last chosen) w))) within
          ∙ and_false (allowed && has_domain_budget (last chosen) w)
        where
          own_cur : (u : UnitId) → own_unit ≡ Some u → ask.cur ≡ Some u
          own_cur u is = by_cur ask.cur refl is
            where
              by_runs : (b : Bool) (v : UnitId) → cond b (Some v) None ≡ Some u → v ≡ u
              by_runs true v is = cc
              by_runs false v is = absurd (cc)

              by_cur : (o : Option UnitId) → ask.cur ≡ o → elim o as (λ _. Option UnitId) [ None ↦ None | Some v ↦ cond (ask.runnable && is_unit_allowed s ask.home.0 ask.core.0 v && has_domain_budget burned v) (Some v) None ] ≡ Some u → ask.cur ≡ Some u
              by_cur None none is = absurd (cc)
              by_cur (Some v) some is = some ∙ ap (λ (x : UnitId). Some x) (by_runs (ask.runnable && is_unit_allowed s ask.home.0 ask.core.0 v && has_domain_budget burned v) v is)

      -- or the unit of the greatest credit is chosen
      greatest : keeps_on ≡ false → (o : Option UnitId) → chosen ≡ o → asks_for o (last chosen) since t w allowed ≡ false
      greatest on None is = false_if (allowed && has_domain_budget (last chosen) w) (λ may. none_listed (credit_order burned) (greatest_scan burned) own_unit w asked (was_asked may) (sym (choice_is ∙ ap (λ (b : Bool). cond b own_unit (richest_unit burned own_unit asked)) on) ∙ is))
      greatest on (Some u) is = false_if _ (λ asks.
          let may = and_left (allowed && has_domain_budget (last chosen) w) _ asks in
          let best : richest_unit burned own_unit asked ≡ Some u = sym (choice_is ∙ ap (λ (b : Bool). cond b own_unit (richest_unit burned own_unit asked)) on) ∙ is in
          let none : has_more burned w u ≡ false = (is_best (credit_order burned) (greatest_scan burned) own_unit asked u best).none_better w (was_asked may) in
          let raw = sym (better_is (last chosen) u since t w) ∙ and_right (allowed && has_domain_budget (last chosen) w) _ asks in
          let less : int_lt (up (count chosen) (unit_credit burned u)) (up (count chosen) (unit_credit burned w)) ≡ true =
          ap (λ (a : ℤ). int_lt a (up (count chosen) (unit_credit burned w))) (sym (now u is))
          ∙ ap (λ (k : ℕ). int_lt (now_of k t (view_of (last chosen) u)) (up (count chosen) (unit_credit burned w))) (sym (most_decided ask records chosen))
          ∙ ap (λ (a : ℤ). int_lt (now_of (most_weight (last chosen)) t (view_of (last chosen) u)) a) (ap (up (count chosen)) (credit_is burned w ∙ ap credit_in (view_burned ask.cur t records w (waits_not w left.waits))) ∙ sym (waiting_credit chosen w left.waits not_chosen))
          ∙ and_right _ _ raw in
          clash (has_more burned w u) (up_less (count chosen) (unit_credit burned u) (unit_credit burned w) less) none)
        where
          now : (u : UnitId) → chosen ≡ Some u → now_of most t (view_of (last chosen) u) ≡ up (count chosen) (unit_credit burned u)
          now u is = subst (λ (o : Option UnitId). now_of most t (view_of (last o) u) ≡ up (count o) (unit_credit burned u)) (sym is) (chosen_now u (fit_of u is))

      by_on : (b : Bool) → keeps_on ≡ b → asks_for chosen (last chosen) since t w allowed ≡ false
      by_on true on = goes_on on chosen refl
      by_on false on = greatest on chosen refl

  pub credit2_spares : frees ask s ≡ false → Spares ask s
  credit2_spares calm = record {
    others = λ k cur since other apart is. others_from decision s k t ask.home.0 cur since (others calm k cur since apart (λ x at. not_chosen_elsewhere x (apart x at))) is;
    own = λ since stays fits. own_from decision s ask.core.0 t ask.home.0 since
        (λ u is. (fit_of u (sym unit_is ∙ is)).allowed)
        (own calm since stays fits);
  }
