-- What a scan of the units that wait finds, by the first that may run.
use Rattle.std.proofs.Common.{◌≡◌, Bool, true, false, not, List, [], ◌∷◌, refl, ap, sym, ◌∙◌, arith, cond, inl, inr}
use Rattle.std.specs.Prelude.{Option, Some, None, is_some, filter, ◌&&◌, ◌||◌, int_lt, if◌then◌else◌, ℤ, pos}
use Rattle.std.specs.List.{list_any}
use Rattle.std.proofs.lemmas.Int.{ints}
use Rattle.sched_base.specs.declared.Cores.{Cores}
use Rattle.sched_base.specs.declared.UnitId.{UnitId}
use Rattle.sched_model.specs.declared.ask.Ask.{Ask}
use Rattle.sched_model.specs.declared.state.Scheduler.{Scheduler}
use Rattle.sched_model.specs.declared.state.Credit2Records.{Credit2Records}
use Rattle.sched_model.specs.declared.state.Records.TheVariants.{Credit2Pool}
use Rattle.sched_model.specs.Places.{same_unit, without_unit}
use Rattle.sched_model.specs.EligibleUnits.{eligible_units}
use Rattle.sched_model.specs.Credit2.{richest_unit, unit_credit, credit2_choice, credit2_candidate, is_rate_limited, best_other_credit}
use Rattle.scheduler_records.specs.Parts.{credit2_scheduler}
use Rattle.scheduler_records.proofs.Items.{filter-both}
use Rattle.credit2_core.specs.Choice.{may_take, best_of, credit_or_0}
use Rattle.std.proofs.Math.Bool.{or_assoc, and_comm, and-false}
use Rattle.std.proofs.lemmas.Bool.{cases_Bool}

or-false : (b : Bool) → b ≡ (b || false)
or-false true = refl
or-false false = refl

greatest_some : (records : Credit2Records) (best : UnitId) (units : List UnitId) → is_some (richest_unit records (Some best) units) ≡ true
greatest_some records best [] = refl
greatest_some records best (u ∷ units) = greatest_some records (if int_lt (unit_credit records best) (unit_credit records u) then u else best) units

-- whether some unit passes
pub some_passes : (records : Credit2Records) (p : UnitId → Bool) (units : List UnitId) → is_some (richest_unit records None (filter p units)) ≡ list_any p units
some_passes records p [] = refl
some_passes records p (u ∷ units) =
    elim (p u) as (λ b. is_some (richest_unit records None (cond b (u ∷ filter p units) (filter p units))) ≡ (b || list_any p units)) [
      | true ↦ greatest_some records u (filter p units)
      | false ↦ some_passes records p units
    ]

any_filter : (p q : UnitId → Bool) (units : List UnitId) → list_any q (filter p units) ≡ list_any (λ u. p u && q u) units
any_filter p q [] = refl
any_filter p q (u ∷ units) =
    elim (p u) as (λ b. list_any q (cond b (u ∷ filter p units) (filter p units)) ≡ ((b && q u) || list_any (λ w. p w && q w) units)) [
      | true ↦ ap (λ b. q u || b) (any_filter p q units)
      | false ↦ any_filter p q units
    ]

-- the greater of two credits is above a third where one of them is
above_greater : (records : Credit2Records) (own : ℤ) (best u : UnitId) → int_lt own (unit_credit records (if int_lt (unit_credit records best) (unit_credit records u) then u else best)) ≡ (int_lt own (unit_credit records best) || int_lt own (unit_credit records u))
above_greater records own best u =
    elim (int_lt (unit_credit records best) (unit_credit records u)) as (λ b. int_lt (unit_credit records best) (unit_credit records u) ≡ b → int_lt own (unit_credit records (if b then u else best)) ≡ (int_lt own (unit_credit records best) || int_lt own (unit_credit records u))) [
      | true ↦ λ is. greater own (unit_credit records best) (unit_credit records u) is
      | false ↦ λ is. no_greater own (unit_credit records best) (unit_credit records u) is
    ] refl
  where
    greater : (a b c : ℤ) → int_lt b c ≡ true → int_lt a c ≡ (int_lt a b || int_lt a c)
    greater a b c is = elim (cases_Bool (int_lt a b)) [
      | inl low ↦ (let e : int_lt a c ≡ true = grind (arith, ints, is, low) in rw (low, e) refl)
      | inr high ↦ rw high refl
    ]

    no_greater : (a b c : ℤ) → int_lt b c ≡ false → int_lt a b ≡ (int_lt a b || int_lt a c)
    no_greater a b c is = elim (cases_Bool (int_lt a b)) [
      | inl low ↦ rw low refl
      | inr high ↦ (let e : int_lt a c ≡ false = grind (arith, ints, is, high) in rw (high, e) refl)
    ]

-- whether the unit found has more credit
abbrev above : Credit2Records → ℤ → Option UnitId → Bool
above records own found = elim found [ None ↦ false | Some u ↦ int_lt own (unit_credit records u) ]

above_best : (records : Credit2Records) (own : ℤ) (best : UnitId) (units : List UnitId) → above records own (richest_unit records (Some best) units) ≡ (int_lt own (unit_credit records best) || list_any (λ u. int_lt own (unit_credit records u)) units)
above_best records own best [] = or-false (int_lt own (unit_credit records best))
above_best records own best (u ∷ units) =
    above_best records own (if int_lt (unit_credit records best) (unit_credit records u) then u else best) units
    ∙ ap (λ b. b || list_any (λ w. int_lt own (unit_credit records w)) units) (above_greater records own best u)
    ∙ or_assoc (int_lt own (unit_credit records best)) (int_lt own (unit_credit records u)) (list_any (λ w. int_lt own (unit_credit records w)) units)

above_any : (records : Credit2Records) (own : ℤ) (units : List UnitId) → above records own (richest_unit records None units) ≡ list_any (λ u. int_lt own (unit_credit records u)) units
above_any records own [] = refl
above_any records own (u ∷ units) = above_best records own u units

-- a unit that passes is better than a core's own where the first of them is
pub better_passes : (records : Credit2Records) (within : Bool) (own : ℤ) (p : UnitId → Bool) (units : List UnitId)
    → elim (richest_unit records None (filter p units)) as (λ _. Bool) [ None ↦ false | Some u ↦ within && int_lt own (unit_credit records u) ] ≡ list_any (λ u. p u && (within && int_lt own (unit_credit records u))) units
better_passes records true own p units = above_any records own (filter p units) ∙ any_filter p (λ u. int_lt own (unit_credit records u)) units
better_passes records false own p units = none_found (richest_unit records None (filter p units)) ∙ sym (none_there units)
  where
    none_found : (o : Option UnitId) → elim o as (λ _. Bool) [ None ↦ false | Some u ↦ false ] ≡ false
    none_found None = refl
    none_found (Some u) = refl

    none_there : (units : List UnitId) → list_any (λ u. p u && false) units ≡ false
    none_there [] = refl
    none_there (u ∷ units) = rw (and-false (p u)) (none_there units)

-- the choice is a scan, where the core's own unit does not go on by the rate limit
pub choice_scans : (ask : Ask) (scheduler : Scheduler) (records : Credit2Records) (own : Option UnitId) → ask.leaving ≡ false → credit2_candidate ask scheduler records ≡ own → (is_some own && is_rate_limited records ask.since.0 ask.at.0) ≡ false
    → credit2_choice ask scheduler records ≡ richest_unit records own (eligible_units (record scheduler { records = Credit2Pool records }) ask.home.0 ask.core.0 ask.at.0)
choice_scans ask scheduler records own stays is scans =
    let units : List UnitId = eligible_units (record scheduler { records = Credit2Pool records }) ask.home.0 ask.core.0 ask.at.0 in
    let keeps : Option UnitId → Option UnitId = λ o. if is_some o && is_rate_limited records ask.since.0 ask.at.0 then o else richest_unit records o units in
    ap (λ (b : Bool). if b then None else keeps (credit2_candidate ask scheduler records)) stays ∙ ap keeps is ∙ ap (λ (b : Bool). if b then own else richest_unit records own units) scans

-- two tests in either order
filter-swap : (p q : UnitId → Bool) (units : List UnitId) → filter p (filter q units) ≡ filter q (filter p units)
filter-swap p q units = filter-both p q units ∙ same units ∙ sym (filter-both q p units)
  where
    same : (units : List UnitId) → filter (λ u. p u && q u) units ≡ filter (λ u. q u && p u) units
    same [] = refl
    same (u ∷ units) = ap (λ (b : Bool). cond b (u ∷ filter (λ w. p w && q w) units) (filter (λ w. p w && q w) units)) (and_comm (p u) (q u)) ∙ ap (λ (us : List UnitId). cond (q u && p u) (u ∷ us) us) (same units)

-- the best of the others is the first that may run, once the chosen one has left the queue
pub other_best : (ask : Ask) (queue : List UnitId) (affinity : List (Option (List Cores))) (first records : Credit2Records) (u : UnitId)
    → credit_or_0 records (best_of (without_unit u queue) affinity ask.home.0 ask.core.0 records) ≡ best_other_credit ask (credit2_scheduler queue affinity first) records u
other_best ask queue affinity first records u =
    ap (λ (units : List UnitId). credit_or_0 records (richest_unit records None units)) (filter-swap (may_take affinity ask.home.0 ask.core.0 records) (λ w. not (same_unit u w)) queue) ∙ same_form (richest_unit records None (without_unit u (filter (may_take affinity ask.home.0 ask.core.0 records) queue)))
  where
    same_form : (o : Option UnitId) → credit_or_0 records o ≡ elim o as (λ _. ℤ) [ None ↦ pos 0 | Some w ↦ unit_credit records w ]
    same_form None = refl
    same_form (Some w) = refl
