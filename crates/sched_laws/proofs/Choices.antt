-- A decision gives a unit that waits, or the core's own that may go on.
use Rattle.std.proofs.Common.{◌≡◌, Bool, true, List, [], ◌∷◌, subst, sym, ap, cond, arith, inl, inr}
use Rattle.std.specs.List.{AllByRecursion}
use Rattle.std.specs.Prelude.{Option, Some, None, ◌&&◌, ◌||◌, int_lt, nat_lt}
use Rattle.std.proofs.lemmas.Bool.{or_cases}
use Rattle.sched_base.specs.declared.UnitId.{UnitId}
use Rattle.sched_model.specs.Places.{is_unit, has_listed_unit, same_unit}
use Rattle.sched_model.specs.declared.state.Scheduler.{Scheduler}
use Rattle.sched_model.specs.declared.state.Records.{Records}
use Rattle.sched_model.specs.declared.state.Credit2Records.{Credit2Records}
use Rattle.sched_model.specs.declared.state.RtdsUnit.{RtdsUnit}
use Rattle.sched_model.specs.declared.state.Records.TheVariants.{Credit2Pool, RtdsPool, ArincPool, NullPool}
use Rattle.sched_model.specs.declared.ask.Ask.{Ask}
use Rattle.sched_model.specs.EligibleUnits.{Decision, is_unit_allowed, is_unit_eligible, is_unit_placed, eligible_units}
use Rattle.sched_model.specs.Arinc.{Window}
use Rattle.sched_model.specs.Policy.{decision_of, decision_by, arinc_decision}
use Rattle.sched_model.specs.Credit2 as credit2
use Rattle.sched_model.specs.Rtds as rtds
use Rattle.sched_model.specs.NullScheduler as null
use Rattle.sched_base.proofs.Lists.{AllByRecursion-filter}
use Rattle.sched_laws.proofs.EachPlace.{by_option, by_cond}
use Rattle.sched_base.proofs.Bools.{and_left, and_right}
use Rattle.sched_laws.specs.PoolFacts.{IfUnit}

-- one of two tests passes
-- the test of sameness
pub same_unit_same : (u w : UnitId) → same_unit u w ≡ true → u ≡ w
same_unit_same u w same = grind arith

pub is_unit_same : (o : Option UnitId) (u : UnitId) → is_unit o u ≡ true → o ≡ Some u
is_unit_same None u is = absurd (cc)
is_unit_same (Some w) u is = ap (λ x. Some x) (same_unit_same w u is)

-- a unit of the list has what each has
pub at_unit : (P : UnitId → Type 0) (u : UnitId) (units : List UnitId) → has_listed_unit units u ≡ true → AllByRecursion P units → P u
at_unit P u [] has each = absurd (cc)
at_unit P u (w ∷ units) has each = elim (or_cases (same_unit u w) (has_listed_unit units u) has) [
  | inl is ↦ subst P (sym (same_unit_same u w is)) each.0
  | inr rest ↦ at_unit P u units rest each.1
]

module _ (P : UnitId → Type 0) where
  pub greatest_has : (records : Credit2Records) (best : Option UnitId) (units : List UnitId) → IfUnit P best → AllByRecursion P units → IfUnit P (credit2.richest_unit records best units)
  greatest_has records best [] own each = own
  greatest_has records None (u ∷ units) own each = greatest_has records (Some u) units each.0 each.1
  greatest_has records (Some best) (u ∷ units) own each =
      greatest_has records (Some (cond (int_lt (credit2.unit_credit records best) (credit2.unit_credit records u)) u best)) units (by_cond P _ u best (λ is. each.0) (λ is. own)) each.1

  pub foremost_has : (domains : List (Option (List RtdsUnit))) (best : Option UnitId) (units : List UnitId) → IfUnit P best → AllByRecursion P units → IfUnit P (rtds.first_of_units domains best units)
  foremost_has domains best [] own each = own
  foremost_has domains None (u ∷ units) own each = foremost_has domains (Some u) units each.0 each.1
  foremost_has domains (Some best) (u ∷ units) own each =
      foremost_has domains (Some (cond (rtds.is_unit_before domains u best) u best)) units (by_cond P _ u best (λ is. each.0) (λ is. own)) each.1

  module _ (ask : Ask) (scheduler : Scheduler) (waiting : AllByRecursion P scheduler.queue) (own : (u : UnitId) → ask.cur ≡ Some u → ask.runnable ≡ true → P u) where
    eligible_have : (records : Records) → AllByRecursion P (eligible_units (record scheduler { records = records }) ask.home.0 ask.core.0 ask.at.0)
    eligible_have records = AllByRecursion-filter P P _ (λ u is here. here) scheduler.queue waiting

    own2_has : (records : Credit2Records) → IfUnit P (credit2.credit2_candidate ask scheduler records)
    own2_has records =
        by_option (IfUnit P) ask.cur _ _ (λ is. tt)
        (λ u is. by_cond (IfUnit P) (ask.runnable && is_unit_allowed scheduler ask.home.0 ask.core.0 u && credit2.has_domain_budget records u) _ _ (λ may. own u is (and_left _ _ (and_left _ _ may))) (λ may. tt))

    choice2_has : (records : Credit2Records) → IfUnit P (credit2.credit2_choice ask scheduler records)
    choice2_has records =
        by_cond (IfUnit P) ask.leaving _ _ (λ is. tt)
        (λ is. by_cond (IfUnit P) _ (credit2.credit2_candidate ask scheduler records) _ (λ is2. own2_has records)
        (λ is2. greatest_has records (credit2.credit2_candidate ask scheduler records) _ (own2_has records) (eligible_have (Credit2Pool records))))

    own_rt_has : (domains : List (Option (List RtdsUnit))) → IfUnit P (rtds.rtds_candidate ask scheduler domains)
    own_rt_has domains =
        by_option (IfUnit P) ask.cur _ _ (λ is. tt)
        (λ u is. by_cond (IfUnit P) (ask.runnable && is_unit_allowed scheduler ask.home.0 ask.core.0 u && nat_lt 0 (rtds.unit_left_budget domains u)) _ _ (λ may. own u is (and_left _ _ (and_left _ _ may))) (λ may. tt))

    pub choice_rt_has : (domains : List (Option (List RtdsUnit))) → IfUnit P (rtds.rtds_choice ask scheduler domains)
    choice_rt_has domains =
        by_cond (IfUnit P) ask.leaving _ _ (λ is. tt)
        (λ is. foremost_has domains (rtds.rtds_candidate ask scheduler domains) _ (own_rt_has domains) (eligible_have (RtdsPool domains)))

    window_has : (window : Option Window) → IfUnit P (arinc_decision ask scheduler window).unit
    window_has None = tt
    window_has (Some window) =
        by_option (IfUnit P) window.unit _ _ (λ is. tt)
        (λ u is.
        let goes : Bool = is_unit ask.cur u && ask.runnable in
        let waits : Bool = has_listed_unit scheduler.queue u && is_unit_eligible scheduler ask.home.0 ask.core.0 ask.at.0 u in
        by_cond (IfUnit P) (goes || waits) (Some u) None (λ may. elim (or_cases goes waits may) [
          | inl cur ↦ own u (is_unit_same ask.cur u (and_left (is_unit ask.cur u) ask.runnable cur)) (and_right (is_unit ask.cur u) ask.runnable cur)
          | inr there ↦ at_unit P u scheduler.queue (and_left (has_listed_unit scheduler.queue u) (is_unit_eligible scheduler ask.home.0 ask.core.0 ask.at.0 u) there) waiting
        ]) (λ may. tt))

    earliest_has : (units : List UnitId) → AllByRecursion P units → IfUnit P (null.earliest_unit units)
    earliest_has [] each = tt
    earliest_has (u ∷ units) each = each.0

    pub null_has : (kept : List (Option UnitId)) → IfUnit P (null.null_choice ask scheduler kept)
    null_has kept =
        by_option (IfUnit P) ask.cur _ _ (λ is. earliest_has _ (AllByRecursion-filter P P _ (λ u is here. here) scheduler.queue waiting))
        (λ u is. by_cond (IfUnit P) (ask.runnable && is_unit_placed scheduler kept ask.home.0 ask.core.0 u) _ _ (λ may. own u is (and_left _ _ may))
        (λ may. earliest_has _ (AllByRecursion-filter P P _ (λ u is here. here) scheduler.queue waiting)))

    decide2_has : (records : Credit2Records) (chosen : Option UnitId) → IfUnit P chosen → IfUnit P (credit2.credit2_decision_for ask scheduler records chosen).unit
    decide2_has records None here = tt
    decide2_has records (Some u) here = here

    decide_rt_has : (domains : List (Option (List RtdsUnit))) (chosen : Option UnitId) → IfUnit P chosen → IfUnit P (rtds.rtds_decision_for ask domains chosen).unit
    decide_rt_has domains None here = tt
    decide_rt_has domains (Some u) here = here

    decide_null_has : (kept : List (Option UnitId)) (chosen : Option UnitId) → IfUnit P chosen → IfUnit P (null.null_decision_for ask.core.0 kept chosen).unit
    decide_null_has kept None here = tt
    decide_null_has kept (Some u) here = here

    decision_by_has : (records : Records) → IfUnit P (decision_by records ask scheduler).unit
    decision_by_has (Credit2Pool records) = decide2_has (credit2.own_burned_records ask.cur ask.at.0 records) _ (choice2_has (credit2.own_burned_records ask.cur ask.at.0 records))
    decision_by_has (RtdsPool domains) = decide_rt_has (rtds.own_burned_domains ask.cur ask.at.0 domains) _ (choice_rt_has (rtds.own_burned_domains ask.cur ask.at.0 domains))
    decision_by_has (ArincPool records) = window_has _
    decision_by_has (NullPool kept) =
        by_cond (λ (d : Decision). IfUnit P d.unit) ask.leaving _ _ (λ is. tt) (λ is. decide_null_has kept (null.null_choice ask scheduler kept) (null_has kept))

    pub decision_has : IfUnit P (decision_of ask scheduler).unit
    decision_has = decision_by_has scheduler.records
