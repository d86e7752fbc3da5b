-- What the best waiting unit says of all that wait.
use Rattle.std.proofs.Common.{◌≡◌, ℕ, Bool, true, false, not, List, [], ◌∷◌, refl, sym, ap, subst, ◌∙◌, arith}
use Rattle.std.specs.Prelude.{Option, Some, None, ◌&&◌, ◌||◌, if◌then◌else◌, ℤ, nat_lt, int_lt, is_some, ◌==◌}
use Rattle.std.specs.List.{AllByRecursion, list_any}
use Rattle.std.proofs.lemmas.Bool.{false_from_ne_true}
use Rattle.std.proofs.lemmas.Bool.Decides.{nat_tests}
use Rattle.std.proofs.lemmas.Int.{ints}
use Rattle.sched_base.specs.declared.UnitId.{UnitId}
use Rattle.sched_base.proofs.Bools.{and_false, and_true, clash}
use Rattle.sched_laws.proofs.Choices.{same_unit_same}
use Rattle.sched_laws.proofs.Counts.{same_unit_refl}
use Rattle.sched_model.specs.declared.state.Records.{Records}
use Rattle.sched_model.specs.declared.state.Records.TheVariants.{Credit2Pool, RtdsPool, ArincPool, NullPool}
use Rattle.sched_model.specs.declared.state.Scheduler.{Scheduler}
use Rattle.sched_model.specs.declared.state.Credit2Records.{Credit2Records}
use Rattle.sched_model.specs.declared.state.RtdsUnit.{RtdsUnit}
use Rattle.sched_model.specs.Arinc.{current_window_unit}
use Rattle.sched_model.specs.Credit2.{unit_credit, has_domain_budget, is_rate_limited, most_weight, change_unit, burned_unit}
use Rattle.sched_model.specs.EligibleUnits.{is_unit_allowed, is_unit_eligible, may_have_core, rtds_unit_at}
use Rattle.sched_model.specs.Places.{has_listed_unit, is_unit, same_unit}
use Rattle.sched_model.specs.Policy.{is_unit_better, has_better_waiting}
use Rattle.sched_model.specs.Rtds.{is_record_before, is_unit_before}
use Rattle.plain_pool.specs.Looks.{best_waiting, has_left, is_richer, is_null, is_better_than, IsOwnAllowed}
use Rattle.plain_pool.proofs.Lists.{all_more, more_right, none_found, none_passes, that_found}
use Rattle.plain_pool.proofs.Best.{IsBehind, Passes, best_is, all_behind, best_found, best_passes}

-- no credit is greater than itself, and one greater than a greater one is greater
not_richer : (records : Credit2Records) (u : UnitId) → is_richer records u u ≡ false
not_richer records u = not_less (unit_credit records u)
  where
    not_less : (a : ℤ) → int_lt a a ≡ false
    not_less a = grind (arith, ints)

richer_chain : (records : Credit2Records) (u v w : UnitId) → is_richer records u v ≡ true → is_richer records v w ≡ true → is_richer records u w ≡ true
richer_chain records u v w one two = chain (unit_credit records w) (unit_credit records v) (unit_credit records u) two one
  where
    chain : (a b c : ℤ) → int_lt a b ≡ true → int_lt b c ≡ true → int_lt a c ≡ true
    chain a b c x y = grind (arith, ints)

-- the same of the order of RTDS units, by their records
abbrev pub before_in : Option RtdsUnit → Option RtdsUnit → Bool
before_in a b = elim a [ None ↦ false | Some x ↦ elim b [ None ↦ false | Some y ↦ is_record_before x y ] ]

not_before : (a : Option RtdsUnit) → before_in a a ≡ false
not_before None = refl
not_before (Some x) = numbers x.level x.deadline
  where
    numbers : (l d : ℕ) → (nat_lt l l || ((l == l) && nat_lt d d)) ≡ false
    numbers l d = grind (arith, nat_tests)

before_chain : (a b c : Option RtdsUnit) → before_in a b ≡ true → before_in b c ≡ true → before_in a c ≡ true
before_chain None b c one two = one
before_chain (Some x) None c one two = absurd (cc)
before_chain (Some x) (Some y) None one two = two
before_chain (Some x) (Some y) (Some z) one two = numbers x.level x.deadline y.level y.deadline z.level z.deadline one two
  where
    numbers : (a b c d e f : ℕ) → (nat_lt a c || ((a == c) && nat_lt b d)) ≡ true → (nat_lt c e || ((c == e) && nat_lt d f)) ≡ true → (nat_lt a e || ((a == e) && nat_lt b f)) ≡ true
    numbers a b c d e f one two = grind (arith, nat_tests, one, two)

-- one that is not before a record, which is not before another, is not before that
not_before_chain : (a b c : Option RtdsUnit) → is_some b ≡ true → before_in a b ≡ false → before_in b c ≡ false → before_in a c ≡ false
not_before_chain None b c there one two = refl
not_before_chain (Some x) None c there one two = absurd (cc)
not_before_chain (Some x) (Some y) None there one two = refl
not_before_chain (Some x) (Some y) (Some z) there one two = numbers x.level x.deadline y.level y.deadline z.level z.deadline one two
  where
    numbers : (a b c d e f : ℕ) → (nat_lt a c || ((a == c) && nat_lt b d)) ≡ false → (nat_lt c e || ((c == e) && nat_lt d f)) ≡ false → (nat_lt a e || ((a == e) && nat_lt b f)) ≡ false
    numbers a b c d e f one two = grind (arith, nat_tests, one, two)

-- a unit with budget left has a record
has_record : (domains : List (Option (List RtdsUnit))) (u : UnitId) → has_left domains u ≡ true → is_some (rtds_unit_at domains u) ≡ true
has_record domains u left =
    elim (rtds_unit_at domains u) as (λ o. nat_lt 0 (elim o as (λ _. ℕ) [ None ↦ 0 | Some x ↦ x.left ]) ≡ true → is_some o ≡ true) [
      | None ↦ λ is. is
      | Some x ↦ λ is. refl
    ] left

-- where a unit is not better than the core's own, one of no greater credit is not
no_richer : (within : Bool) (own best u : ℤ) → (not within && int_lt own best) ≡ false → int_lt best u ≡ false → (not within && int_lt own u) ≡ false
no_richer true own best u one two = refl
no_richer false own best u one two = grind (arith, ints, one, two)

-- where the best is not better than the core's own, or there is none, no waiting unit that passes is better
abbrev pub NoneBetter : Records → Scheduler → List UnitId → UnitId → ℕ → ℕ → ℕ → ℕ → Type 0
NoneBetter records scheduler queue own since t core home = AllByRecursion (λ u. may_have_core records scheduler home core t u ≡ true → is_unit_better records own since t u ≡ false) queue

pub none_better : (records : Records) (scheduler : Scheduler) (queue : List UnitId) (own : UnitId) (since t core home : ℕ) → best_is (is_unit_better records own since t) (best_waiting records t queue) ≡ false → NoneBetter records scheduler queue own since t core home
none_better (Credit2Pool records) scheduler queue own since t core home none =
    all_more _ _ queue (λ u. by_best u (best_waiting (Credit2Pool records) t queue) none) (all_behind (has_domain_budget records) (is_richer records) (not_richer records) (richer_chain records) None queue)
  where
    by_best : (u : UnitId) (best : Option UnitId) → best_is (is_unit_better (Credit2Pool records) own since t) best ≡ false → (has_domain_budget records u ≡ true → IsBehind (has_domain_budget records) (is_richer records) u best) → has_domain_budget records u ≡ true → is_unit_better (Credit2Pool records) own since t u ≡ false
    by_best u None none behind is = absurd (behind is)
    by_best u (Some b) none behind is = no_richer (is_rate_limited records since t) (unit_credit (change_unit own (burned_unit (most_weight records) t) records) own) (unit_credit records b) (unit_credit records u) none (behind is)
none_better (RtdsPool domains) scheduler queue own since t core home none =
    all_more _ _ queue (λ u. by_best u (best_waiting (RtdsPool domains) t queue) none (best_passes (has_left domains) (is_unit_before domains) None queue tt))
    (all_behind (has_left domains) (is_unit_before domains) (λ u. not_before (rtds_unit_at domains u)) (λ u v w. before_chain (rtds_unit_at domains u) (rtds_unit_at domains v) (rtds_unit_at domains w)) None queue)
  where
    left_is : (u : UnitId) → may_have_core (RtdsPool domains) scheduler home core t u ≡ true → has_left domains u ≡ true
    left_is u is =
        elim (rtds_unit_at domains u) as (λ o. elim o as (λ _. Bool) [ None ↦ false | Some x ↦ nat_lt 0 x.left ] ≡ true → nat_lt 0 (elim o as (λ _. ℕ) [ None ↦ 0 | Some x ↦ x.left ]) ≡ true) [
          | None ↦ λ other. absurd (cc)
          | Some x ↦ λ yes. yes
        ] is

    by_best : (u : UnitId) (best : Option UnitId) → best_is (is_unit_better (RtdsPool domains) own since t) best ≡ false → Passes (has_left domains) (is_unit_before domains) best → (has_left domains u ≡ true → IsBehind (has_left domains) (is_unit_before domains) u best) → may_have_core (RtdsPool domains) scheduler home core t u ≡ true → is_unit_better (RtdsPool domains) own since t u ≡ false
    by_best u None none known behind is = absurd (behind (left_is u is))
    by_best u (Some b) none known behind is = not_before_chain (rtds_unit_at domains u) (rtds_unit_at domains b) (rtds_unit_at domains own) (has_record domains b known) (behind (left_is u is)) none
none_better (ArincPool records) scheduler queue own since t core home none = by_window (current_window_unit records t) none
  where
    by_waiting : (w : UnitId) (there : Bool) → has_listed_unit queue w ≡ there → best_is (is_unit_better (ArincPool records) own since t) (if there then Some w else None) ≡ false → AllByRecursion (λ u. same_unit w u ≡ true → not (same_unit u own) ≡ false) queue
    by_waiting w true at none = all_each queue
      where
        all_each : (units : List UnitId) → AllByRecursion (λ u. same_unit w u ≡ true → not (same_unit u own) ≡ false) units
        all_each [] = tt
        all_each (u ∷ units) = (λ same. subst (λ (x : UnitId). not (same_unit x own) ≡ false) (same_unit_same w u same) none, all_each units)
    by_waiting w false at none = all_more _ _ queue (λ u other same. absurd (clash (same_unit w u) same other)) (none_passes (same_unit w) queue at)

    by_window : (o : Option UnitId) → best_is (is_unit_better (ArincPool records) own since t) (elim o as (λ _. Option UnitId) [ None ↦ None | Some w ↦ if has_listed_unit queue w then Some w else None ]) ≡ false → AllByRecursion (λ u. is_unit o u ≡ true → not (same_unit u own) ≡ false) queue
    by_window None none = all_none queue
      where
        all_none : (units : List UnitId) → AllByRecursion (λ (u : UnitId). false ≡ true → not (same_unit u own) ≡ false) units
        all_none [] = tt
        all_none (u ∷ units) = (λ other. absurd (cc), all_none units)
    by_window (Some w) none = by_waiting w (has_listed_unit queue w) refl none
none_better (NullPool kept) scheduler queue own since t core home none = all_no queue
  where
    all_no : (units : List UnitId) → AllByRecursion (λ u. may_have_core (NullPool kept) scheduler home core t u ≡ true → false ≡ false) units
    all_no [] = tt
    all_no (u ∷ units) = (λ is. refl, all_no units)

-- where there is no best, and it does not hang on the core, no waiting unit passes
pub none_waits : (records : Records) (scheduler : Scheduler) (queue : List UnitId) (t core home : ℕ) → is_null records ≡ false → best_waiting records t queue ≡ None → AllByRecursion (λ u. may_have_core records scheduler home core t u ≡ false) queue
none_waits (Credit2Pool records) scheduler queue t core home own none =
    all_more _ _ queue (λ u behind. false_from_ne_true _ (λ is. subst (IsBehind (has_domain_budget records) (is_richer records) u) none (behind is))) (all_behind (has_domain_budget records) (is_richer records) (not_richer records) (richer_chain records) None queue)
none_waits (RtdsPool domains) scheduler queue t core home own none =
    all_more _ _ queue (λ u behind. false_from_ne_true _ (λ is. subst (IsBehind (has_left domains) (is_unit_before domains) u) none (behind (left_is u is))))
    (all_behind (has_left domains) (is_unit_before domains) (λ u. not_before (rtds_unit_at domains u)) (λ u v w. before_chain (rtds_unit_at domains u) (rtds_unit_at domains v) (rtds_unit_at domains w)) None queue)
  where
    left_is : (u : UnitId) → may_have_core (RtdsPool domains) scheduler home core t u ≡ true → has_left domains u ≡ true
    left_is u is =
        elim (rtds_unit_at domains u) as (λ o. elim o as (λ _. Bool) [ None ↦ false | Some x ↦ nat_lt 0 x.left ] ≡ true → nat_lt 0 (elim o as (λ _. ℕ) [ None ↦ 0 | Some x ↦ x.left ]) ≡ true) [
          | None ↦ λ other. absurd (cc)
          | Some x ↦ λ yes. yes
        ] is
none_waits (ArincPool records) scheduler queue t core home own none = by_window (current_window_unit records t) none
  where
    by_waiting : (w : UnitId) (there : Bool) → has_listed_unit queue w ≡ there → (if there then Some w else None) ≡ None → AllByRecursion (λ u. same_unit w u ≡ false) queue
    by_waiting w true at none = absurd (cc)
    by_waiting w false at none = none_passes (same_unit w) queue at

    by_window : (o : Option UnitId) → (elim o as (λ _. Option UnitId) [ None ↦ None | Some w ↦ if has_listed_unit queue w then Some w else None ]) ≡ None → AllByRecursion (λ u. is_unit o u ≡ false) queue
    by_window None none = all_none queue
      where
        all_none : (units : List UnitId) → AllByRecursion (λ (u : UnitId). false ≡ false) units
        all_none [] = tt
        all_none (u ∷ units) = (refl, all_none units)
    by_window (Some w) none = by_waiting w (has_listed_unit queue w) refl none
none_waits (NullPool kept) scheduler queue t core home own none = absurd (cc)

-- the best waits and passes, so that each test that it passes finds a unit
pub best_waits : (records : Records) (scheduler : Scheduler) (queue : List UnitId) (t core home : ℕ) (b : UnitId) (f : UnitId → Bool) → best_waiting records t queue ≡ Some b → f b ≡ true → list_any f queue ≡ true
best_waits (Credit2Pool records) scheduler queue t core home b f best is = best_found (has_domain_budget records) (is_richer records) f None queue (ap (best_is f) best ∙ is)
best_waits (RtdsPool domains) scheduler queue t core home b f best is = best_found (has_left domains) (is_unit_before domains) f None queue (ap (best_is f) best ∙ is)
best_waits (ArincPool records) scheduler queue t core home b f best is = by_window (current_window_unit records t) best
  where
    by_waiting : (w : UnitId) (there : Bool) → has_listed_unit queue w ≡ there → (if there then Some w else None) ≡ Some b → list_any f queue ≡ true
    by_waiting w true at best = that_found f w queue at (subst (λ o. best_is f o ≡ true) (sym best) is)
    by_waiting w false at best = absurd (cc)

    by_window : (o : Option UnitId) → (elim o as (λ _. Option UnitId) [ None ↦ None | Some w ↦ if has_listed_unit queue w then Some w else None ]) ≡ Some b → list_any f queue ≡ true
    by_window None best = absurd (cc)
    by_window (Some w) best = by_waiting w (has_listed_unit queue w) refl best
best_waits (NullPool kept) scheduler queue t core home b f best is = absurd (cc)

pub best_may : (records : Records) (scheduler : Scheduler) (queue : List UnitId) (t core home : ℕ) (b : UnitId) → best_waiting records t queue ≡ Some b → may_have_core records scheduler home core t b ≡ true
best_may (Credit2Pool records) scheduler queue t core home b best = subst (Passes (has_domain_budget records) (is_richer records)) best (best_passes (has_domain_budget records) (is_richer records) None queue tt)
best_may (RtdsPool domains) scheduler queue t core home b best = has_left_passes (subst (Passes (has_left domains) (is_unit_before domains)) best (best_passes (has_left domains) (is_unit_before domains) None queue tt))
  where
    has_left_passes : has_left domains b ≡ true → may_have_core (RtdsPool domains) scheduler home core t b ≡ true
    has_left_passes is =
        elim (rtds_unit_at domains b) as (λ o. nat_lt 0 (elim o as (λ _. ℕ) [ None ↦ 0 | Some x ↦ x.left ]) ≡ true → elim o as (λ _. Bool) [ None ↦ false | Some x ↦ nat_lt 0 x.left ] ≡ true) [
          | None ↦ λ other. absurd (cc)
          | Some x ↦ λ yes. yes
        ] is
best_may (ArincPool records) scheduler queue t core home b best = by_window (current_window_unit records t) best
  where
    by_waiting : (w : UnitId) (there : Bool) → (if there then Some w else None) ≡ Some b → same_unit w b ≡ true
    by_waiting w true best = ap (λ o. best_is (same_unit w) o) (sym best) ∙ same_unit_refl w
    by_waiting w false best = absurd (cc)

    by_window : (o : Option UnitId) → (elim o as (λ _. Option UnitId) [ None ↦ None | Some w ↦ if has_listed_unit queue w then Some w else None ]) ≡ Some b → is_unit o b ≡ true
    by_window None best = absurd (cc)
    by_window (Some w) best = by_waiting w (has_listed_unit queue w) best
best_may (NullPool kept) scheduler queue t core home b best = absurd (cc)

both : (a p b : Bool) → (p ≡ true → b ≡ false) → ((a && p) && b) ≡ false
both true true b not_better = not_better refl
both true false b not_better = refl
both false p b not_better = refl

both_true : (a p : Bool) → a ≡ true → p ≡ true → (a && p) ≡ true
both_true true p x y = y
both_true false p x y = x

all_true : (a p b : Bool) → a ≡ true → p ≡ true → b ≡ true → ((a && p) && b) ≡ true
all_true true true b x y z = z
all_true true false b x y z = y
all_true false p b x y z = absurd (cc)

module _ (scheduler : Scheduler) (since t core home : ℕ) where
  own_stays : (own : UnitId) → is_unit_allowed scheduler home core own ≡ true → best_is (is_unit_better scheduler.records own since t) (best_waiting scheduler.records t scheduler.queue) ≡ false → has_better_waiting (Some own) since t core home scheduler ≡ false
  own_stays own allowed none =
      ap (λ b. not b || list_any (λ u. is_unit_eligible scheduler home core t u && is_unit_better scheduler.records own since t u) scheduler.queue) allowed
      ∙ none_found (λ u. is_unit_eligible scheduler home core t u && is_unit_better scheduler.records own since t u) scheduler.queue
      (all_more _ _ scheduler.queue (λ u worse. both (is_unit_allowed scheduler home core u) (may_have_core scheduler.records scheduler home core t u) (is_unit_better scheduler.records own since t u) worse) (none_better scheduler.records scheduler scheduler.queue own since t core home none))

  -- where there is no best, no core is to decide anew, but an idle one of the null scheduler
  pub without_best : (cur : Option UnitId) → IsOwnAllowed scheduler home core cur → best_waiting scheduler.records t scheduler.queue ≡ None → (is_null scheduler.records && not (is_some cur)) ≡ false → has_better_waiting cur since t core home scheduler ≡ false
  without_best None own none sure =
      none_found (is_unit_eligible scheduler home core t) scheduler.queue
      (all_more _ _ scheduler.queue (λ u fails. ap (λ b. is_unit_allowed scheduler home core u && b) fails ∙ and_false (is_unit_allowed scheduler home core u)) (none_waits scheduler.records scheduler scheduler.queue t core home (sym (and_true (is_null scheduler.records)) ∙ sure) none))
  without_best (Some cur) own none sure = own_stays cur own (ap (best_is (is_unit_better scheduler.records cur since t)) none)

  -- where the best is not better than the core's own, no unit is
  pub not_for_best : (cur : Option UnitId) (b : UnitId) → IsOwnAllowed scheduler home core cur → best_waiting scheduler.records t scheduler.queue ≡ Some b → is_better_than scheduler.records cur since t b ≡ false → has_better_waiting cur since t core home scheduler ≡ false
  not_for_best None b own best worse = absurd (cc)
  not_for_best (Some cur) b own best worse = own_stays cur own (ap (best_is (is_unit_better scheduler.records cur since t)) best ∙ worse)

  -- where the best is better and may have the core, that is to decide anew
  pub for_best : (cur : Option UnitId) (b : UnitId) → best_waiting scheduler.records t scheduler.queue ≡ Some b → is_better_than scheduler.records cur since t b ≡ true → is_unit_allowed scheduler home core b ≡ true → has_better_waiting cur since t core home scheduler ≡ true
  for_best None b best better allowed =
      best_waits scheduler.records scheduler scheduler.queue t core home b (is_unit_eligible scheduler home core t) best
      (both_true _ _ allowed (best_may scheduler.records scheduler scheduler.queue t core home b best))
  for_best (Some cur) b best better allowed =
      more_right (not (is_unit_allowed scheduler home core cur)) _
      (best_waits scheduler.records scheduler scheduler.queue t core home b (λ u. is_unit_eligible scheduler home core t u && is_unit_better scheduler.records cur since t u) best
      (all_true _ _ _ allowed (best_may scheduler.records scheduler scheduler.queue t core home b best) better))
