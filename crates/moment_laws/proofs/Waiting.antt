-- Lists of units that wait, and when a core is stirred no more than it was.
use Rattle.std.proofs.Common.{◌≡◌, ℕ, Bool, true, false, not, List, [], ◌∷◌, refl, ap, cond, subst, sym, ◌∙◌, inl, inr}
use Rattle.std.specs.Prelude.{Option, Some, None, filter, ◌&&◌, ◌||◌}
use Rattle.std.specs.List.{list_any}
use Rattle.std.proofs.lemmas.Bool.{or_cases, and_from}
use Rattle.sched_base.specs.declared.UnitId.{UnitId}
use Rattle.sched_model.specs.declared.state.Scheduler.{Scheduler}
use Rattle.sched_model.specs.Places.{has_listed_unit, same_unit, without_unit}
use Rattle.sched_model.specs.EligibleUnits.{is_unit_allowed, is_unit_eligible}
use Rattle.sched_model.specs.Policy.{has_better_waiting, is_unit_better}
use Rattle.sched_base.proofs.Bools.{clash, and_left, and_right, or_more}
use Rattle.sched_laws.proofs.Choices.{same_unit_same}
use Rattle.sched_laws.proofs.Counts.{same_unit_refl}
use Rattle.moment_laws.proofs.Tests.{or_later}

pub any_filter : (test keep : UnitId → Bool) (xs : List UnitId) → list_any test (filter keep xs) ≡ true → list_any test xs ≡ true
any_filter test keep [] is = is
any_filter test keep (x ∷ xs) is =
    elim (keep x) as (λ b. list_any test (cond b (x ∷ filter keep xs) (filter keep xs)) ≡ true → (test x || list_any test xs) ≡ true) [
      | true ↦ λ h. elim (or_cases (test x) (list_any test (filter keep xs)) h) [ inl here ↦ or_more (test x) _ here | inr rest ↦ or_later (test x) (any_filter test keep xs rest) ]
      | false ↦ λ h. or_later (test x) (any_filter test keep xs h)
    ] is

-- fewer wait after a decision
pub any_after : (test : UnitId → Bool) (chosen : Option UnitId) (queue : List UnitId) → list_any test (elim chosen as (λ _. List UnitId) [ None ↦ queue | Some u ↦ without_unit u queue ]) ≡ true → list_any test queue ≡ true
any_after test None queue is = is
any_after test (Some u) queue is = any_filter test (λ w. not (same_unit u w)) queue is

any_less : (test more : UnitId → Bool) → ((u : UnitId) → test u ≡ true → more u ≡ true) → (xs : List UnitId) → list_any test xs ≡ true → list_any more xs ≡ true
any_less test more to [] is = is
any_less test more to (x ∷ xs) is = elim (or_cases (test x) (list_any test xs) is) [ inl here ↦ or_more (more x) _ (to x here) | inr rest ↦ or_later (more x) (any_less test more to xs rest) ]

-- what passes a test is found
pub any_has : (test : UnitId → Bool) (xs : List UnitId) → list_any test xs ≡ true → (u : UnitId) × (has_listed_unit xs u ≡ true) × (test u ≡ true)
any_has test [] is = absurd (cc)
any_has test (x ∷ xs) is = elim (or_cases (test x) (list_any test xs) is) [
  | inl here ↦ (x, or_more (same_unit x x) _ (same_unit_refl x), here)
  | inr rest ↦ (let r = any_has test xs rest in (r.0, or_later (same_unit r.0 x) r.1, r.2))
]

-- a core is stirred only where it was: the same units are allowed, and no unit became eligible or better
pub less_waits : (t k home since : ℕ) (cur : Option UnitId) (old new : Scheduler)
    → ((u : UnitId) → is_unit_allowed new home k u ≡ is_unit_allowed old home k u)
    → ((u : UnitId) → is_unit_eligible new home k t u ≡ true → is_unit_eligible old home k t u ≡ true)
    → ((u w : UnitId) → cur ≡ Some u → is_unit_better new.records u since t w ≡ true → is_unit_better old.records u since t w ≡ true)
    → ((test : UnitId → Bool) → list_any test new.queue ≡ true → list_any test old.queue ≡ true)
    → has_better_waiting cur since t k home new ≡ true → has_better_waiting cur since t k home old ≡ true
less_waits t k home since None old new allowed eligible better fewer is = any_less (is_unit_eligible new home k t) (is_unit_eligible old home k t) eligible old.queue (fewer (is_unit_eligible new home k t) is)
less_waits t k home since (Some cur) old new allowed eligible better fewer is =
    elim (or_cases (not (is_unit_allowed new home k cur)) (list_any (λ u. is_unit_eligible new home k t u && is_unit_better new.records cur since t u) new.queue) is) [
      | inl barred ↦ or_more (not (is_unit_allowed old home k cur)) _ (ap not (sym (allowed cur)) ∙ barred)
      | inr some ↦ or_later (not (is_unit_allowed old home k cur)) (any_less (λ u. is_unit_eligible new home k t u && is_unit_better new.records cur since t u) (λ u. is_unit_eligible old home k t u && is_unit_better old.records cur since t u)
          (λ u h. and_from _ _ (eligible u (and_left _ _ h)) (better cur u refl (and_right (is_unit_eligible new home k t u) _ h))) old.queue (fewer _ some))
    ]

-- a waiting unit that passes is one of those that pass
pub filter_has : (test : UnitId → Bool) (xs : List UnitId) (u : UnitId) → has_listed_unit xs u ≡ true → test u ≡ true → has_listed_unit (filter test xs) u ≡ true
filter_has test [] u has is = absurd (cc)
filter_has test (x ∷ xs) u has is =
    elim (test x) as (λ b. test x ≡ b → has_listed_unit (cond b (x ∷ filter test xs) (filter test xs)) u ≡ true) [
      | true ↦ λ e. elim (or_cases (same_unit u x) (has_listed_unit xs u) has) [ inl same ↦ or_more (same_unit u x) _ same | inr rest ↦ or_later (same_unit u x) (filter_has test xs u rest is) ]
      | false ↦ λ e. elim (or_cases (same_unit u x) (has_listed_unit xs u) has) [
        | inl same ↦ absurd (clash (test x) (subst (λ y. test y ≡ true) (same_unit_same u x same) is) e)
        | inr rest ↦ filter_has test xs u rest is
      ]
    ] refl

pub has_filter : (test : UnitId → Bool) (xs : List UnitId) (u : UnitId) → has_listed_unit (filter test xs) u ≡ true → (has_listed_unit xs u ≡ true) × (test u ≡ true)
has_filter test [] u has = absurd (cc)
has_filter test (x ∷ xs) u has =
    elim (test x) as (λ b. test x ≡ b → has_listed_unit (cond b (x ∷ filter test xs) (filter test xs)) u ≡ true → ((same_unit u x || has_listed_unit xs u) ≡ true) × (test u ≡ true)) [
      | true ↦ λ e h. elim (or_cases (same_unit u x) (has_listed_unit (filter test xs) u) h) [
        | inl same ↦ (or_more (same_unit u x) _ same, subst (λ y. test y ≡ true) (sym (same_unit_same u x same)) e)
        | inr rest ↦ (let r = has_filter test xs u rest in (or_later (same_unit u x) r.0, r.1))
      ]
      | false ↦ λ e h. (let r = has_filter test xs u h in (or_later (same_unit u x) r.0, r.1))
    ] refl has
