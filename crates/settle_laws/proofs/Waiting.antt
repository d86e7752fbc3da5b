-- Whether some of a list passes a test, by one that does; and the queue that is left after a choice.
use Rattle.std.proofs.Common.{◌≡◌, Bool, true, false, List, [], ◌∷◌, refl, sym, subst, cond, inl, inr}
use Rattle.std.specs.Prelude.{Option, Some, None, not, filter}
use Rattle.std.specs.List.{list_any, AllByRecursion}
use Rattle.std.proofs.lemmas.Bool.{or_cases}
use Rattle.sched_base.proofs.Bools.{or_more}
use Rattle.sched_base.specs.declared.UnitId.{UnitId}
use Rattle.sched_model.specs.Places.{has_listed_unit, is_unit, same_unit, without_unit}
use Rattle.sched_laws.proofs.Choices.{same_unit_same}
use Rattle.sched_laws.proofs.Counts.{same_unit_refl}
use Rattle.settle_laws.proofs.Tests.{or_last, not_true}

-- one of the list that passes
pub record Passes (test : UnitId → Bool) (units : List UnitId) : Type 0 where
  pub unit : UnitId
  pub waits : has_listed_unit units unit ≡ true
  pub passes : test unit ≡ true

pub some_passes : (test : UnitId → Bool) (units : List UnitId) → list_any test units ≡ true → Passes test units
some_passes test [] any = absurd (cc)
some_passes test (u ∷ units) any = elim (or_cases (test u) (list_any test units) any) [
  | inl here ↦ record { unit = u; waits = or_more (same_unit u u) (has_listed_unit units u) (same_unit_refl u); passes = here }
  | inr later ↦ (let p = some_passes test units later in record { unit = p.unit; waits = or_last (same_unit p.unit u) (has_listed_unit units p.unit) p.waits; passes = p.passes })
]

pub any_passes : (test : UnitId → Bool) (units : List UnitId) (u : UnitId) → has_listed_unit units u ≡ true → test u ≡ true → list_any test units ≡ true
any_passes test [] u waits passes = absurd (cc)
any_passes test (w ∷ units) u waits passes = elim (or_cases (same_unit u w) (has_listed_unit units u) waits) [
  | inl same ↦ or_more (test w) (list_any test units) (subst (λ (x : UnitId). test x ≡ true) (same_unit_same u w same) passes)
  | inr later ↦ or_last (test w) (list_any test units) (any_passes test units u later passes)
]

pub has_filter : (test : UnitId → Bool) (units : List UnitId) (u : UnitId) → has_listed_unit units u ≡ true → test u ≡ true → has_listed_unit (filter test units) u ≡ true
has_filter test [] u waits passes = absurd (cc)
has_filter test (w ∷ units) u waits passes =
    elim (test w) as (λ b. test w ≡ b → has_listed_unit (cond b (w ∷ filter test units) (filter test units)) u ≡ true) [
      | true ↦ λ is. elim (or_cases (same_unit u w) (has_listed_unit units u) waits) [
        | inl same ↦ or_more (same_unit u w) (has_listed_unit (filter test units) u) same
        | inr later ↦ or_last (same_unit u w) (has_listed_unit (filter test units) u) (has_filter test units u later passes)
      ]
      | false ↦ λ is. elim (or_cases (same_unit u w) (has_listed_unit units u) waits) [
        | inl same ↦ absurd (let e : test w ≡ true = subst (λ (x : UnitId). test x ≡ true) (same_unit_same u w same) passes in cc)
        | inr later ↦ has_filter test units u later passes
      ]
    ] refl

pub record Filtered (test : UnitId → Bool) (units : List UnitId) (u : UnitId) : Type 0 where
  pub waits : has_listed_unit units u ≡ true
  pub passes : test u ≡ true

pub filter_has : (test : UnitId → Bool) (units : List UnitId) (u : UnitId) → has_listed_unit (filter test units) u ≡ true → Filtered test units u
filter_has test [] u has = absurd (cc)
filter_has test (w ∷ units) u has =
    elim (test w) as (λ b. test w ≡ b → has_listed_unit (cond b (w ∷ filter test units) (filter test units)) u ≡ true → Filtered test (w ∷ units) u) [
      | true ↦ λ is h. elim (or_cases (same_unit u w) (has_listed_unit (filter test units) u) h) [
        | inl same ↦ record { waits = or_more (same_unit u w) (has_listed_unit units u) same; passes = subst (λ (x : UnitId). test x ≡ true) (sym (same_unit_same u w same)) is }
        | inr later ↦ (let f = filter_has test units u later in record { waits = or_last (same_unit u w) (has_listed_unit units u) f.waits; passes = f.passes })
      ]
      | false ↦ λ is h. (let f = filter_has test units u h in record { waits = or_last (same_unit u w) (has_listed_unit units u) f.waits; passes = f.passes })
    ] refl has

pub all_filter : (P : UnitId → Type 0) (test : UnitId → Bool) (units : List UnitId) → ((u : UnitId) → test u ≡ true → P u) → AllByRecursion P (filter test units)
all_filter P test [] each = tt
all_filter P test (w ∷ units) each =
    elim (test w) as (λ b. test w ≡ b → AllByRecursion P (cond b (w ∷ filter test units) (filter test units))) [
      | true ↦ λ is. (each w is, all_filter P test units each)
      | false ↦ λ is. all_filter P test units each
    ] refl

-- the queue without the chosen unit
abbrev pub left_queue : Option UnitId → List UnitId → List UnitId
left_queue chosen queue = elim chosen [ None ↦ queue | Some u ↦ without_unit u queue ]

pub record Left (chosen : Option UnitId) (queue : List UnitId) (w : UnitId) : Type 0 where
  pub waits : has_listed_unit queue w ≡ true
  pub other : is_unit chosen w ≡ false

pub left_has : (chosen : Option UnitId) (queue : List UnitId) (w : UnitId) → has_listed_unit (left_queue chosen queue) w ≡ true → Left chosen queue w
left_has None queue w has = record { waits = has; other = refl }
left_has (Some u) queue w has = (let f = filter_has (λ x. not (same_unit u x)) queue w has in record { waits = f.waits; other = not_true (same_unit u w) f.passes })
