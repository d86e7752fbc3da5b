-- A unit that is taken out of the queue at its place.
use Rattle.std.proofs.Common.{◌≡◌, ℕ, zero, suc, Bool, true, false, List, [], ◌∷◌, subst, sym, ◌∙◌, ap, cond, inl, inr}
use Rattle.std.specs.Prelude.{Some, not, remove, slice_get}
use Rattle.std.proofs.lemmas.Bool.{cases_Bool, or_right}
use Rattle.sched_base.proofs.Bools.{clash, or_more}
use Rattle.sched_base.specs.declared.UnitId.{UnitId}
use Rattle.sched_model.specs.Places.{has_listed_unit, same_unit, without_unit}
use Rattle.sched_laws.proofs.Choices.{same_unit_same}
use Rattle.sched_laws.proofs.Counts.{same_unit_refl, without_absent}
use Rattle.sched_ops.specs.Conditions.{IsApart}

-- a unit at a place of the list is one of it
listed_at : (u : UnitId) (units : List UnitId) (place : ℕ) → slice_get units place ≡ Some u → has_listed_unit units u ≡ true
listed_at u [] place at = absurd (cc)
listed_at u (w ∷ units) zero at = or_more (same_unit u w) (has_listed_unit units u) (let e : w ≡ u = cc in subst (λ (x : UnitId). same_unit u x ≡ true) (sym e) (same_unit_refl u))
listed_at u (w ∷ units) (suc place) at = or_right (same_unit u w) (has_listed_unit units u) (listed_at u units place at)

-- a list in which no unit stands twice, without the one at a place
pub taken_out : (u : UnitId) (units : List UnitId) (place : ℕ) → IsApart units → slice_get units place ≡ Some u → remove units place ≡ without_unit u units
taken_out u [] place apart at = absurd (cc)
taken_out u (w ∷ units) zero apart at =
    let e : w ≡ u = cc in
    let same : same_unit u w ≡ true = subst (λ (x : UnitId). same_unit u x ≡ true) (sym e) (same_unit_refl u) in
    sym (ap (λ (b : Bool). cond (not b) (w ∷ without_unit u units) (without_unit u units)) same ∙ without_absent u units (subst (λ (x : UnitId). has_listed_unit units x ≡ false) e apart.0))
taken_out u (w ∷ units) (suc place) apart at =
    ap (λ (us : List UnitId). w ∷ us) (taken_out u units place apart.1 at)
    ∙ sym (ap (λ (b : Bool). cond (not b) (w ∷ without_unit u units) (without_unit u units)) other)
  where
    other : same_unit u w ≡ false
    other = elim (cases_Bool (same_unit u w)) [
      | inl same ↦ absurd (clash (has_listed_unit units w) (subst (λ (x : UnitId). has_listed_unit units x ≡ true) (same_unit_same u w same) (listed_at u units place at)) apart.0)
      | inr none ↦ none
    ]
