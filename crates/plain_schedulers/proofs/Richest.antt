-- The unit of greatest credit, where one unit more is looked at.
use Rattle.std.proofs.Common.{◌≡◌, Bool, true, false, List, ◌∷◌, refl, sym, ap, subst}
use Rattle.std.specs.Prelude.{Option, Some, None, ℤ, filter, int_lt, if◌then◌else◌}
use Rattle.sched_base.specs.declared.UnitId.{UnitId}
use Rattle.sched_model.specs.declared.state.Credit2Records.{Credit2Records}
use Rattle.sched_model.specs.Credit2.{richest_unit, unit_credit}
use Rattle.plain_schedulers.specs.WaitingUnits.{HasCredit, is_more_than}

module _ (records : Credit2Records) (f : UnitId → Bool) (u : UnitId) (units : List UnitId) where
  after : Option UnitId → Bool → Option UnitId
  after best t = richest_unit records best (if t then u ∷ filter f units else filter f units)

  -- one that may be taken and has more credit takes the place of the best so far
  pub richest-more : (best : Option UnitId) (credit : ℤ) → HasCredit records best credit → is_more_than best credit (unit_credit records u) ≡ true → f u ≡ true → richest_unit records best (filter f (u ∷ units)) ≡ richest_unit records (Some u) (filter f units)
  unfolding after
  richest-more None credit has more taken = ap (after None) taken
  richest-more (Some b) credit has more taken =
      subst (λ (t : Bool). after (Some b) t ≡ richest_unit records (Some u) (filter f units)) (sym taken)
      (ap (λ (t : Bool). richest_unit records (Some (if t then u else b)) (filter f units)) (subst (λ (z : ℤ). int_lt z (unit_credit records u) ≡ true) has more))

  -- one that may not be taken is passed by
  pub richest-barred : (best : Option UnitId) → f u ≡ false → richest_unit records best (filter f (u ∷ units)) ≡ richest_unit records best (filter f units)
  unfolding after
  richest-barred best barred = ap (after best) barred

  -- and so is one that has no more credit
  pub richest-less : (best : Option UnitId) (credit : ℤ) → HasCredit records best credit → is_more_than best credit (unit_credit records u) ≡ false → richest_unit records best (filter f (u ∷ units)) ≡ richest_unit records best (filter f units)
  unfolding after
  richest-less None credit has less = absurd (cc)
  richest-less (Some b) credit has less =
      elim (f u) as (λ t. after (Some b) t ≡ richest_unit records (Some b) (filter f units)) [
        | true ↦ ap (λ (t : Bool). richest_unit records (Some (if t then u else b)) (filter f units)) (subst (λ (z : ℤ). int_lt z (unit_credit records u) ≡ false) has less)
        | false ↦ refl
      ]
