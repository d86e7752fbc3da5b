-- The best of the waiting units by credit, where one unit more is looked at.
use Rattle.std.proofs.Common.{◌≡◌, ◌∙◌, Bool, true, false, List, ◌∷◌, refl, ap, subst}
use Rattle.std.specs.Prelude.{◌&&◌, Option, Some, None, ℤ, int_lt, if◌then◌else◌}
use Rattle.sched_base.specs.declared.UnitId.{UnitId}
use Rattle.sched_model.specs.declared.state.Credit2Records.{Credit2Records}
use Rattle.sched_model.specs.Credit2.{unit_credit}
use Rattle.plain_schedulers.specs.WaitingUnits.{HasCredit, is_more_than}
use Rattle.plain_pool.specs.Looks.{best_from, is_richer}

module _ (records : Credit2Records) (passes : UnitId → Bool) (u : UnitId) (units : List UnitId) where
  abbrev pub best_of : Option UnitId → List UnitId → Option UnitId
  best_of best all = best_from passes (is_richer records) best all

  after : Option UnitId → Bool → Option UnitId
  after best t = best_of (if t && elim best [ None ↦ true | Some b ↦ is_richer records u b ] then Some u else best) units

  -- one that passes and has more credit takes the place of the best so far
  pub richer-more : (best : Option UnitId) (credit : ℤ) → HasCredit records best credit → is_more_than best credit (unit_credit records u) ≡ true → passes u ≡ true → best_of best (u ∷ units) ≡ best_of (Some u) units
  unfolding after
  richer-more None credit has more taken = ap (after None) taken
  richer-more (Some b) credit has more taken =
      ap (after (Some b)) taken ∙ ap (λ (t : Bool). best_of (if t then Some u else Some b) units) (subst (λ (z : ℤ). int_lt z (unit_credit records u) ≡ true) has more)

  -- one that does not pass is passed by
  pub richer-barred : (best : Option UnitId) → passes u ≡ false → best_of best (u ∷ units) ≡ best_of best units
  unfolding after
  richer-barred best barred = ap (after best) barred

  -- and so is one that has no more credit
  pub richer-less : (best : Option UnitId) (credit : ℤ) → HasCredit records best credit → is_more_than best credit (unit_credit records u) ≡ false → best_of best (u ∷ units) ≡ best_of best units
  unfolding after
  richer-less None credit has less = absurd (cc)
  richer-less (Some b) credit has less =
      elim (passes u) as (λ t. after (Some b) t ≡ best_of (Some b) units) [
        | true ↦ ap (λ (t : Bool). best_of (if t then Some u else Some b) units) (subst (λ (z : ℤ). int_lt z (unit_credit records u) ≡ false) has less)
        | false ↦ refl
      ]
