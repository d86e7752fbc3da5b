-- What is asked of all waiting units, where one unit alone can answer it.
use Rattle.std.proofs.Common.{◌≡◌, Bool, true, false, ◌||◌, ◌&&◌, List, [], ◌∷◌, refl, subst, sym, ◌∙◌, ap, cond}
use Rattle.std.specs.Prelude.{Some, None, filter}
use Rattle.std.specs.List.{list_any}
use Rattle.sched_base.specs.declared.UnitId.{UnitId}
use Rattle.sched_model.specs.Places.{has_listed_unit, same_unit}
use Rattle.sched_model.specs.NullScheduler.{earliest_unit}
use Rattle.sched_laws.proofs.Choices.{same_unit_same}
use Rattle.sched_laws.proofs.Counts.{same_unit_refl}
use Rattle.std.proofs.Math.Bool.{and-false}

-- where only the unit w can pass a test, some unit passes it if w is there and passes
pub any_of_one : (w : UnitId) (test : UnitId → Bool) (units : List UnitId) → ((u : UnitId) → test u ≡ true → u ≡ w) → list_any test units ≡ (has_listed_unit units w && test w)
any_of_one w test [] only = refl
any_of_one w test (x ∷ units) only =
    elim (test x) as (λ b. test x ≡ b → (b || list_any test units) ≡ ((same_unit w x || has_listed_unit units w) && test w)) [
      | true ↦ λ is. (
          let e : x ≡ w = only x is in
          let passes : test w ≡ true = subst (λ (u : UnitId). test u ≡ true) e is in
          let same : same_unit w x ≡ true = subst (λ (u : UnitId). same_unit w u ≡ true) (sym e) (same_unit_refl w) in
          rw (same, passes) refl)
      | false ↦ λ is. (
          let rest = any_of_one w test units only in
          elim (same_unit w x) as (λ b. same_unit w x ≡ b → list_any test units ≡ ((b || has_listed_unit units w) && test w)) [
            | true ↦ λ same. (
                let fails : test w ≡ false = subst (λ (u : UnitId). test u ≡ false) (sym (same_unit_same w x same)) is in
                rest ∙ ap (λ b. has_listed_unit units w && b) fails ∙ and-false (has_listed_unit units w) ∙ sym fails)
            | false ↦ λ same. rest
          ] refl)
    ] refl

-- and the first that passes it is w
pub first_of_one : (w : UnitId) (test : UnitId → Bool) (units : List UnitId) → ((u : UnitId) → test u ≡ true → u ≡ w) → earliest_unit (filter test units) ≡ cond (has_listed_unit units w && test w) (Some w) None
first_of_one w test [] only = refl
first_of_one w test (x ∷ units) only =
    elim (test x) as (λ b. test x ≡ b → earliest_unit (cond b (x ∷ filter test units) (filter test units)) ≡ cond ((same_unit w x || has_listed_unit units w) && test w) (Some w) None) [
      | true ↦ λ is. (
          let e : x ≡ w = only x is in
          let passes : test w ≡ true = subst (λ (u : UnitId). test u ≡ true) e is in
          let same : same_unit w x ≡ true = subst (λ (u : UnitId). same_unit w u ≡ true) (sym e) (same_unit_refl w) in
          rw (same, passes) (ap Some e))
      | false ↦ λ is. (
          let rest = first_of_one w test units only in
          elim (same_unit w x) as (λ b. same_unit w x ≡ b → earliest_unit (filter test units) ≡ cond ((b || has_listed_unit units w) && test w) (Some w) None) [
            | true ↦ λ same. (
                let fails : test w ≡ false = subst (λ (u : UnitId). test u ≡ false) (sym (same_unit_same w x same)) is in
                let none : (has_listed_unit units w && test w) ≡ false = ap (λ b. has_listed_unit units w && b) fails ∙ and-false (has_listed_unit units w) in
                rest ∙ ap (λ b. cond b (Some w) None) (none ∙ sym fails))
            | false ↦ λ same. rest
          ] refl)
    ] refl

-- where no unit passes a test, none is found
pub any_of_none : (test : UnitId → Bool) (units : List UnitId) → ((u : UnitId) → test u ≡ false) → list_any test units ≡ false
any_of_none test [] none = refl
any_of_none test (x ∷ units) none = (let fails = none x in rw fails (any_of_none test units none))
