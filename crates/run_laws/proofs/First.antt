-- The first element that passes a test.
use Rattle.std.proofs.Common.{◌≡◌, Bool, true, false, List, [], ◌∷◌, ◌++◌, refl, ap, cond, ℕ}
use Rattle.std.specs.Prelude.{Some, None, find}
use Rattle.std.specs.List.{AllByRecursion}
use Rattle.std.proofs.lemmas.List.Elements.{All-from_recursion}
use Rattle.sched_base.proofs.Lists.{none_from_find}
use Rattle.sched_model.specs.declared.machine.Machine.{Machine}
use Rattle.sched_model.specs.declared.state.State.{State}
use Rattle.sched_model.specs.Actions.{candidates}
use Rattle.sched_model.specs.Machine.{is_action_enabled, first_enabled_action}
use Rattle.run_laws.specs.RunLaws.{IsFirst}

-- the list around the element that is found
record Found {X : Type 0} (test : X → Bool) (xs : List X) (x : X) : Type 0 where
  before : List X
  behind : List X
  whole : xs ≡ before ++ x ∷ behind
  passes : test x ≡ true
  none_before : AllByRecursion (λ y. test y ≡ false) before

Found-from_find : {X : Type 0} (test : X → Bool) (xs : List X) (x : X) → find test xs ≡ Some x → Found test xs x
Found-from_find test [] x is = absurd (cc)
Found-from_find {X} test (y ∷ ys) x is =
    elim (test y) as (λ b. test y ≡ b → cond b (Some y) (find test ys) ≡ Some x → Found test (y ∷ ys) x) [
      | true ↦ λ on found. (let e : y ≡ x = cc in record { before = []; behind = ys; whole = ap (λ z. z ∷ ys) e; passes = cc; none_before = tt })
      | false ↦ λ off found. (
          let f = Found-from_find test ys x found in
          record { before = y ∷ f.before; behind = f.behind; whole = ap (λ zs. y ∷ zs) f.whole; passes = f.passes; none_before = (off, f.none_before) })
    ] refl is

pub first_is : (m : Machine) (s : State) (t : ℕ) → IsFirst m s t (first_enabled_action m s t)
first_is m s t =
    elim (first_enabled_action m s t) as (λ o. first_enabled_action m s t ≡ o → IsFirst m s t o) [
      | None ↦ λ is. All-from_recursion (λ a. is_action_enabled m s t a ≡ false) (candidates m.config) (none_from_find (is_action_enabled m s t) (candidates m.config) is)
      | Some action ↦ λ is. (
          let f = Found-from_find (is_action_enabled m s t) (candidates m.config) action is in
          record { before = f.before; behind = f.behind; candidate = f.whole; enabled = f.passes; none_before = All-from_recursion (λ a. is_action_enabled m s t a ≡ false) f.before f.none_before })
    ] refl
