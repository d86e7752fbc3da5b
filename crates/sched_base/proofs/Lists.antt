-- What holds of each item of a list.
use Rattle.std.proofs.Common.{◌≡◌, ℕ, zero, suc, Bool, true, false, List, [], ◌∷◌, ◌++◌, inl, inr, refl, subst, cond}
use Rattle.std.specs.Prelude.{Some, None, find, filter, slice_get}
use Rattle.std.specs.List.{AllByRecursion}
use Rattle.sched_base.specs.Lists.{Has}

-- a list that has a number, before others and behind them
pub Has-left : (n : ℕ) (xs ys : List ℕ) → Has n xs → Has n (xs ++ ys)
Has-left n [] ys h = absurd h
Has-left n (x ∷ xs) ys (inl e) = inl e
Has-left n (x ∷ xs) ys (inr h) = inr (Has-left n xs ys h)

pub Has-right : (n : ℕ) (xs ys : List ℕ) → Has n ys → Has n (xs ++ ys)
Has-right n [] ys h = h
Has-right n (x ∷ xs) ys h = inr (Has-right n xs ys h)

-- what each item has, where that gives something else; what each of a longer list has; those that pass a test
pub AllByRecursion-map : {X : Type 0} (P Q : X → Type 0) → ((x : X) → P x → Q x) → (xs : List X) → AllByRecursion P xs → AllByRecursion Q xs
AllByRecursion-map P Q to [] each = tt
AllByRecursion-map P Q to (x ∷ xs) each = (to x each.0, AllByRecursion-map P Q to xs each.1)

pub AllByRecursion-push : {X : Type 0} (P : X → Type 0) (xs : List X) (x : X) → AllByRecursion P xs → P x → AllByRecursion P (xs ++ x ∷ [])
AllByRecursion-push P [] x each here = (here, tt)
AllByRecursion-push P (y ∷ xs) x each here = (each.0, AllByRecursion-push P xs x each.1 here)

pub AllByRecursion-filter : {X : Type 0} (P Q : X → Type 0) (test : X → Bool) → ((x : X) → test x ≡ true → P x → Q x) → (xs : List X) → AllByRecursion P xs → AllByRecursion Q (filter test xs)
AllByRecursion-filter P Q test to [] each = tt
AllByRecursion-filter P Q test to (x ∷ xs) each =
    elim (test x) as (λ b. test x ≡ b → AllByRecursion Q (cond b (x ∷ filter test xs) (filter test xs))) [
      | true ↦ λ is. (to x is each.0, AllByRecursion-filter P Q test to xs each.1)
      | false ↦ λ is. AllByRecursion-filter P Q test to xs each.1
    ] refl

-- where no item passes the test, each fails it
pub none_from_find : {X : Type 0} (test : X → Bool) (xs : List X) → find test xs ≡ None → AllByRecursion (λ y. test y ≡ false) xs
none_from_find test [] is = tt
none_from_find {X} test (y ∷ ys) is =
    elim (test y) as (λ b. test y ≡ b → cond b (Some y) (find test ys) ≡ None → AllByRecursion (λ z. test z ≡ false) (y ∷ ys)) [
      | true ↦ λ on found. absurd (cc)
      | false ↦ λ off found. (off, none_from_find test ys found)
    ] refl is

-- what each item has, the one at a place has
pub each_get : {X : Type 0} (P : X → Type 0) (xs : List X) (i : ℕ) (x : X) → AllByRecursion P xs → slice_get xs i ≡ Some x → P x
each_get P [] i x each at = absurd (cc)
each_get P (y ∷ xs) zero x each at = let e : y ≡ x = cc in subst P e each.0
each_get P (y ∷ xs) (suc i) x each at = each_get P xs i x each.1 at
