-- What holds of each element of a list, and of what stands at a place.
use Rattle.std.proofs.Common.{arith, length, ◌≡◌, ◌≢◌, ◌<◌, ℕ, zero, suc, Bool, true, false, List, [], ◌∷◌, refl, subst, ap, ◌⊎◌, inl, inr, ◌≤◌}
use Rattle.std.specs.Prelude.{Option, Some, None, is_some, option_map, ◌&&◌, ◌||◌, slice_get, slice_index_or}
use Rattle.std.proofs.lemmas.Option.{slice_get-get_or}
use Rattle.std.specs.List.{list_any, AllByRecursion}
use Rattle.std.specs.Option.{IfSome}
use Rattle.std.proofs.lemmas.Bool.{and_from}
use Rattle.std.proofs.lemmas.List.{length-map}
use Rattle.std.proofs.lemmas.Bool.Decides.{nat_tests}
use Rattle.sched_model.specs.Places.{at_place, put_at, clear_at, change_at, change_item, test_at, numbered_items}
use Rattle.sched_model.proofs.PlaceLemmas.{at_place-change_at_other}
use Rattle.sched_laws.specs.EachPlace.{EachPlace}
use Rattle.sched_laws.proofs.EachPlace.{at_place-put_at_other, at_place-clear_at_other, at_place-clear_at}
use Rattle.sched_base.specs.declared.Cores.{Cores}
use Rattle.sched_base.specs.declared.Moment.{Moment}
use Rattle.sched_base.specs.Numbers.{has_moment_come}
use Rattle.sched_model.specs.Policy.{pinned_cores}

-- none of the list passes, where none is found
pub none_passes : {X : Type 0} (test : X → Bool) (xs : List X) → list_any test xs ≡ false → AllByRecursion (λ x. test x ≡ false) xs
none_passes test [] none = tt
none_passes test (x ∷ xs) none =
    elim (test x) as (λ b. test x ≡ b → (b || list_any test xs) ≡ false → AllByRecursion (λ x. test x ≡ false) (x ∷ xs)) [
      | true ↦ λ is h. absurd (cc)
      | false ↦ λ is h. (is, none_passes test xs h)
    ] refl none

-- what holds of each numbered thing holds at each place
pub at_numbered : {X : Type 0} (P : X → Type 0) (n : ℕ) (places : List (Option X)) → AllByRecursion (λ (e : ℕ × X). P e.1) (numbered_items n places) → EachPlace P places
at_numbered P n [] each i x at = absurd (cc)
at_numbered P n (None ∷ places) each zero x at = absurd (cc)
at_numbered P n (None ∷ places) each (suc i) x at = at_numbered P (suc n) places each i x at
at_numbered P n (Some y ∷ places) each zero x at = let e : y ≡ x = cc in subst P e each.0
at_numbered P n (Some y ∷ places) each (suc i) x at = at_numbered P (suc n) places each.1 i x at

-- a test at a place, from what stands there, and back
pub test_at-some : {X : Type 0} (places : List (Option X)) (i : ℕ) (test : X → Bool) (x : X) → at_place places i ≡ Some x → test x ≡ true → test_at places i test ≡ true
test_at-some places i test x at passes = rw (at, test_at) passes

pub some-test_at : {X : Type 0} (places : List (Option X)) (i : ℕ) (test : X → Bool) → test_at places i test ≡ true → (x : X) × (at_place places i ≡ Some x) × (test x ≡ true)
some-test_at {X} places i test passes =
    elim (at_place places i) as (λ o. at_place places i ≡ o → elim o as (λ _. Bool) [ None ↦ false | Some x ↦ test x ] ≡ true → (x : X) × (at_place places i ≡ Some x) × (test x ≡ true)) [
      | None ↦ λ is h. absurd (cc)
      | Some x ↦ λ is h. (x, is, h)
    ] refl passes

-- a change that the test does not see
pub test_at-change_at : {X : Type 0} (i j : ℕ) (f : X → X) (test : X → Bool) (places : List (Option X)) → ((x : X) → test (f x) ≡ test x) → test_at (change_at i f places) j test ≡ test_at places j test
test_at-change_at zero j f test [] same = refl
test_at-change_at (suc i) j f test [] same = refl
test_at-change_at zero zero f test (None ∷ places) same = refl
test_at-change_at zero zero f test (Some x ∷ places) same = same x
test_at-change_at zero (suc j) f test (p ∷ places) same = refl
test_at-change_at (suc i) zero f test (p ∷ places) same = refl
test_at-change_at (suc i) (suc j) f test (p ∷ places) same = test_at-change_at i j f test places same

-- a change that the place does not see
test_at-same : {X : Type 0} (old next : List (Option X)) (j : ℕ) (test : X → Bool) → at_place next j ≡ at_place old j → test_at next j test ≡ test_at old j test
test_at-same {X} old next j test same = ap (λ (o : Option X). elim o as (λ _. Bool) [ None ↦ false | Some x ↦ test x ]) same

pub test_at-change_at_other : {X : Type 0} (i j : ℕ) (f : X → X) (test : X → Bool) (places : List (Option X)) → j ≢ i → test_at (change_at i f places) j test ≡ test_at places j test
test_at-change_at_other i j f test places other = test_at-same places (change_at i f places) j test (at_place-change_at_other i j f places other)

pub test_at-put_at : {X : Type 0} (i j : ℕ) (x : X) (test : X → Bool) (places : List (Option X)) → test x ≡ true → test_at places j test ≡ true → test_at (put_at i x places) j test ≡ true
test_at-put_at zero j x test [] here passes = passes
test_at-put_at (suc i) j x test [] here passes = passes
test_at-put_at zero zero x test (p ∷ places) here passes = here
test_at-put_at zero (suc j) x test (p ∷ places) here passes = passes
test_at-put_at (suc i) zero x test (p ∷ places) here passes = passes
test_at-put_at (suc i) (suc j) x test (p ∷ places) here passes = test_at-put_at i j x test places here passes

pub test_at-clear_at : {X : Type 0} (i j : ℕ) (test : X → Bool) (places : List (Option X)) → j ≢ i → test_at (clear_at i places) j test ≡ test_at places j test
test_at-clear_at i j test places other = test_at-same places (clear_at i places) j test (at_place-clear_at_other i j places other)

-- something is there
pub some_is : {X : Type 0} (o : Option X) → is_some o ≡ true → (x : X) × (o ≡ Some x)
some_is None some = absurd (cc)
some_is (Some x) some = (x, refl)

pub is_some_at : {X : Type 0} (o : Option X) (x : X) → o ≡ Some x → is_some o ≡ true
is_some_at o x is = rw is refl

pub some_same : {X : Type 0} {x y : X} → Some x ≡ Some y → x ≡ y
some_same is = cc

pub if_some : {X : Type 0} (o : Option X) (P : X → Type 0) → ((x : X) → o ≡ Some x → P x) → IfSome o P
if_some None P all = tt
if_some (Some x) P all = all x refl

-- below the end of a list something stands
pub item_below : {X : Type 0} (xs : List X) (n : ℕ) → n < length xs → (x : X) × (slice_get xs n ≡ Some x)
item_below [] n below = absurd (omega arith)
item_below (x ∷ xs) zero below = (x, refl)
item_below (x ∷ xs) (suc n) below = item_below xs n (omega arith)

-- a change after which what passed passes
pub test_at-change_at_keeps : {X : Type 0} (i j : ℕ) (f : X → X) (test : X → Bool) (places : List (Option X)) → ((x : X) → i ≡ j → at_place places i ≡ Some x → test x ≡ true → test (f x) ≡ true) → test_at places j test ≡ true → test_at (change_at i f places) j test ≡ true
test_at-change_at_keeps zero j f test [] keeps passes = passes
test_at-change_at_keeps (suc i) j f test [] keeps passes = passes
test_at-change_at_keeps zero zero f test (None ∷ places) keeps passes = passes
test_at-change_at_keeps zero zero f test (Some x ∷ places) keeps passes = keeps x refl refl passes
test_at-change_at_keeps zero (suc j) f test (p ∷ places) keeps passes = passes
test_at-change_at_keeps (suc i) zero f test (p ∷ places) keeps passes = passes
test_at-change_at_keeps (suc i) (suc j) f test (p ∷ places) keeps passes = test_at-change_at_keeps i j f test places (λ x e at. keeps x (ap suc e) at) passes

pub test_at-change_at_more : {X : Type 0} (i j : ℕ) (f : X → X) (test : X → Bool) (places : List (Option X)) → ((x : X) → test x ≡ true → test (f x) ≡ true) → test_at places j test ≡ true → test_at (change_at i f places) j test ≡ true
test_at-change_at_more i j f test places more passes = test_at-change_at_keeps i j f test places (λ x e at. more x) passes

pub and_more : (a b c : Bool) → (a && b) ≡ true → (b ≡ true → c ≡ true) → (a && c) ≡ true
and_more true b c and_from to = to and_from
and_more false b c and_from to = absurd (cc)

pub test_at-put_at_other : {X : Type 0} (i j : ℕ) (x : X) (test : X → Bool) (places : List (Option X)) → j ≢ i → test_at (put_at i x places) j test ≡ test_at places j test
test_at-put_at_other i j x test places other = test_at-same places (put_at i x places) j test (at_place-put_at_other i j x places other)

-- a change after which the test fails
pub test_at-change_at_false : {X : Type 0} (i : ℕ) (f : X → X) (test : X → Bool) (places : List (Option X)) → ((x : X) → test (f x) ≡ false) → test_at (change_at i f places) i test ≡ false
test_at-change_at_false zero f test [] fails = refl
test_at-change_at_false (suc i) f test [] fails = refl
test_at-change_at_false zero f test (None ∷ places) fails = refl
test_at-change_at_false zero f test (Some x ∷ places) fails = fails x
test_at-change_at_false (suc i) f test (p ∷ places) fails = test_at-change_at_false i f test places fails

pub test_at-clear_at_false : {X : Type 0} (i : ℕ) (test : X → Bool) (places : List (Option X)) → test_at (clear_at i places) i test ≡ false
test_at-clear_at_false {X} i test places = ap (λ (o : Option X). elim o as (λ _. Bool) [ None ↦ false | Some x ↦ test x ]) (at_place-clear_at i places)

pub length_change_item : {X : Type 0} (i : ℕ) (f : X → X) (xs : List X) → length (change_item i f xs) ≡ length xs
length_change_item i f [] = refl
length_change_item zero f (x ∷ xs) = grind arith
length_change_item (suc i) f (x ∷ xs) = (let r = length_change_item i f xs in grind (arith, r))

-- past the end of a list there is nothing
pub get_later : {X : Type 0} (xs : List X) (n : ℕ) → slice_get xs n ≡ None → slice_get xs (suc n) ≡ None
get_later [] n none = grind arith
get_later (x ∷ xs) zero none = absurd (cc)
get_later (x ∷ xs) (suc n) none = get_later xs n none

-- a place of a list after a change of one
pub read_change_item : {X : Type 0} (i j : ℕ) (f : X → X) (xs : List X) (y : X) → slice_get (change_item i f xs) j ≡ Some y → ((j ≢ i) × (slice_get xs j ≡ Some y)) ⊎ ((x : X) × (slice_get xs i ≡ Some x) × (j ≡ i) × (f x ≡ y))
read_change_item i j f [] y at = absurd (cc)
read_change_item zero zero f (x ∷ xs) y at = inr (x, refl, refl, cc)
read_change_item zero (suc j) f (x ∷ xs) y at = inl (λ e. omega arith, at)
read_change_item (suc i) zero f (x ∷ xs) y at = inl (λ e. omega arith, at)
read_change_item (suc i) (suc j) f (x ∷ xs) y at = elim (read_change_item i j f xs y at) [
  | inl was ↦ inl (λ e. was.0 (omega arith), was.1)
  | inr r ↦ inr (r.0, r.1, ap suc r.2, r.3)
]

-- the place that is changed, and another
pub slice_get-change_item : {X : Type 0} (i : ℕ) (f : X → X) (xs : List X) → slice_get (change_item i f xs) i ≡ option_map f (slice_get xs i)
slice_get-change_item i f [] = refl
slice_get-change_item zero f (x ∷ xs) = refl
slice_get-change_item (suc i) f (x ∷ xs) = slice_get-change_item i f xs

pub slice_get-change_item_other : {X : Type 0} (i j : ℕ) (f : X → X) (xs : List X) → i ≢ j → slice_get (change_item i f xs) j ≡ slice_get xs j
slice_get-change_item_other i j f [] other = refl
slice_get-change_item_other zero zero f (x ∷ xs) other = absurd (other refl)
slice_get-change_item_other zero (suc j) f (x ∷ xs) other = refl
slice_get-change_item_other (suc i) zero f (x ∷ xs) other = refl
slice_get-change_item_other (suc i) (suc j) f (x ∷ xs) other = slice_get-change_item_other i j f xs (λ e. other (ap suc e))

-- inside a list it does not matter what is read behind it
pub same_read : {X : Type 0} (xs : List X) (i : ℕ) (d e : X) → i < length xs → slice_index_or xs i d ≡ slice_index_or xs i e
same_read xs i d e low = (let a = slice_get-get_or xs i d low in let b = slice_get-get_or xs i e low in cc)

pub none_without : {X : Type 0} (o : Option X) → is_some o ≡ false → o ≡ None
none_without None is = refl
none_without (Some x) is = absurd (cc)

-- pins keep how many sets of cores there are
pub length-pinned_cores : (unit : Option ℕ) (cores : Cores) (sets : List Cores) → length (pinned_cores unit cores sets) ≡ length sets
length-pinned_cores None cores sets = length-map sets (λ old. cores)
length-pinned_cores (Some n) cores sets = length_change_item n (λ old. cores) sets

-- a moment that has come is there, and is not after t
pub has_come-le : (t : ℕ) (o : Option Moment) → has_moment_come t o ≡ true → (at : Moment) × (o ≡ Some at) × (at.0 ≤ t)
has_come-le t None come = absurd (cc)
has_come-le t (Some at) come = (at, refl, grind (arith, nat_tests, come))

-- a change of one item of which each holds
pub AllByRecursion-change_item : {X : Type 0} (P : X → Type 0) (i : ℕ) (f : X → X) (xs : List X) → ((x : X) → slice_get xs i ≡ Some x → P x → P (f x)) → AllByRecursion P xs → AllByRecursion P (change_item i f xs)
AllByRecursion-change_item P i f [] keeps each = tt
AllByRecursion-change_item P zero f (x ∷ xs) keeps each = (keeps x refl each.0, each.1)
AllByRecursion-change_item P (suc i) f (x ∷ xs) keeps each = (each.0, AllByRecursion-change_item P i f xs keeps each.1)
