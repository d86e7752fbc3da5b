-- Lists in order, and what is found first in them.
use Rattle.std.proofs.Common.{◌≡◌, Bool, true, false, List, [], ◌∷◌, ◌++◌, refl, ap, subst, cond, inl, inr}
use Rattle.std.specs.Prelude.{Some, None, find, map, ⊤}
use Rattle.composition_laws.proofs.Members.{Has, Has-cases, Has-from_map}

-- each element is related to all that stand behind it
abbrev pub Sorted : {X : Type 0} → (X → X → Type 0) → List X → Type 0
Sorted R [] = ⊤
Sorted {X} R (x ∷ xs) = ((y : X) → Has y xs → R x y) × Sorted R xs

pub Sorted-append : {X : Type 0} (R : X → X → Type 0) (xs ys : List X) → Sorted R xs → Sorted R ys → ((x y : X) → Has x xs → Has y ys → R x y) → Sorted R (xs ++ ys)
Sorted-append R [] ys a b across = b
Sorted-append R (x ∷ xs) ys a b across =
    (λ y h. elim (Has-cases y xs ys h) [ inl l ↦ a.0 y l | inr r ↦ across x y (inl refl) r ], Sorted-append R xs ys a.1 b (λ z y h k. across z y (inr h) k))

pub Sorted-map : {X Y : Type 0} (S : X → X → Type 0) (R : Y → Y → Type 0) (f : X → Y) → ((x y : X) → S x y → R (f x) (f y)) → (xs : List X) → Sorted S xs → Sorted R (map f xs)
Sorted-map S R f to [] s = tt
Sorted-map S R f to (x ∷ xs) s = (λ y h. (let r = Has-from_map f y xs h in subst (R (f x)) r.2 (to x r.0 (s.0 r.0 r.1))), Sorted-map S R f to xs s.1)

-- the element that passes the test and is related to all that pass it is the one that is found
pub found_if_first : {X : Type 0} (R : X → X → Type 0) → ((x y : X) → R x y → R y x → x ≡ y) → (test : X → Bool) (xs : List X) → Sorted R xs → (a : X) → Has a xs → test a ≡ true → ((b : X) → Has b xs → test b ≡ true → R a b) → find test xs ≡ Some a
found_if_first R same test [] s a has passes first = absurd has
found_if_first R same test (x ∷ xs) s a has passes first =
    elim (test x) as (λ b. test x ≡ b → cond b (Some x) (find test xs) ≡ Some a) [
      | true ↦ λ is. ap (λ y. Some y) (elim has [ inl e ↦ e | inr h ↦ same x a (s.0 a h) (first x (inl refl) is) ])
      | false ↦ λ is. elim has [
        | inl e ↦ absurd (let f : test a ≡ false = subst (λ y. test y ≡ false) e is in cc)
        | inr h ↦ found_if_first R same test xs s.1 a h passes (λ b k. first b (inr k))
      ]
    ] refl

pub none_if_none : {X : Type 0} (test : X → Bool) (xs : List X) → ((b : X) → Has b xs → test b ≡ false) → find test xs ≡ None
none_if_none test [] none = refl
none_if_none test (x ∷ xs) none = (let off = none x (inl refl) in rw off (none_if_none test xs (λ b h. none b (inr h))))

-- what is found stands in the list, passes the test, and is related to all that pass it
pub record IsFound {X : Type 0} (R : X → X → Type 0) (test : X → Bool) (xs : List X) (a : X) : Type 0 where
  pub there : Has a xs
  pub passes : test a ≡ true
  pub first : (b : X) → Has b xs → test b ≡ true → R a b

pub first_if_found : {X : Type 0} (R : X → X → Type 0) → ((x : X) → R x x) → (test : X → Bool) (xs : List X) → Sorted R xs → (a : X) → find test xs ≡ Some a → IsFound R test xs a
first_if_found R itself test [] s a found = absurd (cc)
first_if_found R itself test (x ∷ xs) s a found =
    elim (test x) as (λ b. test x ≡ b → cond b (Some x) (find test xs) ≡ Some a → IsFound R test (x ∷ xs) a) [
      | true ↦ λ is e. (
          let f : x ≡ a = cc in
          subst (IsFound R test (x ∷ xs)) f (record { there = inl refl; passes = is; first = λ b h on. elim h [ inl g ↦ subst (R x) g (itself x) | inr k ↦ s.0 b k ] }))
      | false ↦ λ is e. (
          let r = first_if_found R itself test xs s.1 a e in
          record {
            there = inr r.there;
            passes = r.passes;
            first = λ b h on. elim h [ inl g ↦ absurd (let f : test b ≡ false = subst (λ y. test y ≡ false) g is in cc) | inr k ↦ r.first b k on ];
          })
    ] refl found

pub none_if_none_found : {X : Type 0} (test : X → Bool) (xs : List X) → find test xs ≡ None → (b : X) → Has b xs → test b ≡ false
none_if_none_found test [] none b h = absurd h
none_if_none_found test (x ∷ xs) none b h =
    elim (test x) as (λ o. test x ≡ o → cond o (Some x) (find test xs) ≡ None → test b ≡ false) [
      | true ↦ λ is e. absurd (cc)
      | false ↦ λ is e. elim h [ inl g ↦ subst (λ y. test y ≡ false) g is | inr k ↦ none_if_none_found test xs e b k ]
    ] refl none
