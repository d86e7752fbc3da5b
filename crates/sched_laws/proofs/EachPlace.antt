-- What holds of everything that stands at a place, and the changes that keep it.
use Rattle.std.proofs.Common.{slice_set, ◌<◌, length, ◌≡◌, ◌≢◌, ◌+◌, ℕ, zero, suc, Bool, true, false, List, [], ◌∷◌, refl, arith, ap, subst, sym, ◌∙◌, ◌⊎◌, inl, inr}
use Rattle.std.specs.Prelude.{Option, Some, None, option_map, replicate, cond, slice_get, slice_index_or}
use Rattle.sched_laws.specs.EachPlace.{EachAt, EachPlace}
use Rattle.sched_model.specs.Places.{at_place, put_at, clear_at, change_at, change_each, first_place}
use Rattle.sched_base.specs.declared.VcpuId.{VcpuId}
use Rattle.sched_model.specs.declared.state.Domain.{Domain}
use Rattle.sched_model.specs.declared.state.Vcpu.{Vcpu}
use Rattle.sched_model.specs.Pool.{vcpu_among}

-- what stands at a place after a change of one place: what stood there, or what was changed
pub read_change_at : {X : Type 0} (i j : ℕ) (f : X → X) (places : List (Option X)) (y : X) → at_place (change_at i f places) j ≡ Some y → ((j ≢ i) × (at_place places j ≡ Some y)) ⊎ ((x : X) × (at_place places i ≡ Some x) × (j ≡ i) × (f x ≡ y))
read_change_at zero j f [] y at = grind arith
read_change_at (suc i) j f [] y at = grind arith
read_change_at zero zero f (None ∷ places) y at = grind arith
read_change_at zero zero f (Some x ∷ places) y at = inr (x, refl, refl, cc)
read_change_at zero (suc j) f (p ∷ places) y at = inl (λ e. omega arith, at)
read_change_at (suc i) zero f (p ∷ places) y at = inl (λ e. omega arith, at)
read_change_at (suc i) (suc j) f (p ∷ places) y at = elim (read_change_at i j f places y at) [
  | inl was ↦ inl (λ e. was.0 (omega arith), was.1)
  | inr r ↦ inr (r.0, r.1, ap suc r.2, r.3)
]

pub read_put_at : {X : Type 0} (i j : ℕ) (x : X) (places : List (Option X)) (y : X) → at_place (put_at i x places) j ≡ Some y → (at_place places j ≡ Some y) ⊎ ((j ≡ i) × (x ≡ y))
read_put_at zero j x [] y at = grind arith
read_put_at (suc i) j x [] y at = grind arith
read_put_at zero zero x (p ∷ places) y at = grind arith
read_put_at zero (suc j) x (p ∷ places) y at = inl at
read_put_at (suc i) zero x (p ∷ places) y at = inl at
read_put_at (suc i) (suc j) x (p ∷ places) y at = elim (read_put_at i j x places y at) [ inl was ↦ inl was | inr r ↦ inr (ap suc r.0, r.1) ]

pub read_clear_at : {X : Type 0} (i j : ℕ) (places : List (Option X)) (y : X) → at_place (clear_at i places) j ≡ Some y → (j ≢ i) × (at_place places j ≡ Some y)
read_clear_at zero j [] y at = grind arith
read_clear_at (suc i) j [] y at = grind arith
read_clear_at zero zero (p ∷ places) y at = grind arith
read_clear_at zero (suc j) (p ∷ places) y at = (λ e. grind arith, at)
read_clear_at (suc i) zero (p ∷ places) y at = (λ e. grind arith, at)
read_clear_at (suc i) (suc j) (p ∷ places) y at = let r = read_clear_at i j places y at in (λ e. r.0 (omega arith), r.1)

-- where nothing stands there, the place is empty
pub is_empty : {X : Type 0} (o : Option X) → ((x : X) → o ≡ Some x → ⊥) → o ≡ None
is_empty None none = refl
is_empty (Some x) none = absurd (none x refl)

pub at_place-clear_at : {X : Type 0} (i : ℕ) (places : List (Option X)) → at_place (clear_at i places) i ≡ None
at_place-clear_at i places = is_empty (at_place (clear_at i places) i) (λ x at. (read_clear_at i i places x at).0 refl)

pub at_place-change_each : {X : Type 0} (n i : ℕ) (f : ℕ → X → X) (places : List (Option X)) → at_place (change_each n f places) i ≡ option_map (f (n + i)) (at_place places i)
at_place-change_each n i f [] = grind arith
at_place-change_each n zero f (p ∷ places) = grind arith
at_place-change_each n (suc i) f (p ∷ places) = let e : n + suc i ≡ suc n + i = omega arith in rw e (at_place-change_each (suc n) i f places)

-- what stands at a place after a change of each
pub read_change_each : {X : Type 0} (j : ℕ) (f : ℕ → X → X) (places : List (Option X)) (y : X) → at_place (change_each 0 f places) j ≡ Some y → (x : X) × (at_place places j ≡ Some x) × (f j x ≡ y)
read_change_each {X} j f places y at =
    let e : 0 + j ≡ j = omega arith in
    elim (at_place places j) as (λ o. at_place places j ≡ o → option_map (f j) o ≡ Some y → (x : X) × (at_place places j ≡ Some x) × (f j x ≡ y)) [
      | None ↦ λ is e. absurd (cc)
      | Some x ↦ λ is e. (x, is, cc)
    ] refl (rw e at (sym (at_place-change_each 0 j f places) ∙ at))

-- what stands at a place that something was put at, and at another
pub at_place-put_at : {X : Type 0} (i : ℕ) (x : X) (places : List (Option X)) → i < length places → at_place (put_at i x places) i ≡ Some x
at_place-put_at i x [] inside = absurd (omega (arith, inside))
at_place-put_at zero x (p ∷ places) inside = refl
at_place-put_at (suc i) x (p ∷ places) inside = at_place-put_at i x places (omega (arith, inside))

-- what stands at another place than the one that is set
pub at_place-set_other : {X : Type 0} (i j : ℕ) (o : Option X) (places : List (Option X)) → i ≢ j → at_place (slice_set places i o) j ≡ at_place places j
at_place-set_other zero j o [] other = refl
at_place-set_other (suc i) j o [] other = refl
at_place-set_other zero zero o (p ∷ places) other = absurd (other refl)
at_place-set_other zero (suc j) o (p ∷ places) other = refl
at_place-set_other (suc i) zero o (p ∷ places) other = refl
at_place-set_other (suc i) (suc j) o (p ∷ places) other = at_place-set_other i j o places (λ e. other (ap suc e))

pub at_place-put_at_other : {X : Type 0} (i j : ℕ) (x : X) (places : List (Option X)) → j ≢ i → at_place (put_at i x places) j ≡ at_place places j
at_place-put_at_other i j x places other = at_place-set_other i j (Some x) places (λ e. other (sym e))

pub at_place-clear_at_other : {X : Type 0} (i j : ℕ) (places : List (Option X)) → j ≢ i → at_place (clear_at i places) j ≡ at_place places j
at_place-clear_at_other i j places other = at_place-set_other i j None places (λ e. other (sym e))

-- what stands at a place that is changed
pub at_place-change_at : {X : Type 0} (i : ℕ) (f : X → X) (places : List (Option X)) → at_place (change_at i f places) i ≡ option_map f (at_place places i)
at_place-change_at zero f [] = refl
at_place-change_at (suc i) f [] = refl
at_place-change_at zero f (p ∷ places) = refl
at_place-change_at (suc i) f (p ∷ places) = at_place-change_at i f places

pub place_below : {X : Type 0} (places : List (Option X)) (i : ℕ) (x : X) → at_place places i ≡ Some x → i < length places
place_below [] i x at = absurd (cc)
place_below (y ∷ places) zero x at = omega arith
place_below (y ∷ places) (suc i) x at = (let r = place_below places i x at in omega (arith, r))

pub length_set : {X : Type 0} (i : ℕ) (x : X) (xs : List X) → length (slice_set xs i x) ≡ length xs
length_set i x [] = refl
length_set zero x (y ∷ xs) = grind arith
length_set (suc i) x (y ∷ xs) = (let r = length_set i x xs in grind (arith, r))

pub length_change_each : {X : Type 0} (n : ℕ) (f : ℕ → X → X) (xs : List (Option X)) → length (change_each n f xs) ≡ length xs
length_change_each n f [] = refl
length_change_each n f (x ∷ xs) = (let r = length_change_each (suc n) f xs in grind (arith, r))

-- the place that was found first has what passes the test
pub first_place_passes : {X : Type 0} (n i : ℕ) (test : X → Bool) (places : List (Option X)) → first_place n test places ≡ Some i → (x : X) × (k : ℕ) × (i ≡ n + k) × (at_place places k ≡ Some x) × (test x ≡ true)
first_place_passes n i test [] found = absurd (cc)
first_place_passes n i test (None ∷ places) found =
    let r = first_place_passes (suc n) i test places found in
    (r.0, suc r.1, omega arith, r.3, r.4)
first_place_passes {X} n i test (Some y ∷ places) found =
    elim (test y) as (λ b. test y ≡ b → elim b as (λ _. Option ℕ) [ true ↦ Some n | false ↦ first_place (suc n) test places ] ≡ Some i → (x : X) × (k : ℕ) × (i ≡ n + k) × (at_place (Some y ∷ places) k ≡ Some x) × (test x ≡ true)) [
      | true ↦ λ is e. (y, 0, (let e2 : n ≡ i = cc in omega arith), refl, is)
      | false ↦ λ is e. let r = first_place_passes (suc n) i test places e in (r.0, suc r.1, omega arith, r.3, r.4)
    ] refl found

-- the same from the first place on
pub found_at : {X : Type 0} (i : ℕ) (test : X → Bool) (places : List (Option X)) → first_place 0 test places ≡ Some i → (x : X) × (at_place places i ≡ Some x) × (test x ≡ true)
found_at {X} i test places found =
    let r = first_place_passes 0 i test places found in
    let e : i ≡ r.1 = omega arith in
    (r.0, subst (λ k. at_place places k ≡ Some r.0) (sym e) r.3, r.4)

-- where none was found, nothing passes
pub none_found : {X : Type 0} (n i : ℕ) (test : X → Bool) (places : List (Option X)) (x : X) → first_place n test places ≡ None → at_place places i ≡ Some x → test x ≡ false
none_found n i test [] x none at = absurd (cc)
none_found n zero test (None ∷ places) x none at = absurd (cc)
none_found n (suc i) test (None ∷ places) x none at = none_found (suc n) i test places x none at
none_found n zero test (Some y ∷ places) x none at = grind arith
none_found n (suc i) test (Some y ∷ places) x none at =
    elim (test y) as (λ b. test y ≡ b → elim b as (λ _. Option ℕ) [ true ↦ Some n | false ↦ first_place (suc n) test places ] ≡ None → test x ≡ false) [
      | true ↦ λ is e. absurd (cc)
      | false ↦ λ is e. none_found (suc n) i test places x e at
    ] refl none

-- what held at each place, with the changed one apart
pub EachAt-change_to : {X : Type 0} (P Q : ℕ → X → Type 0) (i : ℕ) (f : X → X) (places : List (Option X)) → EachAt P places → ((j : ℕ) (x : X) → j ≢ i → P j x → Q j x) → ((x : X) → at_place places i ≡ Some x → P i x → Q i (f x)) → EachAt Q (change_at i f places)
EachAt-change_to P Q i f places each other here j y at = elim (read_change_at i j f places y at) [
  | inl was ↦ other j y was.0 (each j y was.1)
  | inr r ↦ subst (λ k. Q k y) (sym r.2) (subst (Q i) r.3 (here r.0 r.1 (each i r.0 r.1)))
]

module _ {X : Type 0} (P : ℕ → X → Type 0) where
  pub EachAt-change_at : (i : ℕ) (f : X → X) (places : List (Option X)) → EachAt P places → ((x : X) → at_place places i ≡ Some x → P i x → P i (f x)) → EachAt P (change_at i f places)
  EachAt-change_at i f places each kept j y at = elim (read_change_at i j f places y at) [
    | inl was ↦ each j y was.1
    | inr r ↦ subst (λ k. P k y) (sym r.2) (subst (P i) r.3 (kept r.0 r.1 (each i r.0 r.1)))
  ]

  pub EachAt-put_at : (i : ℕ) (x : X) (places : List (Option X)) → EachAt P places → P i x → EachAt P (put_at i x places)
  EachAt-put_at i x places each here j y at = elim (read_put_at i j x places y at) [ inl was ↦ each j y was | inr r ↦ subst (λ k. P k y) (sym r.0) (subst (P i) r.1 here) ]

  pub EachAt-clear_at : (i : ℕ) (places : List (Option X)) → EachAt P places → EachAt P (clear_at i places)
  EachAt-clear_at i places each j y at = each j y (read_clear_at i j places y at).1

  pub EachAt-change_each : (f : ℕ → X → X) (places : List (Option X)) → EachAt P places → ((n : ℕ) (x : X) → at_place places n ≡ Some x → P n x → P n (f n x)) → EachAt P (change_each 0 f places)
  EachAt-change_each f places each kept j y at =
      let r = read_change_each j f places y at in
      subst (P j) r.2 (kept j r.0 r.1 (each j r.0 r.1))

module _ {X : Type 0} (P : X → Type 0) where
  pub EachPlace-change_at : (i : ℕ) (f : X → X) (places : List (Option X)) → EachPlace P places → ((x : X) → at_place places i ≡ Some x → P x → P (f x)) → EachPlace P (change_at i f places)
  EachPlace-change_at i f places each kept = EachAt-change_at (λ n. P) i f places each kept

  pub EachPlace-put_at : (i : ℕ) (x : X) (places : List (Option X)) → EachPlace P places → P x → EachPlace P (put_at i x places)
  EachPlace-put_at i x places each here = EachAt-put_at (λ n. P) i x places each here

  pub EachPlace-clear_at : (i : ℕ) (places : List (Option X)) → EachPlace P places → EachPlace P (clear_at i places)
  EachPlace-clear_at i places each = EachAt-clear_at (λ n. P) i places each

  pub EachPlace-change_each : (f : ℕ → X → X) (places : List (Option X)) → EachPlace P places → ((n : ℕ) (x : X) → at_place places n ≡ Some x → P x → P (f n x)) → EachPlace P (change_each 0 f places)
  EachPlace-change_each f places each kept = EachAt-change_each (λ n. P) f places each kept

  pub EachPlace-empty : (n : ℕ) → EachPlace P (replicate n None)
  EachPlace-empty zero j y at = absurd (cc)
  EachPlace-empty (suc n) zero y at = absurd (cc)
  EachPlace-empty (suc n) (suc j) y at = EachPlace-empty n j y at

-- what holds in each case of a value holds of the value
pub by_option : {X Y : Type 0} (Q : Y → Type 0) (o : Option X) (a : Y) (b : X → Y) → (o ≡ None → Q a) → ((x : X) → o ≡ Some x → Q (b x)) → Q (elim o as (λ _. Y) [ None ↦ a | Some x ↦ b x ])
by_option Q None a b none some = none refl
by_option Q (Some x) a b none some = some x refl

pub by_test : {Y : Type 0} (Q : Y → Type 0) (test : Bool) (a b : Y) → (test ≡ true → Q a) → (test ≡ false → Q b) → Q (elim test as (λ _. Y) [ true ↦ a | false ↦ b ])
by_test Q true a b when else = when refl
by_test Q false a b when else = else refl

pub by_cond : {Y : Type 0} (Q : Y → Type 0) (test : Bool) (a b : Y) → (test ≡ true → Q a) → (test ≡ false → Q b) → Q (cond test a b)
by_cond Q true a b when else = when refl
by_cond Q false a b when else = else refl

pub at_place-replicate : {X : Type 0} (n i : ℕ) → at_place {X = X} (replicate n None) i ≡ None
at_place-replicate zero i = refl
at_place-replicate (suc n) zero = refl
at_place-replicate (suc n) (suc i) = at_place-replicate n i

-- a vCPU that is there is one of a domain that is there
pub vcpu_is : (domains : List (Option Domain)) (v : VcpuId) (x : Vcpu) → vcpu_among domains v ≡ Some x → (d : Domain) × (at_place domains v.dom.0 ≡ Some d) × (slice_get d.vcpus v.n ≡ Some x)
vcpu_is domains v x is =
    by_option (λ (o : Option Vcpu). o ≡ Some x → (d : Domain) × (at_place domains v.dom.0 ≡ Some d) × (slice_get d.vcpus v.n ≡ Some x)) (at_place domains v.dom.0) None (λ d. slice_get d.vcpus v.n)
    (λ none e. absurd (cc)) (λ d at e. (d, at, e)) is

-- what was read at a place has what each has
pub place_fits : {X : Type 0} (P : X → Type 0) (places : List (Option X)) (i : ℕ) (o : Option X) (x : X) → EachPlace P places → i < length places → o ≡ slice_index_or places i o → o ≡ Some x → P x
place_fits P [] i o x each inside read is = absurd (omega (arith, inside))
place_fits P (p ∷ places) zero o x each inside read is = each 0 x (sym read ∙ is)
place_fits P (p ∷ places) (suc i) o x each inside read is = place_fits P places i o x (λ j y at. each (suc j) y at) (omega (arith, inside)) read is
