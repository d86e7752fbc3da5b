-- Changes of places as one change of each place.
use Rattle.std.proofs.Common.{◌≡◌, ◌≢◌, ◌+◌, ℕ, suc, Bool, true, false, List, [], ◌∷◌, refl, arith, ap, subst, sym, ◌∙◌, cond, length}
use Rattle.std.specs.Prelude.{Option, Some, None, option_map, ◌==◌}
use Rattle.std.proofs.Math.Decide.{ℕ_discrete}
use Rattle.std.proofs.lemmas.Bool.{eq-eqb, ne_eqb}
use Rattle.sched_base.specs.declared.UnitId.{UnitId}
use Rattle.sched_model.specs.Places.{at_place, change_at, change_each}
use Rattle.sched_laws.proofs.EachPlace.{at_place-change_at, at_place-set_other, at_place-change_each, length_set, length_change_each}
use Rattle.record_laws.specs.Decisions.{number_in}

pub map_same : {X : Type 0} (f : X → X) (o : Option X) → ((x : X) → f x ≡ x) → option_map f o ≡ o
map_same f None same = refl
map_same f (Some x) same = ap (λ (z : _). Some z) (same x)

pub map_as : {X : Type 0} (f h : X → X) (o : Option X) → ((x : X) → f x ≡ h x) → option_map f o ≡ option_map h o
map_as f h None same = refl
map_as f h (Some x) same = ap (λ (z : _). Some z) (same x)

pub map_map : {X : Type 0} (f h : X → X) (o : Option X) → option_map f (option_map h o) ≡ option_map (λ (x : X). f (h x)) o
map_map f h None = refl
map_map f h (Some x) = refl

pub at_place-change_at_other : {X : Type 0} (i j : ℕ) (f : X → X) (places : List (Option X)) → i ≢ j → at_place (change_at i f places) j ≡ at_place places j
at_place-change_at_other i j f places other = at_place-set_other i j (option_map f (at_place places i)) places other

-- a change of the place e, seen at the place d
pub change_seen : {X : Type 0} (e d n : ℕ) (f : X → X) (F : Option ℕ → X → X) (places : List (Option X)) → ((x : X) → F None x ≡ x) → ((x : X) → F (Some n) x ≡ f x)
    → at_place (change_at e f places) d ≡ option_map (F (cond (e == d) (Some n) None)) (at_place places d)
change_seen {X} e d n f F places none some =
    elim (ℕ_discrete e d) [
      | yes same ↦ (
          let b : (e == d) ≡ true = grind (arith, same) in
          subst (λ (k : ℕ). at_place (change_at e f places) k ≡ option_map (F (cond (e == d) (Some n) None)) (at_place places k)) same
          (at_place-change_at e f places ∙ sym (map_as (F (Some n)) f (at_place places e) some) ∙ ap (λ (c : Bool). option_map (F (cond c (Some n) None)) (at_place places e)) (sym b)))
      | no differs ↦ (
          let b : (e == d) ≡ false = ne_eqb e d differs in
          at_place-change_at_other e d f places differs ∙ sym (map_same (F None) (at_place places d) none) ∙ ap (λ (c : Bool). option_map (F (cond c (Some n) None)) (at_place places d)) (sym b))
    ]

pub each_seen : {X : Type 0} (d : ℕ) (f : ℕ → X → X) (places : List (Option X)) → at_place (change_each 0 f places) d ≡ option_map (f d) (at_place places d)
each_seen d f places = at_place-change_each 0 d f places ∙ ap (λ (k : ℕ). option_map (f k) (at_place places d)) (let e : 0 + d ≡ d = omega arith in e)

-- equal at each place
pub same_places : {X : Type 0} (xs ys : List (Option X)) → length xs ≡ length ys → ((i : ℕ) → at_place xs i ≡ at_place ys i) → xs ≡ ys
same_places [] [] same each = refl
same_places [] (y ∷ ys) same each = absurd (cc)
same_places (x ∷ xs) [] same each = absurd (cc)
same_places (x ∷ xs) (y ∷ ys) same each =
    let rest : xs ≡ ys = same_places xs ys (let e : suc (length xs) ≡ suc (length ys) = same in omega (arith, e)) (λ i. each (suc i)) in
    ap (λ o. o ∷ xs) (each 0) ∙ ap (λ os. y ∷ os) rest

-- the change of one place is one of each
pub change_is : {X : Type 0} (e n : ℕ) (f : X → X) (F : Option ℕ → X → X) (places : List (Option X)) → ((x : X) → F None x ≡ x) → ((x : X) → F (Some n) x ≡ f x)
    → change_at e f places ≡ change_each 0 (λ (d : ℕ). F (cond (e == d) (Some n) None)) places
change_is e n f F places none some =
    same_places (change_at e f places) (change_each 0 (λ (d : ℕ). F (cond (e == d) (Some n) None)) places)
    (length_set e _ places ∙ sym (length_change_each 0 (λ (d : ℕ). F (cond (e == d) (Some n) None)) places))
    (λ d. change_seen e d n f F places none some ∙ sym (each_seen d (λ (k : ℕ). F (cond (e == k) (Some n) None)) places))

pub each_same : {X : Type 0} (n : ℕ) (f : ℕ → X → X) (places : List (Option X)) → ((d : ℕ) (x : X) → f d x ≡ x) → change_each n f places ≡ places
each_same n f [] same = refl
each_same n f (o ∷ places) same = ap (λ z. z ∷ change_each (suc n) f places) (map_same (f n) o (same n)) ∙ ap (λ zs. o ∷ zs) (each_same (suc n) f places same)

pub each_each : {X : Type 0} (n : ℕ) (f h : ℕ → X → X) (places : List (Option X)) → change_each n f (change_each n h places) ≡ change_each n (λ d (x : X). f d (h d x)) places
each_each n f h [] = refl
each_each {X} n f h (o ∷ places) = ap (λ z. z ∷ change_each (suc n) f (change_each (suc n) h places)) (map_map (f n) (h n) o) ∙ ap (λ zs. option_map (λ (x : X). f n (h n x)) o ∷ zs) (each_each (suc n) f h places)

pub number_here : (d j : ℕ) (u : UnitId) → number_in d (Some u) ≡ Some j → (u.dom.0 ≡ d) × (u.n ≡ j)
number_here d j u is = go (u.dom.0 == d) refl is
  where
    go : (b : Bool) → (u.dom.0 == d) ≡ b → cond b (Some u.n) None ≡ Some j → (u.dom.0 ≡ d) × (u.n ≡ j)
    go true same is2 = (grind (arith, same), cc)
    go false same is2 = absurd (cc)

-- the unit of whom a place has the number
pub record Numbered (d i : ℕ) (o : Option UnitId) : Type 0 where
  pub unit : UnitId
  pub is : o ≡ Some unit
  pub dom : unit.dom.0 ≡ d
  pub n : unit.n ≡ i

pub numbered : (d i : ℕ) (o : Option UnitId) → number_in d o ≡ Some i → Numbered d i o
numbered d i None is = absurd (cc)
numbered d i (Some u) is = (let here = number_here d i u is in record { unit = u; is = refl; dom = here.0; n = here.1 })

pub own_number : (u : UnitId) → number_in u.dom.0 (Some u) ≡ Some u.n
own_number u = ap (λ (b : Bool). cond b (Some u.n) None) (eq-eqb u.dom.0 u.dom.0 refl)
