-- Which numbers stand in a list that is made from others.
use Rattle.std.proofs.Common.{◌≡◌, ℕ, zero, suc, List, [], ◌∷◌, refl, subst, inl, inr}
use Rattle.std.specs.Prelude.{Option, Some, None, slice_get, map, filter_map}
use Rattle.std.specs.List.{cons_option}
use Rattle.sched_base.specs.declared.Moment.{Moment}
use Rattle.sched_model.specs.Places.{at_place, numbered_items}
use Rattle.sched_model.specs.Machine.{joined_lists, some_of}
use Rattle.sched_base.specs.Lists.{Has}
use Rattle.sched_base.proofs.Lists.{Has-left, Has-right}

pub Has-map : {X : Type 0} (f : X → ℕ) (xs : List X) (i : ℕ) (x : X) → slice_get xs i ≡ Some x → Has (f x) (map f xs)
Has-map f [] i x at = absurd (cc)
Has-map f (y ∷ ys) zero x at = inl (cc)
Has-map f (y ∷ ys) (suc i) x at = inr (Has-map f ys i x at)

pub Has-joined : {X : Type 0} (f : X → List ℕ) (xs : List X) (i : ℕ) (x : X) (n : ℕ) → slice_get xs i ≡ Some x → Has n (f x) → Has n (joined_lists f xs)
Has-joined f [] i x n at h = absurd (cc)
Has-joined f (y ∷ ys) zero x n at h = Has-left n (f y) (joined_lists f ys) (let e : x ≡ y = cc in subst (λ z. Has n (f z)) e h)
Has-joined f (y ∷ ys) (suc i) x n at h = Has-right n (f y) (joined_lists f ys) (Has-joined f ys i x n at h)

-- what something at a place names is named by the places together
pub Has-placed : {X : Type 0} (f : X → List ℕ) (from : ℕ) (places : List (Option X)) (i : ℕ) (x : X) (n : ℕ) → at_place places i ≡ Some x → Has n (f x) → Has n (joined_lists (λ e. f e.1) (numbered_items from places))
Has-placed f from [] i x n at h = absurd (cc)
Has-placed f from (None ∷ places) zero x n at h = absurd (cc)
Has-placed f from (None ∷ places) (suc i) x n at h = Has-placed f (suc from) places i x n at h
Has-placed f from (Some y ∷ places) zero x n at h = Has-left n (f y) (joined_lists (λ e. f e.1) (numbered_items (suc from) places)) (let e : x ≡ y = cc in subst (λ z. Has n (f z)) e h)
Has-placed f from (Some y ∷ places) (suc i) x n at h = Has-right n (f y) (joined_lists (λ e. f e.1) (numbered_items (suc from) places)) (Has-placed f (suc from) places i x n at h)

-- the same where each thing names a moment or none
pub Has-filter_map-placed : {X : Type 0} (f : X → Option ℕ) (from : ℕ) (places : List (Option X)) (i : ℕ) (x : X) (n : ℕ) → at_place places i ≡ Some x → f x ≡ Some n → Has n (filter_map (λ (e : ℕ × X). f e.1) (numbered_items from places))
Has-filter_map-placed f from [] i x n at is = absurd (cc)
Has-filter_map-placed f from (None ∷ places) zero x n at is = absurd (cc)
Has-filter_map-placed f from (None ∷ places) (suc i) x n at is = Has-filter_map-placed f (suc from) places i x n at is
Has-filter_map-placed f from (Some y ∷ places) zero x n at is = let e : f y ≡ Some n = cc in rw e (inl refl)
Has-filter_map-placed {X} f from (Some y ∷ places) (suc i) x n at is =
    elim (f y) as (λ o. Has n (cons_option o (filter_map (λ (e : ℕ × X). f e.1) (numbered_items (suc from) places)))) [
      | None ↦ Has-filter_map-placed f (suc from) places i x n at is
      | Some k ↦ inr (Has-filter_map-placed f (suc from) places i x n at is)
    ]

-- the first and the second of two moments, where they are there
pub Has-first : (m : Moment) (o : Option Moment) (rest : List (Option Moment)) → o ≡ Some m → Has m.0 (some_of (o ∷ rest))
Has-first m None rest is = absurd (cc)
Has-first m (Some k) rest is = inl (cc)

pub Has-second : (n : ℕ) (o : Option Moment) (rest : List (Option Moment)) → Has n (some_of rest) → Has n (some_of (o ∷ rest))
Has-second n None rest h = h
Has-second n (Some k) rest h = inr h
