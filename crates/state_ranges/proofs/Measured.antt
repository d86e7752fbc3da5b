-- A number of each thing that stands at a place, and the changes of one place.
use Rattle.std.proofs.Common.{◌≡◌, ℕ, zero, suc, List, [], ◌∷◌, refl, arith, ap, ◌∙◌, length}
use Rattle.std.specs.Prelude.{Option, Some, None, option_map}
use Rattle.sched_model.specs.Places.{at_place, put_at, clear_at, change_at, change_each}
use Rattle.state_ranges.specs.Counts.{measures_of}

pub length_measured : {X : Type 0} (measure : X → ℕ) (places : List (Option X)) → length (measures_of measure places) ≡ length places
length_measured measure [] = refl
length_measured measure (o ∷ places) = (let r = length_measured measure places in grind (arith, r))

-- a change that leaves the number
pub measured_change_at : {X : Type 0} (measure : X → ℕ) (i : ℕ) (f : X → X) (places : List (Option X)) → ((x : X) → measure (f x) ≡ measure x) → measures_of measure (change_at i f places) ≡ measures_of measure places
measured_change_at measure zero f [] same = refl
measured_change_at measure (suc i) f [] same = refl
measured_change_at measure zero f (None ∷ places) same = refl
measured_change_at measure zero f (Some x ∷ places) same = ap (λ (n : ℕ). Some n ∷ measures_of measure places) (same x)
measured_change_at measure (suc i) f (o ∷ places) same = ap (λ (ns : List (Option ℕ)). option_map measure o ∷ ns) (measured_change_at measure i f places same)

pub measured_change_each : {X : Type 0} (measure : X → ℕ) (n : ℕ) (f : ℕ → X → X) (places : List (Option X)) → ((i : ℕ) (x : X) → measure (f i x) ≡ measure x) → measures_of measure (change_each n f places) ≡ measures_of measure places
measured_change_each measure n f [] same = refl
measured_change_each measure n f (None ∷ places) same = ap (λ (ns : List (Option ℕ)). None ∷ ns) (measured_change_each measure (suc n) f places same)
measured_change_each measure n f (Some x ∷ places) same =
    ap (λ (k : ℕ). Some k ∷ measures_of measure (change_each (suc n) f places)) (same n x)
    ∙ ap (λ (ns : List (Option ℕ)). Some (measure x) ∷ ns) (measured_change_each measure (suc n) f places same)

-- what is put at a place, and a place that is cleared
pub measured_put_at : {X : Type 0} (measure : X → ℕ) (i : ℕ) (x : X) (places : List (Option X)) → measures_of measure (put_at i x places) ≡ put_at i (measure x) (measures_of measure places)
measured_put_at measure zero x [] = refl
measured_put_at measure (suc i) x [] = refl
measured_put_at measure zero x (o ∷ places) = refl
measured_put_at measure (suc i) x (o ∷ places) = ap (λ (ns : List (Option ℕ)). option_map measure o ∷ ns) (measured_put_at measure i x places)

pub measured_clear_at : {X : Type 0} (measure : X → ℕ) (i : ℕ) (places : List (Option X)) → measures_of measure (clear_at i places) ≡ clear_at i (measures_of measure places)
measured_clear_at measure zero [] = refl
measured_clear_at measure (suc i) [] = refl
measured_clear_at measure zero (o ∷ places) = refl
measured_clear_at measure (suc i) (o ∷ places) = ap (λ (ns : List (Option ℕ)). option_map measure o ∷ ns) (measured_clear_at measure i places)

-- what has a number at a place
pub read_measured : {X : Type 0} (measure : X → ℕ) (i : ℕ) (n : ℕ) (places : List (Option X)) → at_place (measures_of measure places) i ≡ Some n → (x : X) × (at_place places i ≡ Some x) × (measure x ≡ n)
read_measured measure i n [] at = absurd (cc)
read_measured measure zero n (None ∷ places) at = absurd (cc)
read_measured measure zero n (Some x ∷ places) at = (x, refl, cc)
read_measured measure (suc i) n (o ∷ places) at = read_measured measure i n places at

-- where no number stands, nothing does
pub none_measured : {X : Type 0} (measure : X → ℕ) (i : ℕ) (places : List (Option X)) → at_place (measures_of measure places) i ≡ None → at_place places i ≡ None
none_measured measure zero [] none = refl
none_measured measure (suc i) [] none = refl
none_measured measure zero (None ∷ places) none = refl
none_measured measure zero (Some x ∷ places) none = absurd (cc)
none_measured measure (suc i) (o ∷ places) none = none_measured measure i places none
