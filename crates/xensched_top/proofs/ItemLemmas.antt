-- The texts of the items of a list, one put each.
use Rattle.std.proofs.Common.{◌≡◌, ℕ, ◌+◌, ◌≤◌, List, [], ◌∷◌, ◌++◌, length, take, drop, flat_map, slice_get, Option, Some, ap, sym, subst, ◌∙◌, arith}
use Rattle.std.proofs.lemmas.Grind.{flat_map-append}
use Rattle.std.proofs.lemmas.List.Concat.{flat_map-cons}
use Rattle.std.proofs.lemmas.List.{append-nil, take_more, take_all, take-append-drop}
use Rattle.std.proofs.lemmas.Option.{get_or_from_slice_get, slice_get_within}
use Rattle.sched_io.specs.Puts.{Adds, AddsPart}
use Rattle.sched_io.proofs.PutLemmas.{adds_both, adds_then_part, part_of_more}

-- one item more
pub take_next : {X : Type 0} (items : List X) (i : ℕ) (x : X) → slice_get items i ≡ Some x → take (i + 1) items ≡ take i items ++ x ∷ []
take_next {X} items i x found =
    take_more items i x (slice_get_within items i x found) ∙ ap (λ (y : X). take i items ++ y ∷ []) (get_or_from_slice_get items i x x found)

next_text : {X : Type 0} (f : X → List ℕ) (items : List X) (i : ℕ) (x : X) → slice_get items i ≡ Some x → flat_map f (take (i + 1) items) ≡ flat_map f (take i items) ++ f x
next_text f items i x found =
    ap (flat_map f) (take_next items i x found)
    ∙ flat_map-append f (take i items) (x ∷ [])
    ∙ ap (λ z. flat_map f (take i items) ++ z) (flat_map-cons f x [] ∙ append-nil (f x))

whole_text : {X : Type 0} (f : X → List ℕ) (items : List X) (i : ℕ) (x : X) → slice_get items i ≡ Some x → flat_map f items ≡ (flat_map f (take i items) ++ f x) ++ flat_map f (drop (i + 1) items)
whole_text f items i x found =
    ap (flat_map f) (sym (take-append-drop (i + 1) items))
    ∙ flat_map-append f (take (i + 1) items) (drop (i + 1) items)
    ∙ ap (λ z. z ++ flat_map f (drop (i + 1) items)) (next_text f items i x found)

-- the texts of the first i items were put, and no count of faults fell
pub record PutSoFar {X : Type 0} (f : X → List ℕ) (items : List X) (before now : Option (List ℕ)) (old new i : ℕ) : Type 0 where
  pub adds : Adds before now (flat_map f (take i items))
  pub counts : old ≤ new

pub put_more : {X : Type 0} {f : X → List ℕ} {items : List X} {before now after : Option (List ℕ)} {old new newer i : ℕ} (x : X) (piece : List ℕ) →
    PutSoFar f items before now old new i → slice_get items i ≡ Some x → piece ≡ f x → Adds now after piece → new ≤ newer → PutSoFar f items before after old newer (i + 1)
put_more {X} {f} {items} {before} {now} {after} {old} {new} {newer} {i} x piece far found is put risen = record {
  adds = subst (λ (z : List ℕ). Adds before after z) (sym (next_text f items i x found)) (adds_both before now after _ _ far.adds (subst (λ (z : List ℕ). Adds now after z) is put));
  counts = omega (arith, far.counts, risen);
}

pub put_part : {X : Type 0} {f : X → List ℕ} {items : List X} {before now after : Option (List ℕ)} {old new i : ℕ} (x : X) (piece : List ℕ) →
    PutSoFar f items before now old new i → slice_get items i ≡ Some x → piece ≡ f x → AddsPart now after piece → AddsPart before after (flat_map f items)
put_part {X} {f} {items} {before} {now} {after} {old} {new} {i} x piece far found is part =
    subst (λ (z : List ℕ). AddsPart before after z) (sym (whole_text f items i x found))
    (part_of_more before after _ (flat_map f (drop (i + 1) items)) (adds_then_part before now after _ _ far.adds (subst (λ (z : List ℕ). AddsPart now after z) is part)))

pub put_ends : {X : Type 0} {f : X → List ℕ} {items : List X} {before now : Option (List ℕ)} {old new i : ℕ} → PutSoFar f items before now old new i → length items ≤ i → Adds before now (flat_map f items)
put_ends {X} {f} {items} {before} {now} {old} {new} {i} far all = subst (λ (z : List ℕ). Adds before now z) (ap (flat_map f) (take_all i items all)) far.adds
