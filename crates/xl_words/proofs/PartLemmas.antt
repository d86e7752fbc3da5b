-- How a search for a separator cuts a text.
use Rattle.std.proofs.Common.{◌≡◌, ℕ, ◌+◌, ◌<◌, ◌≤◌, Bool, true, false, List, [], ◌∷◌, Option, Some, None, length, take, drop, refl, sym, cond, arith, nat_lt, ◌==◌, subst}
use Rattle.std.proofs.lemmas.Bool.{ltb-false, ltb-true}
use Rattle.std.specs.Option.{MatchOption}
use Rattle.std.specs.List.{position, position_or_len}
use Rattle.std.proofs.lemmas.List.Sums.{fails_before_first}
use Rattle.std.proofs.lemmas.List.Splits.{slice_split_none, slice_split_first, length-slice_split}
use Rattle.xl_words.specs.Parts.{parts}

-- what a search says of the parts
abbrev pub CutAs : ℕ → List ℕ → Option ℕ → Type 0
CutAs c bs r = MatchOption r (parts c bs ≡ bs ∷ []) (λ i. (i < length bs) × (parts c bs ≡ take i bs ∷ parts c (drop (i + 1) bs)))

cut_by_test : (c : ℕ) (bs : List ℕ) (found : Bool) → found ≡ nat_lt (position_or_len (λ b. b == c) bs) (length bs) → CutAs c bs (cond found (Some (position_or_len (λ b. b == c) bs)) None)
cut_by_test c bs true e =
    let inside = ltb-true _ _ (sym e) in
    (inside, slice_split_first (λ b. b == c) bs 0 inside)
cut_by_test c bs false e =
    let past = ltb-false _ _ (sym e) in
    slice_split_none (λ b. b == c) bs (λ k d l. fails_before_first (λ b. b == c) bs k d (omega arith))

-- the text from the first separator on, or the one part where there is none
pub found_cut : (c : ℕ) (bs : List ℕ) (r : Option ℕ) → r ≡ position (λ b. b == c) bs → CutAs c bs r
found_cut c bs r e = subst (CutAs c bs) (sym e) (cut_by_test c bs _ refl)

-- there is one part at least
pub some_part : (c : ℕ) (bs : List ℕ) → 1 ≤ length (parts c bs)
some_part c bs = omega (arith, length-slice_split (λ b. b == c) bs)
