-- Words with too many parts.
use Rattle.std.proofs.Common.{◌≡◌, ℕ, ◌≤◌, List, [], ◌∷◌, None, length, refl, arith}
use Rattle.xl_words.specs.Values.{range_from, entry_from}

-- more than two parts are no range
pub long_range : (low : List ℕ) (ps : List (List ℕ)) → 2 ≤ length ps → range_from (low ∷ ps) ≡ None
long_range low [] h = absurd (omega arith)
long_range low (p ∷ []) h = absurd (omega arith)
long_range low (p ∷ q ∷ ps) h = refl

-- more than three parts are no entry
pub long_entry : (dom unit : List ℕ) (ps : List (List ℕ)) → 2 ≤ length ps → entry_from (dom ∷ unit ∷ ps) ≡ None
long_entry dom unit [] h = absurd (omega arith)
long_entry dom unit (p ∷ []) h = absurd (omega arith)
long_entry dom unit (p ∷ q ∷ ps) h = refl
