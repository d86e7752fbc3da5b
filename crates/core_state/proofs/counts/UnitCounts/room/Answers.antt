use Rattle.std.proofs.Common.{◌≡◌, ◌∙◌, List, replicate, get_or, ap, inl, inr, rules}
use Rattle.std.specs.Prelude.{ℕ}
use Rattle.std.proofs.lemmas.Bool.{cases_lt}
use Rattle.std.proofs.lemmas.List.{get_or-replicate, get_or_past, length-replicate}
use Rattle.unit_places.specs.Places.{unit_index}
use Rattle.core_state.proofs.counts.UnitCounts.room.Goals as goal

none_counted : (n a k : ℕ) → get_or (replicate n a) k a ≡ a
none_counted n a k =
    elim (cases_lt k n) [
      | inl below ↦ get_or-replicate n k a a below
      | inr past ↦ get_or_past (replicate n a) k a (rw (length-replicate n a) past)
    ]

pub returns : goal.returns
returns c = λ u.
    let all : c.in_ok-counts.counts.items ≡ replicate {A = ℕ} 2048 0 = search rules in
    ap (λ (xs : List ℕ). get_or xs (unit_index u) 0) all ∙ none_counted 2048 0 (unit_index u)
