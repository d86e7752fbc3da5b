-- How reads and writes follow one another, where the bytes are known.
use Rattle.std.proofs.Common.{◌≡◌, ℕ, ◌-◌, List, [], ◌∷◌, ◌++◌, length, take, drop, Option, Some, None, sym, subst, ◌∙◌, arith, append_assoc, length-drop}
use Rattle.std.proofs.Math.Seq.{take-length}
use Rattle.std.proofs.lemmas.List.{append-nil, take-append-drop}
use Rattle.std.specs.Io.KnownBytes.{Appends}

-- nothing was written
pub appends_nothing : (known : Option (List ℕ)) → Appends known known []
appends_nothing None = tt
appends_nothing (Some all) = sym (append-nil all)

-- one piece was written after another
pub appends_both : (first second third : Option (List ℕ)) (piece more : List ℕ) →
    Appends first second piece → Appends second third more → Appends first third (piece ++ more)
appends_both None second third piece more before after = tt
appends_both (Some old) None third piece more before after = absurd before
appends_both (Some old) (Some was) None piece more before after = absurd after
appends_both (Some old) (Some was) (Some all) piece more before after =
    rw (after, before) (append_assoc old piece more)

-- a front of the rest moves to what is done
pub moved_front : (done rest piece : List ℕ) (count : ℕ) → done ++ rest ≡ piece →
    (done ++ take count rest) ++ take (length rest - count) (drop count rest) ≡ piece
moved_front done rest piece count whole =
    let left : take (length rest - count) (drop count rest) ≡ drop count rest =
    rw (← length-drop count rest) (take-length (drop count rest)) in
    rw (left, append_assoc, take-append-drop) whole

-- where nothing is left, all is done
pub all_done : (before now : Option (List ℕ)) (done rest piece : List ℕ) → done ++ rest ≡ piece → length rest ≡ 0 →
    Appends before now done → Appends before now piece
all_done before now done [] piece whole empty written = subst (λ xs. Appends before now xs) (sym (append-nil done) ∙ whole) written
all_done before now done (x ∷ rest) piece whole empty written = absurd (omega (arith, empty))
