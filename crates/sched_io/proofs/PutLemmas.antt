-- How puts follow one another.
use Rattle.std.proofs.Common.{◌≡◌, ℕ, zero, suc, ◌+◌, List, [], ◌∷◌, ap, ◌++◌, length, take, Option, Some, None, refl, arith, append_assoc}
use Rattle.std.proofs.lemmas.Grind.{common_steps}
use Rattle.std.proofs.Math.Seq.{take-append-add, take-length}
use Rattle.sched_io.specs.Puts.{Adds, AddsPart}

-- nothing was put
pub adds_nothing : (sink : Option (List ℕ)) → Adds sink sink []
adds_nothing None = record { told = tt }
adds_nothing (Some all) = record { told = grind (arith, common_steps) }

-- one text after another
pub adds_both : (first second third : Option (List ℕ)) (text more : List ℕ) →
    Adds first second text → Adds second third more → Adds first third (text ++ more)
adds_both first second None text more before after = record { told = tt }
adds_both first None (Some all) text more before after = absurd after.told
adds_both None (Some was) (Some all) text more before after = absurd before.told
adds_both (Some old) (Some was) (Some all) text more before after =
    record { told = rw (after.told, before.told) (append_assoc old text more) }

-- a whole text, and then a prefix of the next
pub adds_then_part : (first second third : Option (List ℕ)) (text more : List ℕ) →
    Adds first second text → AddsPart second third more → AddsPart first third (text ++ more)
adds_then_part first second None text more before after = record { told = tt }
adds_then_part first None (Some all) text more before after = absurd after.told
adds_then_part None (Some was) (Some all) text more before after = absurd before.told
adds_then_part (Some old) (Some was) (Some all) text more before after =
    record { told = (length text + after.told.0, rw (after.told.1, before.told, take-append-add) (append_assoc old text _)) }

-- a prefix of a list is a prefix of the list with more behind it, of at most its own length
prefix_of_more : (xs ys : List ℕ) (count : ℕ) → (some : ℕ) × (take count xs ≡ take some (xs ++ ys))
prefix_of_more xs ys zero = (0, refl)
prefix_of_more [] ys (suc count) = (0, refl)
prefix_of_more (x ∷ xs) ys (suc count) =
    let rest : (some : ℕ) × (take count xs ≡ take some (xs ++ ys)) = prefix_of_more xs ys count in
    (suc rest.0, ap (λ zs. x ∷ zs) rest.1)

-- a prefix of a text is one of a longer text
pub part_of_more : (first second : Option (List ℕ)) (text more : List ℕ) →
    AddsPart first second text → AddsPart first second (text ++ more)
part_of_more first None text more part = record { told = tt }
part_of_more None (Some all) text more part = absurd part.told
part_of_more (Some old) (Some all) text more part =
    let shorter : (some : ℕ) × (take part.told.0 text ≡ take some (text ++ more)) = prefix_of_more text more part.told.0 in
    record { told = (shorter.0, rw (part.told.1, shorter.1) refl) }

-- the whole text is a prefix of it
pub part_of_whole : (first second : Option (List ℕ)) (text : List ℕ) → Adds first second text → AddsPart first second text
part_of_whole first None text whole = record { told = tt }
part_of_whole None (Some all) text whole = absurd whole.told
part_of_whole (Some old) (Some all) text whole = record { told = (length text, rw (whole.told, take-length) refl) }

-- what a caller's proof needs of puts
pub ruleset put_steps = (adds_nothing, adds_both, adds_then_part, part_of_more, part_of_whole)
