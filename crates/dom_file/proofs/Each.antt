-- A loop that checks one element after another, beside the definition over all of them.
use Rattle.std.proofs.Common.{◌≡◌, ℕ, List, ◌++◌, drop, map, Result, Ok}
use Rattle.dom_file.specs.Steps.{◌>>=◌, each}

-- the first i elements gave the list done, and the rest decides the whole
abbrev pub Gathers : {A B C E : Type 0} → (B → Result C E) → (A → B) → List A → ℕ → List C → Type 0
Gathers check view xs i done = each check (map view xs) ≡ (each check (map view (drop i xs)) >>= λ ys. Ok (done ++ ys))

-- the same where the elements are checked as they are
abbrev pub Collects : {A C E : Type 0} → (A → Result C E) → List A → ℕ → List C → Type 0
Collects check xs i done = each check xs ≡ (each check (drop i xs) >>= λ ys. Ok (done ++ ys))
