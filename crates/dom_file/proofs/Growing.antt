-- A loop that adds to a list what each element of another gives, beside the definition over all of them.
use Rattle.std.proofs.Common.{◌≡◌, ◌+◌, ◌<◌, ℕ, List, [], ◌∷◌, ◌++◌, Result, Ok, Err, drop, get_or, length, map, sym, ap, ◌∙◌, subst}
use Rattle.std.specs.Result.{IsErr, IsErrAnd}
use Rattle.std.proofs.lemmas.Bool.{false≢true}
use Rattle.std.proofs.lemmas.List.{drop_more}
use Rattle.dom_file.specs.declared.fault.DomFault.{DomFault}
use Rattle.dom_file.specs.declared.fault.DomFault.TheVariants.{NoMemory, BadToml, Bad}
use Rattle.dom_file.specs.Steps.{◌>>=◌, Fails, GivesBy}

-- the definition takes the elements one by one
abbrev pub TakesOne : {B C : Type 0} → (List C → B → Result C DomFault) → (List C → List B → Result (List C) DomFault) → Type 0
TakesOne {B} {C} one all = (done : List C) (b : B) (bs : List B) → all done (b ∷ bs) ≡ (one done b >>= λ y. all (done ++ y ∷ []) bs)

-- the element at the place i decides what comes next
pub at_element : {A B C : Type 0} (one : List C → B → Result C DomFault) (all : List C → List B → Result (List C) DomFault) → TakesOne one all → (view : A → B) (xs : List A) (i : ℕ) (x : A) (done : List C) (whole : Result (List C) DomFault) (given : Result C DomFault)
    → whole ≡ all done (map view (drop i xs)) → i < length xs → x ≡ get_or xs i x → one done (view x) ≡ given
    → whole ≡ (given >>= λ y. all (done ++ y ∷ []) (map view (drop (i + 1) xs)))
at_element one all takes view xs i x done whole given so_far inside is gives =
    so_far ∙ ap (λ ys. all done (map view ys)) (drop_more xs i x inside ∙ ap (λ y. y ∷ drop (i + 1) xs) (sym is))
    ∙ takes done (view x) (map view (drop (i + 1) xs)) ∙ ap (λ r. r >>= λ y. all (done ++ y ∷ []) (map view (drop (i + 1) xs))) gives

-- its fault is that of the whole
pub fails_at : {A B C : Type 0} (one : List C → B → Result C DomFault) (all : List C → List B → Result (List C) DomFault) → TakesOne one all → (view : A → B) (xs : List A) (i : ℕ) (x : A) (done : List C) (whole : Result (List C) DomFault) (fault : DomFault)
    → whole ≡ all done (map view (drop i xs)) → i < length xs → x ≡ get_or xs i x → Fails fault (one done (view x)) → Fails fault whole
fails_at one all takes view xs i x done whole NoMemory so_far inside is fails = tt
fails_at one all takes view xs i x done whole BadToml so_far inside is fails = fails
fails_at one all takes view xs i x done whole (Bad name index key cause) so_far inside is fails = at_element one all takes view xs i x done whole (Err (Bad name index key cause)) so_far inside is fails

-- a fault that a function passes on
pub passes_on : {T B : Type 0} (view : T → B) (r : Result T DomFault) (fault : DomFault) (whole : Result B DomFault) → IsErr r → IsErrAnd r (λ e. e ≡ fault) → Fails fault whole → GivesBy view r whole
passes_on view (Ok v) fault whole stops same fails = absurd (false≢true stops)
passes_on view (Err e) fault whole stops same fails = subst (λ f. Fails f whole) (sym same) fails
