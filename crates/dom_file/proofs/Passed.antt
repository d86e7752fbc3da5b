-- What is known where a check passed: one value, a list of values, and sets of cores.
use Rattle.std.proofs.Common.{◌≡◌, ◌≢◌, ℕ, zero, suc, ◌+◌, ◌/◌, ◌^◌, ◌≤◌, ◌<◌, ℤ, pos, negsuc, Bool, true, false, cond, ◌&&◌, leb, List, [], ◌∷◌, ◌++◌, length, Option, Some, None, Result, Ok, Err, bit_or, refl, sym, ap, subst, ◌∙◌, inl, inr, arith}
use Rattle.std.specs.Prelude.{◌⊎◌, count_ones, slice_get}
use Rattle.std.specs.List.{AllByRecursion, list_any}
use Rattle.std.specs.Int.{bit_at}
use Rattle.std.specs.Int.Count.{ones, ones_in}
use Rattle.std.specs.Str.{bytes_eq}
use Rattle.std.proofs.Math.Pow.{pow-lt}
use Rattle.std.proofs.lemmas.Bool.{and_parts, cases_eq, leb-true, eqb-true, eq-eqb, false≢true, or_parts}
use Rattle.std.proofs.lemmas.Nat.{le_or_l, or_lt}
use Rattle.std.proofs.lemmas.Nat.Bits.{bit_at_or, bit_at-pow_other, bit_at-zero, bit_at-suc, bit_at_lowest}
use Rattle.std.proofs.lemmas.Slice.Eq.{bytes_eq-Decides}
use Rattle.sched_base.specs.Names.{is_valid_name}
use Rattle.sched_model.specs.CheckedMachine.{IsWithin}
use Rattle.sched_model.specs.State.{has_core_bit}
use Rattle.toml.specs.Data.{Data, Members, get_member, as_integer}
use Rattle.dom_file.specs.declared.fault.TableName.{TableName}
use Rattle.dom_file.specs.declared.fault.DomCause.{DomCause}
use Rattle.dom_file.specs.declared.fault.DomCause.TheVariants.{Range, Kind}
use Rattle.dom_file.specs.Steps.{◌>>=◌, at, each}
use Rattle.dom_file.specs.Values.{of_kind, number_within, number_of, number_or_default, elements_of, array_of, text_of, name_of}
use Rattle.dom_file.specs.Cores.{with_cores}

-- ---- steps

-- the value of a step that passed, and what came after it
pub bind_ok : {A B E : Type 0} (r : Result A E) (f : A → Result B E) (y : B) → (r >>= f) ≡ Ok y → (x : A) × (r ≡ Ok x) × (f x ≡ Ok y)
bind_ok (Ok x) f y e = (x, refl, e)
bind_ok (Err d) f y e = absurd cc

pub at_ok : {A : Type 0} (t : TableName) (i : ℕ) (k : List ℕ) (r : Result A DomCause) (x : A) → at t i k r ≡ Ok x → r ≡ Ok x
at_ok t i k (Ok y) x e = cc
at_ok t i k (Err c) x e = absurd cc

-- a test that passed, and one that had to fail
pub kept : {A E : Type 0} (b : Bool) (x y : A) (e : E) → cond b (Ok x) (Err e) ≡ Ok y → (b ≡ true) × (x ≡ y)
kept true x y e h = (refl, cc)
kept false x y e h = absurd cc

pub kept_not : {A E : Type 0} (b : Bool) (x y : A) (e : E) → cond b (Err e) (Ok x) ≡ Ok y → (b ≡ false) × (x ≡ y)
kept_not true x y e h = absurd cc
kept_not false x y e h = (refl, cc)

abbrev okay : {A : Type 0} (E : Type 0) → A → Result A E
okay E x = Ok x

pub ok_is : {A : Type 0} (E : Type 0) (x y : A) → okay E x ≡ okay E y → x ≡ y
ok_is E x y e = cc

-- a value that stands where a key is absent
abbrev pub absent_or : {A E : Type 0} → Option Data → A → (Data → Result A E) → Result A E
absent_or o default check = elim o [ None ↦ Ok default | Some d ↦ check d ]

pub absent_or_ok : {A E : Type 0} (P : A → Type 0) (o : Option Data) (default : A) (check : Data → Result A E) (x : A) → P default → ((d : Data) → check d ≡ Ok x → P x) → absent_or o default check ≡ Ok x → P x
absent_or_ok {A} {E} P None default check x absent present e = subst P (ok_is E default x e) absent
absent_or_ok P (Some d) default check x absent present e = present d e

-- ---- numbers

within_ok : (low high : ℕ) (z : ℤ) (n : ℕ) → number_within low high z ≡ Ok n → IsWithin low high n
within_ok low high (pos m) n e =
    let k = kept (leb low m && leb m high) m n (Range (pos m)) e in
    let both = and_parts (leb low m) (leb m high) k.0 in
    record { least = omega (arith, leb-true low m both.0, k.1); most = omega (arith, leb-true m high both.1, k.1) }
within_ok low high (negsuc m) n e = absurd cc

pub number_ok : (low high : ℕ) (d : Data) (n : ℕ) → number_of low high d ≡ Ok n → IsWithin low high n
number_ok low high d n e = let s = bind_ok (of_kind (as_integer d)) (number_within low high) n e in within_ok low high s.0 n s.2

pub number_or_ok : (key : List ℕ) (default low high : ℕ) (table : Members) (n : ℕ) → IsWithin low high default → number_or_default key default low high table ≡ Ok n → IsWithin low high n
number_or_ok key default low high table n inside e = absent_or_ok (IsWithin low high) (get_member key table) default (number_of low high) n inside (λ d. number_ok low high d n) e

pub name_ok : (d : Data) (name : List ℕ) → name_of d ≡ Ok name → is_valid_name name ≡ true
name_ok d name e =
    let s = bind_ok (text_of d) (λ text. cond (is_valid_name text) (Ok text) (Err Kind)) name e in
    let k = kept (is_valid_name s.0) s.0 name Kind s.2 in
    subst (λ n. is_valid_name n ≡ true) k.1 k.0

-- an array with a count in range
pub array_ok : (low high : ℕ) (d : Data) (ds : List Data) → array_of low high d ≡ Ok ds → IsWithin low high (length ds)
array_ok low high d ds e =
    let s = bind_ok (elements_of d) (λ ds. cond (leb low (length ds) && leb (length ds) high) (Ok ds) (Err (Range (pos (length ds))))) ds e in
    let k = kept (leb low (length s.0) && leb (length s.0) high) s.0 ds (Range (pos (length s.0))) s.2 in
    let both = and_parts (leb low (length s.0)) (leb (length s.0) high) k.0 in
    subst (λ (xs : List Data). IsWithin low high (length xs)) k.1 (record { least = leb-true low (length s.0) both.0; most = leb-true (length s.0) high both.1 })

-- ---- lists

-- two lists whose elements stand in the relation one by one
abbrev pub Pairs : {A B : Type 0} → (A → B → Type 0) → List A → List B → Type 0
Pairs R [] [] = Unit {0}
Pairs R (x ∷ xs) (y ∷ ys) = R x y × Pairs R xs ys
Pairs R xs ys = ⊥

pub each_ok : {A B E : Type 0} (check : A → Result B E) (R : A → B → Type 0) → ((x : A) (y : B) → check x ≡ Ok y → R x y) → (xs : List A) (ys : List B) → each check xs ≡ Ok ys → Pairs R xs ys
each_ok {A} {B} {E} check R passed [] ys e = subst (Pairs R []) (ok_is E [] ys e) tt
each_ok {A} {B} {E} check R passed (x ∷ xs) ys e =
    let first = bind_ok (check x) (λ y. each check xs >>= λ ys. Ok (y ∷ ys)) ys e in
    let rest = bind_ok (each check xs) (λ ys. Ok (first.0 ∷ ys)) ys first.2 in
    subst (Pairs R (x ∷ xs)) (ok_is E (first.0 ∷ rest.0) ys rest.2) (passed x first.0 first.1, each_ok check R passed xs rest.0 rest.1)

pub length-Pairs : {A B : Type 0} (R : A → B → Type 0) (xs : List A) (ys : List B) → Pairs R xs ys → length ys ≡ length xs
length-Pairs R [] [] h = refl
length-Pairs R [] (y ∷ ys) h = absurd h
length-Pairs R (x ∷ xs) [] h = absurd h
length-Pairs R (x ∷ xs) (y ∷ ys) h = ap suc (length-Pairs R xs ys h.1)

pub all-Pairs : {A B : Type 0} (R : A → B → Type 0) (P : B → Type 0) → ((x : A) (y : B) → R x y → P y) → (xs : List A) (ys : List B) → Pairs R xs ys → AllByRecursion P ys
all-Pairs R P gives [] [] h = tt
all-Pairs R P gives [] (y ∷ ys) h = absurd h
all-Pairs R P gives (x ∷ xs) [] h = absurd h
all-Pairs R P gives (x ∷ xs) (y ∷ ys) h = (gives x y h.0, all-Pairs R P gives xs ys h.1)

pub get-Pairs : {A B : Type 0} (R : A → B → Type 0) (xs : List A) (ys : List B) (i : ℕ) (y : B) → Pairs R xs ys → slice_get ys i ≡ Some y → (x : A) × (slice_get xs i ≡ Some x) × R x y
get-Pairs R [] [] i y h e = absurd cc
get-Pairs R [] (z ∷ ys) i y h e = absurd h
get-Pairs R (x ∷ xs) [] i y h e = absurd h
get-Pairs R (x ∷ xs) (z ∷ ys) zero y h e = let same : z ≡ y = cc in (x, refl, subst (R x) same h.0)
get-Pairs R (x ∷ xs) (z ∷ ys) (suc i) y h e = get-Pairs R xs ys i y h.1 e

pub length-push : {A : Type 0} (xs : List A) (y : A) → length (xs ++ y ∷ []) ≡ length xs + 1
length-push [] y = refl
length-push (x ∷ xs) y = omega (arith, length-push xs y)

-- an element of a list that grew by one
pub get-push : {A : Type 0} (xs : List A) (y : A) (i : ℕ) (x : A) → slice_get (xs ++ y ∷ []) i ≡ Some x → (slice_get xs i ≡ Some x) ⊎ ((i ≡ length xs) × (y ≡ x))
get-push [] y zero x e = inr (refl, cc)
get-push [] y (suc i) x e = absurd cc
get-push (z ∷ xs) y zero x e = inl e
get-push (z ∷ xs) y (suc i) x e = elim (get-push xs y i x e) [ inl h ↦ inl h | inr h ↦ inr (ap suc h.0, h.1) ]

pub none_passes : {A : Type 0} (test : A → Bool) (xs : List A) (i : ℕ) (x : A) → list_any test xs ≡ false → slice_get xs i ≡ Some x → test x ≡ false
none_passes test [] i x none e = absurd cc
none_passes test (y ∷ xs) zero x none e = let same : y ≡ x = cc in subst (λ z. test z ≡ false) same (or_parts (test y) (list_any test xs) none).0
none_passes test (y ∷ xs) (suc i) x none e = none_passes test xs i x (or_parts (test y) (list_any test xs) none).1 e

-- elements in the relation stand at one place
abbrev pub Apart : {A : Type 0} → (A → A → Type 0) → List A → Type 0
Apart {A} R xs = (i j : ℕ) (p q : A) → slice_get xs i ≡ Some p → slice_get xs j ≡ Some q → R p q → i ≡ j

pub apart-push : {A : Type 0} (R : A → A → Type 0) (xs : List A) (y : A) → Apart R xs → ((i : ℕ) (p : A) → slice_get xs i ≡ Some p → R p y → ⊥) → ((i : ℕ) (p : A) → slice_get xs i ≡ Some p → R y p → ⊥) → Apart R (xs ++ y ∷ [])
apart-push R xs y apart left right i j p q at_i at_j r = elim (get-push xs y i p at_i) [
  | inl in_i ↦ elim (get-push xs y j q at_j) [
    | inl in_j ↦ apart i j p q in_i in_j r
    | inr last ↦ absurd (left i p in_i (subst (R p) (sym last.1) r))
  ]
  | inr last_i ↦ elim (get-push xs y j q at_j) [
    | inl in_j ↦ absurd (right j q in_j (subst (λ z. R z q) (sym last_i.1) r))
    | inr last ↦ last_i.0 ∙ sym last.0
  ]
]

pub other_name : (a b : List ℕ) → bytes_eq a b ≡ false → a ≡ b → ⊥
other_name a b other same = false≢true (sym other ∙ (bytes_eq-Decides a b).1 same)

-- ---- sets of cores

core_of_or_at : (set core r : ℕ) → r ≢ core → has_core_bit (bit_or set (2 ^ core)) r ≡ true → has_core_bit set r ≡ true
core_of_or_at set core r other has =
    let both : bit_at (bit_or set (2 ^ core)) r ≡ 1 = eqb-true _ _ has in
    eq-eqb (bit_at set r) 1 (omega (arith, both, bit_at_or set (2 ^ core) r, bit_at-pow_other core r other))

core_of_or : (set core r : ℕ) → has_core_bit (bit_or set (2 ^ core)) r ≡ true → (has_core_bit set r ≡ true) ⊎ (r ≡ core)
core_of_or set core r has = elim (cases_eq r core) [
  | inl same ↦ inr same
  | inr other ↦ inl (core_of_or_at set core r other has)
]

-- a set made of cores that are below n and have P
pub with_cores_ok : (P : ℕ → Type 0) (n : ℕ) (cores : List ℕ) (set : ℕ) → AllByRecursion (λ c. (c < n) × P c) cores → set < 2 ^ n → ((r : ℕ) → has_core_bit set r ≡ true → P r)
    → (with_cores set cores < 2 ^ n) × ((r : ℕ) → has_core_bit (with_cores set cores) r ≡ true → P r)
with_cores_ok P n [] set all fits has = (fits, has)
with_cores_ok P n (core ∷ cores) set all fits has =
    with_cores_ok P n cores (bit_or set (2 ^ core)) all.1 (or_lt n set (2 ^ core) fits (pow-lt all.0.0))
    (λ r in_set. elim (core_of_or set core r in_set) [ inl before ↦ has r before | inr same ↦ subst P (sym same) all.0.1 ])

-- a set of some core is not empty
pub with_cores-le : (cores : List ℕ) (set : ℕ) → set ≤ with_cores set cores
with_cores-le [] set = omega arith
with_cores-le (core ∷ cores) set = omega (arith, with_cores-le cores (bit_or set (2 ^ core)), le_or_l set (2 ^ core))

-- an empty set has no core
pub no_core : (r : ℕ) → has_core_bit 0 r ≡ true → ⊥
no_core r has = let one : bit_at 0 r ≡ 1 = eqb-true _ _ has in absurd (omega (arith, one, bit_at-zero r))

-- ---- a set of one core

digit_counts : (d n r : ℕ) → n ≤ d → bit_at n r ≡ 1 → 1 ≤ ones_in d n
unfolding ones_in
digit_counts zero n r small is =
    let none : n ≡ 0 = omega arith in
    absurd (omega (arith, subst (λ m. bit_at m r ≡ 1) none is, bit_at-zero r))
digit_counts (suc d) n zero small is = omega (arith, bit_at_lowest n, is)
digit_counts (suc d) n (suc r) small is = omega (arith, digit_counts d (n / 2) r (omega arith) (sym (bit_at-suc n r) ∙ is))

one_digit : (d n r s : ℕ) → n ≤ d → bit_at n r ≡ 1 → bit_at n s ≡ 1 → ones_in d n ≤ 1 → r ≡ s
unfolding ones_in
one_digit zero n r s small at_r at_s few =
    let none : n ≡ 0 = omega arith in
    absurd (omega (arith, subst (λ m. bit_at m r ≡ 1) none at_r, bit_at-zero r))
one_digit (suc d) n zero zero small at_r at_s few = refl
one_digit (suc d) n zero (suc s) small at_r at_s few =
    absurd (omega (arith, bit_at_lowest n, at_r, few, digit_counts d (n / 2) s (omega arith) (sym (bit_at-suc n s) ∙ at_s)))
one_digit (suc d) n (suc r) zero small at_r at_s few =
    absurd (omega (arith, bit_at_lowest n, at_s, few, digit_counts d (n / 2) r (omega arith) (sym (bit_at-suc n r) ∙ at_r)))
one_digit (suc d) n (suc r) (suc s) small at_r at_s few =
    ap suc (one_digit d (n / 2) r s (omega arith) (sym (bit_at-suc n r) ∙ at_r) (sym (bit_at-suc n s) ∙ at_s) (omega arith))

pub one_core : (set r s : ℕ) → count_ones set ≤ 1 → has_core_bit set r ≡ true → has_core_bit set s ≡ true → r ≡ s
unfolding ones
one_core set r s few at_r at_s = one_digit set set r s (omega arith) (eqb-true _ _ at_r) (eqb-true _ _ at_s) few
