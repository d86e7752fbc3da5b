-- What the getters of the matches read, by the rows.
use Rattle.std.proofs.Common.{◌≡◌, ◌∙◌, ◌<◌, ◌^◌, ◌&&◌, ℕ, Bool, true, false, cond, refl, sym, ap, arith, List, [], ◌∷◌, length, Option, Some, None, Result, Ok, Err, nat_lt, nat_le, lt-ltb, ltb-true, codes}
use Rattle.std.specs.List.{list_all}
use Rattle.std.specs.Option.{option_map_or, unwrap_or}
use Rattle.std.specs.Char.{digit_value}
use Rattle.std.specs.Prelude.{option_and_then}
use Rattle.std.specs.Str.{bytes_eq}
use Rattle.std.specs.Str.Parse.{AllDigits, IsNumeral, ParsesBool, ParsesUnsigned, digits_value, without_leading_plus}
use Rattle.std.proofs.Common.{inl, inr}
use Rattle.std.proofs.lemmas.Bool.{cases_lt, lt-leb}
use Rattle.std.proofs.lemmas.Slice.Eq.{bytes_eq-Decides}
use Rattle.clap.specs.ValueTests.{is_numeral}
use Rattle.clap.specs.Words.{ReadsOne, Text, found_of, one_text, rows_of}
use Rattle.clap.specs.declared.parser.matches.ArgMatches.{ArgMatches}
use Rattle.clap.proofs.WalkLemmas.{one_text-rows}
use Rattle.command_line.specs.Entries.{has_flag, entered_number, number_of, ranged_number}

digits_from : (ds : List ℕ) → list_all (λ d. nat_lt (digit_value d) 10) ds ≡ true → AllDigits 10 ds
digits_from [] e = tt
digits_from (d ∷ ds) e = go (nat_lt (digit_value d) 10) refl e (digits_from ds)
  where
    go : (b : Bool) → nat_lt (digit_value d) 10 ≡ b → (b && list_all (λ d. nat_lt (digit_value d) 10) ds) ≡ true
        → (list_all (λ d. nat_lt (digit_value d) 10) ds ≡ true → AllDigits 10 ds) → AllDigits 10 (d ∷ ds)
    go true is rest more = (ltb-true _ _ is, more rest)
    go false is rest more = cc

digits_back : (ds : List ℕ) → AllDigits 10 ds → list_all (λ d. nat_lt (digit_value d) 10) ds ≡ true
digits_back [] h = refl
digits_back (d ∷ ds) h = rw (lt-ltb (digit_value d) 10 h.0) (digits_back ds h.1)

numeral_from : (ds : List ℕ) → is_numeral ds ≡ true → IsNumeral 10 ds
numeral_from ds e = go (nat_lt 0 (length ds)) refl e
  where
    go : (b : Bool) → nat_lt 0 (length ds) ≡ b → (b && list_all (λ d. nat_lt (digit_value d) 10) ds) ≡ true → IsNumeral 10 ds
    go true is rest = (ltb-true _ _ is, digits_from ds rest)
    go false is rest = cc

numeral_back : (ds : List ℕ) → IsNumeral 10 ds → is_numeral ds ≡ true
numeral_back ds h = rw (lt-ltb _ _ h.0) (digits_back ds h.1)

-- a number past the range is none
past : (low high n : ℕ) → high < n → ranged_number low high n ≡ None
past low high n over = go (nat_le low n)
  where
    go : (b : Bool) → cond (b && nat_le n high) (Some n) None ≡ None
    go true = rw (lt-leb _ _ over) refl
    go false = refl

read_here : (t : Text) (low high n : ℕ) → (IsNumeral 10 (without_leading_plus t) × (digits_value 10 (without_leading_plus t) < 2 ^ 32)) × (n ≡ digits_value 10 (without_leading_plus t)) → number_of low high t ≡ ranged_number low high n
read_here t low high n p =
    let is : digits_value 10 (without_leading_plus t) ≡ n = sym p.1 in
    rw (numeral_back (without_leading_plus t) p.0.0, is) refl

refused_here : (t : Text) (low high : ℕ) → high < 2 ^ 32 → (IsNumeral 10 (without_leading_plus t) × (digits_value 10 (without_leading_plus t) < 2 ^ 32) → ⊥) → number_of low high t ≡ None
refused_here t low high small p = go (is_numeral (without_leading_plus t)) refl
  where
    go : (b : Bool) → is_numeral (without_leading_plus t) ≡ b → cond b (ranged_number low high (digits_value 10 (without_leading_plus t))) None ≡ None
    go false is = refl
    go true is = elim (cases_lt (digits_value 10 (without_leading_plus t)) (2 ^ 32)) [
      | inl fits ↦ absurd (p (numeral_from _ is, fits))
      | inr over ↦ past low high _ (omega arith)
    ]

-- the number that `get_one` reads as a `u32`, and the range
pub number_reads : {E : Type 0} (gives : Text → Result ℕ E → Type 0) → ((t : Text) (x : Result ℕ E) → gives t x → ParsesUnsigned {E = E} 32 10 t x)
    → (m : ArgMatches) (id : Text) (low high : ℕ) (r : Option ℕ) → high < 2 ^ 32 → (one_text (found_of m) id ≡ None → r ≡ None)
    → ((t : Text) → one_text (found_of m) id ≡ Some t → ReadsOne gives t r) → entered_number low high id (rows_of (found_of m)) ≡ option_and_then (ranged_number low high) r
unfolding entered_number
number_reads gives only m id low high r small none value = ap (option_and_then (number_of low high)) (sym (one_text-rows (found_of m) id)) ∙ go (one_text (found_of m) id) refl r refl
  where
    go : (o : Option Text) → one_text (found_of m) id ≡ o → (s : Option ℕ) → r ≡ s → option_and_then (number_of low high) o ≡ option_and_then (ranged_number low high) s
    go None e s is = rw (sym is ∙ none e) refl
    go (Some t) e (Some n) is = read_here t low high n (only t (Ok n) (rw is at (value t e)))
    go (Some t) e None is = let error = rw is at (value t e) in refused_here t low high small (only t (Err error.0) error.1)

-- the flag that `get_one` reads as a `bool`
pub flag_reads : (E : Type 0) (m : ArgMatches) (id : Text) (r : Option Bool) → (one_text (found_of m) id ≡ None → r ≡ None)
    → ((t : Text) → one_text (found_of m) id ≡ Some t → ReadsOne (ParsesBool {E = E}) t r) → unwrap_or r false ≡ has_flag id (rows_of (found_of m))
unfolding has_flag
flag_reads E m id r none value = go (one_text (found_of m) id) refl r refl ∙ ap (λ o. option_map_or (λ text. bytes_eq text (codes "true")) o false) (one_text-rows (found_of m) id)
  where
    other : (t : Text) (b : Bool) → bytes_eq t (codes "true") ≡ b → (t ≡ codes "true" → ⊥) → false ≡ b
    other t true is differs = absurd (differs ((bytes_eq-Decides t (codes "true")).0 is))
    other t false is differs = refl

    at_text : (t : Text) (s : Option Bool) → ReadsOne (ParsesBool {E = E}) t s → unwrap_or s false ≡ bytes_eq t (codes "true")
    at_text t (Some true) p = sym ((bytes_eq-Decides t (codes "true")).1 p)
    at_text t (Some false) p = rw p refl
    at_text t None p = other t (bytes_eq t (codes "true")) refl p.1.0

    go : (o : Option Text) → one_text (found_of m) id ≡ o → (s : Option Bool) → r ≡ s → unwrap_or s false ≡ option_map_or (λ text. bytes_eq text (codes "true")) o false
    go None e s is = rw (sym is ∙ none e) refl
    go (Some t) e s is = at_text t s (rw is at (value t e))
