-- The digits of a number are read back as that number.
use Rattle.std.proofs.Common.{◌≡◌, ◌+◌, ◌-◌, ◌*◌, ◌/◌, ◌%◌, ◌^◌, ◌<◌, ◌≤◌, ℕ, zero, suc, Bool, true, false, not, List, [], ◌∷◌, ◌++◌, length, arith, refl, ap, ◌∙◌, append_assoc, append-nil}
use Rattle.std.specs.Prelude.{Ok, Err, ◌==◌, decimal}
use Rattle.std.specs.Char.{is_ascii_digit}
use Rattle.std.proofs.lemmas.Fmt.{decimal_digit, decimal_by_steps}
use Rattle.std.proofs.lemmas.Bool.Decides.{nat_tests}
use Rattle.sched_print.specs.Readers.{Form, Number, read, goes_on, digits_at, number_at, ◌>>=◌}

-- no digit goes on with what stands before
abbrev pub is_plain : List ℕ → Bool
is_plain [] = true
is_plain (b ∷ bytes) = not (is_ascii_digit b)

-- the number may be read with these bounds
pub record Fits (low high n : ℕ) : Type 0 where
  pub least : low ≤ n
  pub below : n < high
  pub zero_or_one : low ≤ 1
  pub wide : high ≤ 2 ^ 64

goes_on-digit : (high q d : ℕ) → d < 10 → 10 * q + d < high → goes_on high q (48 + d) ≡ true
goes_on-digit high q d small below = grind (arith, nat_tests)

digits_at-digit : (high q d : ℕ) (rest : List ℕ) → d < 10 → 10 * q + d < high → digits_at high q ((48 + d) ∷ rest) ≡ digits_at high (10 * q + d) rest
unfolding digits_at
digits_at-digit high q d rest small below =
    let e : (48 + d) - 48 ≡ d = omega arith in
    rw (goes_on-digit high q d small below, e) refl

abbrev Reads : ℕ → ℕ → ℕ → List ℕ → Type 0
Reads low high n ds = (rest : List ℕ) → low ≤ 1 → 1 ≤ n → n < high → number_at low high (ds ++ rest) ≡ Ok (digits_at high n rest)

reads_one : (low high n : ℕ) → n < 10 → Reads low high n ((48 + n) ∷ [])
unfolding number_at
reads_one low high n small rest l some below =
    let e : (48 + n) - 48 ≡ n = omega arith in
    let z : ((48 + n) == 48) ≡ false = grind (arith, nat_tests) in
    rw (z, goes_on-digit high 0 n small (omega arith), e) refl

reads_more : (low high n : ℕ) (ds : List ℕ) → 10 ≤ n → Reads low high (n / 10) ds → Reads low high n (ds ++ ((48 + n % 10) ∷ []))
reads_more low high n ds big before rest l some below =
    let e : 10 * (n / 10) + n % 10 ≡ n = omega arith in
    let step : digits_at high (n / 10) ((48 + n % 10) ∷ rest) ≡ digits_at high n rest =
    digits_at-digit high (n / 10) (n % 10) rest (omega arith) (omega arith) ∙ ap (λ m. digits_at high m rest) e in
    rw append_assoc (before ((48 + n % 10) ∷ rest) l (omega arith) (omega arith) ∙ ap Ok step)

pub number_at-decimal : (low high n : ℕ) (rest : List ℕ) → low ≤ 1 → 1 ≤ n → n < high → n < 2 ^ 64 → number_at low high (decimal n ++ rest) ≡ Ok (digits_at high n rest)
number_at-decimal low high n rest l some below wide =
    decimal_by_steps (Reads low high) (reads_one low high) (λ m ds. reads_more low high m ds) n wide rest l some below

pub number_at-zero : (high : ℕ) (rest : List ℕ) → number_at 0 high (decimal 0 ++ rest) ≡ Ok (0, rest)
unfolding number_at
number_at-zero high rest = rw (decimal_digit 0 (omega arith)) refl

pub digits_at-plain : (high n : ℕ) (rest : List ℕ) → is_plain rest ≡ true → digits_at high n rest ≡ (n, rest)
unfolding digits_at
digits_at-plain high n [] plain = refl
digits_at-plain high n (b ∷ rest) plain = grind (arith, nat_tests)

pub number_at-plain : (low high n : ℕ) (rest : List ℕ) → Fits low high n → is_plain rest ≡ true → number_at low high (decimal n ++ rest) ≡ Ok (n, rest)
number_at-plain low high zero rest fits plain =
    let z : low ≡ 0 = omega arith in
    rw z (number_at-zero high rest)
number_at-plain low high (suc n) rest fits plain =
    number_at-decimal low high (suc n) rest fits.zero_or_one (omega arith) fits.below (omega arith) ∙ ap Ok (digits_at-plain high (suc n) rest plain)

pub read_number : (low high n : ℕ) (f : ℕ → Form) (rest : List ℕ) → Fits low high n → is_plain rest ≡ true → read (Number low high f) (decimal n ++ rest) ≡ read (f n) rest
read_number low high n f rest fits plain = ap (λ r. r >>= λ (x : ℕ × List ℕ). read (f x.0) x.1) (number_at-plain low high n rest fits plain)

-- what stands behind a number in a line: nothing, or one of these bytes
pub number_at-last : (low high n : ℕ) → Fits low high n → number_at low high (decimal n) ≡ Ok (n, [])
number_at-last low high n fits = rw (← append-nil (decimal n)) (number_at-plain low high n [] fits refl)

pub number_at-space : (low high n : ℕ) (rest : List ℕ) → Fits low high n → number_at low high (decimal n ++ 32 ∷ rest) ≡ Ok (n, 32 ∷ rest)
number_at-space low high n rest fits = number_at-plain low high n (32 ∷ rest) fits refl

pub number_at-u : (low high n : ℕ) (rest : List ℕ) → Fits low high n → number_at low high (decimal n ++ 117 ∷ rest) ≡ Ok (n, 117 ∷ rest)
number_at-u low high n rest fits = number_at-plain low high n (117 ∷ rest) fits refl

pub number_at-v : (low high n : ℕ) (rest : List ℕ) → Fits low high n → number_at low high (decimal n ++ 118 ∷ rest) ≡ Ok (n, 118 ∷ rest)
number_at-v low high n rest fits = number_at-plain low high n (118 ∷ rest) fits refl

-- each kind of number fits its bounds
pub fits_number : {n : ℕ} → n < 2 ^ 63 → Fits 0 (2 ^ 63) n
fits_number h = record { least = omega arith; below = h; zero_or_one = omega arith; wide = omega arith }

pub fits_64 : {n : ℕ} → n < 64 → Fits 0 64 n
fits_64 h = record { least = omega arith; below = h; zero_or_one = omega arith; wide = omega arith }

pub fits_32 : {n : ℕ} → n < 32 → Fits 0 32 n
fits_32 h = record { least = omega arith; below = h; zero_or_one = omega arith; wide = omega arith }

pub fits_pool : {n : ℕ} → n < 16 → Fits 0 16 n
fits_pool h = record { least = omega arith; below = h; zero_or_one = omega arith; wide = omega arith }

pub fits_command : {n : ℕ} → 1 ≤ n → n < 4097 → Fits 1 4097 n
fits_command l h = record { least = l; below = h; zero_or_one = omega arith; wide = omega arith }

pub fits_below : {n : ℕ} → n < 2 ^ 63 → Fits 1 (2 ^ 63 + 1) (suc n)
fits_below h = record { least = omega arith; below = omega arith; zero_or_one = omega arith; wide = omega arith }

-- what begins as no number
pub number_at-hyphen : (low high : ℕ) (rest : List ℕ) → number_at low high (45 ∷ rest) ≡ Err (length (45 ∷ rest))
unfolding number_at
number_at-hyphen low high rest = refl

pub number_at-n : (low high : ℕ) (rest : List ℕ) → number_at low high (110 ∷ rest) ≡ Err (length (110 ∷ rest))
unfolding number_at
number_at-n low high rest = refl

pub less-one : (n : ℕ) → suc n - 1 ≡ n
less-one n = omega arith
