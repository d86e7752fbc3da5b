-- Which texts are of a form, and that reading a text by its form finds exactly those.
use Rattle.std.proofs.Common.{◌≡◌, ◌≢◌, ◌+◌, ◌-◌, ◌*◌, ◌/◌, ◌%◌, ◌^◌, ◌<◌, ◌≤◌, ◌⊎◌, inl, inr, ℕ, suc, Bool, true, false, not, ◌&&◌, cond, List, [], ◌∷◌, ◌++◌, length, arith, refl, sym, ap, ◌∙◌, append_assoc, subst}
use Rattle.std.specs.Prelude.{Result, Ok, Err, ⊤, nat_le, ◌==◌, decimal, min}
use Rattle.std.proofs.lemmas.Fmt.{decimal_digit, decimal_step}
use Rattle.std.proofs.lemmas.Bool.Decides.{nat_tests}
use Rattle.std.proofs.lemmas.Bool.{eqb-true}
use Rattle.sched_base.proofs.Bools.{and_left, and_right}
use Rattle.sched_model.specs.declared.event.Entry.{Entry}
use Rattle.sched_print.specs.Readers.{Form, Done, Word, Number, Either, read, word_at, better_reading, goes_on, digits_at, number_at, ◌>>=◌}
use Rattle.sched_print.proofs.Numbers.{is_plain}
use Rattle.std.specs.Char.{is_ascii_digit}

-- t is a text of the form, and stands for e
abbrev pub Spells : Form → List ℕ → Entry → Type 0
Spells (Done e) t y = (t ≡ []) × (y ≡ e)
Spells (Word w f) t y = (rest : List ℕ) × (t ≡ w ++ rest) × Spells f rest y
Spells (Number low high f) t y = (n : ℕ) × (low ≤ n) × (n < high) × (rest : List ℕ) × (t ≡ decimal n ++ rest) × Spells (f n) rest y
Spells (Either f g) t y = Spells f t y ⊎ Spells g t y

-- front begins a text of the form
abbrev pub Begins : Form → List ℕ → Type 0
Begins f front = (rest : List ℕ) × (y : Entry) × Spells f (front ++ rest) y

-- no text of the form begins with a digit
abbrev pub starts_plain : Form → Bool
starts_plain (Done e) = true
starts_plain (Word [] f) = false
starts_plain (Word (c ∷ w) f) = not (is_ascii_digit c)
starts_plain (Number low high f) = false
starts_plain (Either f g) = starts_plain f && starts_plain g

-- no digit stands behind a number, and there is a number in each range
abbrev pub IsFormed : Form → Type 0
IsFormed (Done e) = ⊤
IsFormed (Word w f) = IsFormed f
IsFormed (Number low high f) = (low ≤ 1) × (low < high) × (high ≤ 2 ^ 64) × ((n : ℕ) → (starts_plain (f n) ≡ true) × IsFormed (f n))
IsFormed (Either f g) = IsFormed f × IsFormed g

-- each form has a text
inhabited : (f : Form) → IsFormed f → (t : List ℕ) × (y : Entry) × Spells f t y
inhabited (Done e) h = ([], e, (refl, refl))
inhabited (Word w f) h = let i = inhabited f h in (w ++ i.0, i.1, (i.0, refl, i.2))
inhabited (Number low high f) h =
    let i = inhabited (f low) (h.3 low).1 in
    (decimal low ++ i.0, i.1, (low, (omega arith), h.1, i.0, refl, i.2))
inhabited (Either f g) h = let i = inhabited f h.0 in (i.0, i.1, inl i.2)

begins_empty : (f : Form) → IsFormed f → Begins f []
begins_empty f h = let i = inhabited f h in (i.0, i.1, i.2)

pub plain_start : (f : Form) (t : List ℕ) (y : Entry) → starts_plain f ≡ true → Spells f t y → is_plain t ≡ true
plain_start (Done e) t y h s = rw s.0 refl
plain_start (Word [] f) t y h s = absurd cc
plain_start (Word (c ∷ w) f) t y h s = rw s.1 h
plain_start (Number low high f) t y h s = absurd cc
plain_start (Either f g) t y h (inl s) = plain_start f t y (and_left (starts_plain f) (starts_plain g) h) s
plain_start (Either f g) t y h (inr s) = plain_start g t y (and_right (starts_plain f) (starts_plain g) h) s

-- the bytes up to where reading stopped begin a text of the form
abbrev pub Reached : Form → List ℕ → ℕ → Type 0
Reached f bytes left = (front : List ℕ) × (rest : List ℕ) × (bytes ≡ front ++ rest) × (length rest ≡ left) × Begins f front

reached_none : (f : Form) (bytes : List ℕ) (left : ℕ) → IsFormed f → length bytes ≡ left → Reached f bytes left
reached_none f bytes left h e = ([], bytes, refl, e, begins_empty f h)

abbrev pub ReachedAll : Form → Type 0
ReachedAll f = (bytes : List ℕ) (left : ℕ) → IsFormed f → read f bytes ≡ Err left → Reached f bytes left

reached_empty_word : (f : Form) (bytes : List ℕ) (left : ℕ) → Reached f bytes left → Reached (Word [] f) bytes left
reached_empty_word f bytes left x = (x.0, x.1, x.2, x.3, (x.4.0, x.4.1, (x.0 ++ x.4.0, refl, x.4.2)))

reached_longer_word : (f : Form) (b c : ℕ) (w bytes : List ℕ) (left : ℕ) → b ≡ c → Reached (Word w f) bytes left → Reached (Word (c ∷ w) f) (b ∷ bytes) left
reached_longer_word f b c w bytes left e x =
    (b ∷ x.0, x.1, ap (λ rest. b ∷ rest) x.2, x.3, (x.4.0, x.4.1, (x.4.2.0, (let same : x.0 ++ x.4.0 ≡ w ++ x.4.2.0 = x.4.2.1 in cc), x.4.2.2)))

reached_byte : (f : Form) (b c : ℕ) (w bytes : List ℕ) (left : ℕ) (test : Bool) → IsFormed f → (b == c) ≡ test
    → ((word_at w bytes >>= read f) ≡ Err left → Reached (Word w f) bytes left)
    → (cond test (word_at w bytes) (Err (length (b ∷ bytes))) >>= read f) ≡ Err left → Reached (Word (c ∷ w) f) (b ∷ bytes) left
reached_byte f b c w bytes left true h e go r = reached_longer_word f b c w bytes left (eqb-true b c e) (go r)
reached_byte f b c w bytes left false h e go r = reached_none (Word (c ∷ w) f) (b ∷ bytes) left h cc

reached_word : (f : Form) → ReachedAll f → (w bytes : List ℕ) (left : ℕ) → IsFormed f → (word_at w bytes >>= read f) ≡ Err left → Reached (Word w f) bytes left
unfolding word_at
reached_word f ih [] bytes left h r = reached_empty_word f bytes left (ih bytes left h r)
reached_word f ih (c ∷ w) [] left h r = reached_none (Word (c ∷ w) f) [] left h cc
reached_word f ih (c ∷ w) (b ∷ bytes) left h r =
    reached_byte f b c w bytes left (b == c) h refl (λ q. reached_word f ih w bytes left h q) r

abbrev DigitsSound : ℕ → ℕ → List ℕ → ℕ × List ℕ → Type 0
DigitsSound high n bytes found = (found.0 < high) × (n ≤ found.0) × (decimal n ++ bytes ≡ decimal found.0 ++ found.1)

digit_of : (high n b : ℕ) → goes_on high n b ≡ true → (48 ≤ b) × (b ≤ 57) × (10 * n + (b - 48) < high)
digit_of high n b h = grind (arith, nat_tests)

decimal_more : (high n b : ℕ) (bytes : List ℕ) → 1 ≤ n → high ≤ 2 ^ 64 → goes_on high n b ≡ true → decimal n ++ (b ∷ bytes) ≡ decimal (10 * n + (b - 48)) ++ bytes
decimal_more high n b bytes some wide h =
    let d = digit_of high n b h in
    let m = 10 * n + (b - 48) in
    let q : m / 10 ≡ n = omega (arith, d.0, d.1) in
    let r : 48 + m % 10 ≡ b = omega (arith, d.0, d.1) in
    let step : decimal m ≡ decimal (m / 10) ++ ((48 + m % 10) ∷ []) = decimal_step m (omega (arith, d.0, d.1)) (omega (arith, d.2)) in
    let whole : decimal m ≡ decimal n ++ (b ∷ []) = step ∙ ap (λ k. decimal k ++ ((48 + m % 10) ∷ [])) q ∙ ap (λ c. decimal n ++ (c ∷ [])) r in
    sym (ap (λ ds. ds ++ bytes) whole ∙ append_assoc (decimal n) (b ∷ []) bytes)

digits_longer : (high n b : ℕ) (bytes : List ℕ) (found : ℕ × List ℕ) → 1 ≤ n → high ≤ 2 ^ 64 → goes_on high n b ≡ true
    → DigitsSound high (10 * n + (b - 48)) bytes found → DigitsSound high n (b ∷ bytes) found
digits_longer high n b bytes found some wide e x = (x.0, omega (arith, x.1), decimal_more high n b bytes some wide e ∙ x.2)

digits_sound_by : (high n b : ℕ) (bytes : List ℕ) (test : Bool) → 1 ≤ n → n < high → high ≤ 2 ^ 64 → goes_on high n b ≡ test
    → (1 ≤ 10 * n + (b - 48) → 10 * n + (b - 48) < high → DigitsSound high (10 * n + (b - 48)) bytes (digits_at high (10 * n + (b - 48)) bytes))
    → DigitsSound high n (b ∷ bytes) (cond test (digits_at high (10 * n + (b - 48)) bytes) (n, b ∷ bytes))
digits_sound_by high n b bytes true some below wide e more =
    digits_longer high n b bytes (digits_at high (10 * n + (b - 48)) bytes) some wide e (more (omega arith) (digit_of high n b e).2)
digits_sound_by high n b bytes false some below wide e more = (below, omega arith, refl)

digits_sound : (high n : ℕ) (bytes : List ℕ) → 1 ≤ n → n < high → high ≤ 2 ^ 64 → DigitsSound high n bytes (digits_at high n bytes)
unfolding digits_at
digits_sound high n [] some below wide = (below, omega arith, refl)
digits_sound high n (b ∷ bytes) some below wide =
    digits_sound_by high n b bytes (goes_on high n b) some below wide refl (λ p q. digits_sound high (10 * n + (b - 48)) bytes p q wide)

-- reading a number takes bytes from the front
digits_shrinks_by : (high n b : ℕ) (bytes : List ℕ) (test : Bool) → length (digits_at high (10 * n + (b - 48)) bytes).1 ≤ length bytes
    → length (cond test (digits_at high (10 * n + (b - 48)) bytes) (n, b ∷ bytes)).1 ≤ suc (length bytes)
digits_shrinks_by high n b bytes true h = omega arith
digits_shrinks_by high n b bytes false h = omega arith

pub digits_shrinks : (high n : ℕ) (bytes : List ℕ) → length (digits_at high n bytes).1 ≤ length bytes
unfolding digits_at
digits_shrinks high n [] = omega arith
digits_shrinks high n (b ∷ bytes) = digits_shrinks_by high n b bytes (goes_on high n b) (digits_shrinks high (10 * n + (b - 48)) bytes)

-- what number_at finds
abbrev pub NumberGives : ℕ → ℕ → List ℕ → Result (ℕ × List ℕ) ℕ → Type 0
NumberGives low high bytes (Ok found) = (low ≤ found.0) × (found.0 < high) × (bytes ≡ decimal found.0 ++ found.1)
NumberGives low high bytes (Err left) = length bytes ≡ left

first_digit : (high b : ℕ) (bytes : List ℕ) → (b == 48) ≡ false → goes_on high 0 b ≡ true → high ≤ 2 ^ 64 → (1 ≤ b - 48) × (b - 48 < high) × (b ∷ bytes ≡ decimal (b - 48) ++ bytes)
first_digit high b bytes e g wide =
    let d = digit_of high 0 b g in
    let some : b ≢ 48 = grind (arith, nat_tests) in
    let small : b - 48 < 10 = omega (arith, d.0, d.1) in
    let same : 48 + (b - 48) ≡ b = omega (arith, d.0) in
    (omega (arith, d.0, some), omega (arith, d.2), sym (ap (λ ds. ds ++ bytes) (decimal_digit (b - 48) small) ∙ ap (λ c. c ∷ bytes) same))

number_digits : (low high b : ℕ) (bytes : List ℕ) (test : Bool) → low ≤ 1 → low < high → high ≤ 2 ^ 64 → (b == 48) ≡ false → goes_on high 0 b ≡ test
    → NumberGives low high (b ∷ bytes) (cond test (Ok (digits_at high (b - 48) bytes)) (Err (length (b ∷ bytes))))
number_digits low high b bytes true l some wide e g =
    let d = first_digit high b bytes e g wide in
    let x = digits_sound high (b - 48) bytes d.0 d.1 wide in
    (omega (arith, l, d.0, x.1), x.0, d.2 ∙ x.2)
number_digits low high b bytes false l some wide e g = refl

number_zero : (low high : ℕ) (bytes : List ℕ) (test : Bool) → low < high → (low == 0) ≡ test
    → NumberGives low high (48 ∷ bytes) (cond test (Ok (0, bytes)) (Err (length (48 ∷ bytes))))
number_zero low high bytes true some e =
    let z : low ≡ 0 = eqb-true low 0 e in
    (omega arith, omega arith, sym (ap (λ ds. ds ++ bytes) (decimal_digit 0 (omega arith))))
number_zero low high bytes false some e = refl

number_first : (low high b : ℕ) (bytes : List ℕ) (test : Bool) → low ≤ 1 → low < high → high ≤ 2 ^ 64 → (b == 48) ≡ test
    → NumberGives low high (b ∷ bytes) (cond test (cond (low == 0) (Ok (0, bytes)) (Err (length (b ∷ bytes)))) (cond (goes_on high 0 b) (Ok (digits_at high (b - 48) bytes)) (Err (length (b ∷ bytes)))))
number_first low high b bytes true l some wide e =
    let z : 48 ≡ b = sym (eqb-true b 48 e) in
    let P : ℕ → Type 0 = λ c. NumberGives low high (c ∷ bytes) (cond (low == 0) (Ok (0, bytes)) (Err (length (c ∷ bytes)))) in
    subst P z (number_zero low high bytes (low == 0) some refl)
number_first low high b bytes false l some wide e = number_digits low high b bytes (goes_on high 0 b) l some wide e refl

pub number_gives : (low high : ℕ) (bytes : List ℕ) → low ≤ 1 → low < high → high ≤ 2 ^ 64 → NumberGives low high bytes (number_at low high bytes)
unfolding number_at
number_gives low high [] l some wide = refl
number_gives low high (b ∷ bytes) l some wide = number_first low high b bytes (b == 48) l some wide refl

reached_number : (low high : ℕ) (f : ℕ → Form) → ((n : ℕ) → ReachedAll (f n)) → (bytes : List ℕ) (left : ℕ) → IsFormed (Number low high f)
    → (found : Result (ℕ × List ℕ) ℕ) → NumberGives low high bytes found → (found >>= λ x. read (f x.0) x.1) ≡ Err left → Reached (Number low high f) bytes left
reached_number low high f ih bytes left h (Ok found) g r =
    let x = ih found.0 found.1 left (h.3 found.0).1 r in (
      decimal found.0 ++ x.0,
      x.1,
      g.2 ∙ ap (λ rest. decimal found.0 ++ rest) x.2 ∙ sym (append_assoc (decimal found.0) x.0 x.1),
      x.3,
      (x.4.0, x.4.1, (found.0, g.0, g.1, x.0 ++ x.4.0, append_assoc (decimal found.0) x.0 x.4.0, x.4.2)),
    )
reached_number low high f ih bytes left h (Err n) g r = reached_none (Number low high f) bytes left h (g ∙ cc)

reached_either : (f g : Form) (bytes : List ℕ) (left : ℕ) → ReachedAll f → ReachedAll g → IsFormed f → IsFormed g → (a b : Result Entry ℕ) → read f bytes ≡ a → read g bytes ≡ b → better_reading a b ≡ Err left → Reached (Either f g) bytes left
reached_either f g bytes left ihf ihg hf hg (Ok e) b p q r = absurd cc
reached_either f g bytes left ihf ihg hf hg (Err m) (Ok e) p q r = absurd cc
reached_either f g bytes left ihf ihg hf hg (Err m) (Err n) p q r =
    let smaller : min m n ≡ left = cc in
    first_of_two (nat_le m n) refl smaller
  where
    from_left : m ≡ left → Reached (Either f g) bytes left
    from_left e = let x = ihf bytes left hf (p ∙ ap Err e) in (x.0, x.1, x.2, x.3, (x.4.0, x.4.1, inl x.4.2))

    from_right : n ≡ left → Reached (Either f g) bytes left
    from_right e = let x = ihg bytes left hg (q ∙ ap Err e) in (x.0, x.1, x.2, x.3, (x.4.0, x.4.1, inr x.4.2))

    first_of_two : (test : Bool) → nat_le m n ≡ test → min m n ≡ left → Reached (Either f g) bytes left
    first_of_two true t e = from_left (grind (arith, nat_tests))
    first_of_two false t e = from_right (grind (arith, nat_tests))

pub reached : (f : Form) → ReachedAll f
reached (Done e) [] left h r = absurd cc
reached (Done e) (b ∷ bytes) left h r = reached_none (Done e) (b ∷ bytes) left h cc
reached (Word w f) bytes left h r = reached_word f (λ bs l q s. reached f bs l q s) w bytes left h r
reached (Number low high f) bytes left h r =
    reached_number low high f (λ n bs l q s. reached (f n) bs l q s) bytes left h (number_at low high bytes) (number_gives low high bytes h.0 h.1 h.2) r
reached (Either f g) bytes left h r =
    reached_either f g bytes left (λ bs l q s. reached f bs l q s) (λ bs l q s. reached g bs l q s) h.0 h.1 (read f bytes) (read g bytes) refl refl r
