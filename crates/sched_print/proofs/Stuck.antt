-- What is read is a text of the form, and reading stops behind the longest beginning of a text of the form.
use Rattle.std.proofs.Common.{◌≡◌, ◌+◌, ◌/◌, ◌%◌, ◌^◌, ◌<◌, ◌≤◌, ◌⊎◌, inl, inr, ℕ, zero, suc, Bool, true, false, cond, List, [], ◌∷◌, ◌++◌, length, arith, refl, sym, ap, ◌∙◌, append_assoc, append-nil, length-append, subst}
use Rattle.std.specs.Prelude.{Result, Ok, Err, ◌==◌, decimal, min}
use Rattle.std.proofs.lemmas.Fmt.{decimal_digit, decimal_step, decimal_by_steps}
use Rattle.std.proofs.lemmas.Bool.Decides.{nat_tests}
use Rattle.std.proofs.lemmas.Bool.{eqb-true}
use Rattle.sched_model.specs.declared.event.Entry.{Entry}
use Rattle.sched_print.specs.Readers.{Form, Done, Word, Number, Either, read, word_at, better_reading, digits_at, number_at, ◌>>=◌}
use Rattle.sched_print.proofs.Numbers.{is_plain, Fits, number_at-plain, number_at-decimal, number_at-zero}
use Rattle.sched_print.proofs.Spelling.{Spells, Begins, IsFormed, plain_start, digits_shrinks, NumberGives, number_gives, reached}

abbrev SoundAll : Form → Type 0
SoundAll f = (bytes : List ℕ) (e : Entry) → IsFormed f → read f bytes ≡ Ok e → Spells f bytes e

sound_byte : (f : Form) (b c : ℕ) (w bytes : List ℕ) (e : Entry) (test : Bool) → (b == c) ≡ test
    → ((word_at w bytes >>= read f) ≡ Ok e → Spells (Word w f) bytes e)
    → (cond test (word_at w bytes) (Err (length (b ∷ bytes))) >>= read f) ≡ Ok e → Spells (Word (c ∷ w) f) (b ∷ bytes) e
sound_byte f b c w bytes e true t go r =
    let x = go r in
    let same : b ≡ c = eqb-true b c t in
    (x.0, (let rest : bytes ≡ w ++ x.0 = x.1 in cc), x.2)
sound_byte f b c w bytes e false t go r = absurd cc

sound_word : (f : Form) → SoundAll f → (w bytes : List ℕ) (e : Entry) → IsFormed f → (word_at w bytes >>= read f) ≡ Ok e → Spells (Word w f) bytes e
unfolding word_at
sound_word f ih [] bytes e h r = (bytes, refl, ih bytes e h r)
sound_word f ih (c ∷ w) [] e h r = absurd cc
sound_word f ih (c ∷ w) (b ∷ bytes) e h r = sound_byte f b c w bytes e (b == c) refl (λ q. sound_word f ih w bytes e h q) r

sound_number : (low high : ℕ) (f : ℕ → Form) → ((n : ℕ) → SoundAll (f n)) → (bytes : List ℕ) (e : Entry) → IsFormed (Number low high f)
    → (found : Result (ℕ × List ℕ) ℕ) → NumberGives low high bytes found → (found >>= λ x. read (f x.0) x.1) ≡ Ok e → Spells (Number low high f) bytes e
sound_number low high f ih bytes e h (Ok found) g r = (found.0, g.0, g.1, found.1, g.2, ih found.0 found.1 e (h.3 found.0).1 r)
sound_number low high f ih bytes e h (Err n) g r = absurd cc

sound_either : (f g : Form) (bytes : List ℕ) (e : Entry) → SoundAll f → SoundAll g → IsFormed f → IsFormed g → (a b : Result Entry ℕ) → read f bytes ≡ a → read g bytes ≡ b → better_reading a b ≡ Ok e → Spells (Either f g) bytes e
sound_either f g bytes e ihf ihg hf hg (Ok d) b p q r = inl (ihf bytes e hf (p ∙ r))
sound_either f g bytes e ihf ihg hf hg (Err m) (Ok d) p q r = inr (ihg bytes e hg (q ∙ r))
sound_either f g bytes e ihf ihg hf hg (Err m) (Err n) p q r = absurd cc

pub sound : (f : Form) → SoundAll f
sound (Done d) [] e h r = (refl, cc)
sound (Done d) (b ∷ bytes) e h r = absurd cc
sound (Word w f) bytes e h r = sound_word f (λ bs l q s. sound f bs l q s) w bytes e h r
sound (Number low high f) bytes e h r =
    sound_number low high f (λ n bs l q s. sound (f n) bs l q s) bytes e h (number_at low high bytes) (number_gives low high bytes h.0 h.1 h.2) r
sound (Either f g) bytes e h r =
    sound_either f g bytes e (λ bs l q s. sound f bs l q s) (λ bs l q s. sound g bs l q s) h.0 h.1 (read f bytes) (read g bytes) refl refl r

-- no more bytes are left than there were
pub left_within : (f : Form) (bytes : List ℕ) (left : ℕ) → IsFormed f → read f bytes ≡ Err left → left ≤ length bytes
left_within f bytes left h r =
    let x = reached f bytes left h r in
    omega (arith, x.3, ap length x.2 ∙ length-append x.0 x.1)

-- where two lists begin one list, one begins the other
two_fronts : (p s d t : List ℕ) → p ++ s ≡ d ++ t → ((q : List ℕ) × (p ≡ d ++ q) × (t ≡ q ++ s)) ⊎ ((q : List ℕ) × (d ≡ p ++ q) × (s ≡ q ++ t))
two_fronts [] s d t e = inr (d, refl, e)
two_fronts (a ∷ p) s [] t e = inl (a ∷ p, refl, sym e)
two_fronts (a ∷ p) s (b ∷ d) t e =
    let same : a ≡ b = cc in
    elim (two_fronts p s d t cc) [ inl x ↦ inl (x.0, (let h : p ≡ d ++ x.0 = x.1 in cc), x.2) | inr x ↦ inr (x.0, (let h : d ≡ p ++ x.0 = x.1 in cc), x.2) ]

append_none : (p q : List ℕ) → p ++ q ≡ [] → p ≡ []
append_none [] q e = refl
append_none (a ∷ p) q e = absurd cc

snoc_front : (ds p : List ℕ) (x y : ℕ) (q : List ℕ) → ds ++ x ∷ [] ≡ p ++ y ∷ q → (s : List ℕ) × (ds ≡ p ++ s)
snoc_front ds [] x y q e = (ds, refl)
snoc_front [] (a ∷ p) x y q e =
    let none : p ++ y ∷ q ≡ [] = cc in
    let lengths : length p + suc (length q) ≡ 0 = sym (length-append p (y ∷ q)) ∙ ap length none in
    absurd (omega arith)
snoc_front (d ∷ ds) (a ∷ p) x y q e =
    let z = snoc_front ds p x y q cc in
    (z.0, (let h : ds ≡ p ++ z.0 = z.1 in cc))

-- the digits with which a number begins are those of a smaller number
pub record IsFrontOf (m : ℕ) (front : List ℕ) (k : ℕ) : Type 0 where
  pub text : front ≡ decimal k
  pub smaller : k ≤ m
  pub some : 1 ≤ m → 1 ≤ k

abbrev HasFronts : ℕ → List ℕ → Type 0
HasFronts n ds = n < 2 ^ 64 → (ds ≡ decimal n) × ((c : ℕ) (p q : List ℕ) → ds ≡ (c ∷ p) ++ q → (k : ℕ) × IsFrontOf n (c ∷ p) k)

fronts_one : (n : ℕ) → n < 10 → HasFronts n ((48 + n) ∷ [])
fronts_one n small wide =
    let whole : (48 + n) ∷ [] ≡ decimal n = sym (decimal_digit n small) in (
      whole,
      λ c p q e.
          let none : p ≡ [] = append_none p q cc in
          (n, record { text = (let first : 48 + n ≡ c = cc in cc); smaller = omega arith; some = λ h. h }),
    )

fronts_more_by : (n : ℕ) (ds : List ℕ) → 10 ≤ n → ds ++ ((48 + n % 10) ∷ []) ≡ decimal n
    → ((c : ℕ) (p q : List ℕ) → ds ≡ (c ∷ p) ++ q → (k : ℕ) × IsFrontOf (n / 10) (c ∷ p) k)
    → (c : ℕ) (p q : List ℕ) → ds ++ ((48 + n % 10) ∷ []) ≡ (c ∷ p) ++ q → (k : ℕ) × IsFrontOf n (c ∷ p) k
fronts_more_by n ds big whole before c p [] e =
    (n, record { text = sym (append-nil (c ∷ p)) ∙ sym e ∙ whole; smaller = omega arith; some = λ h. h })
fronts_more_by n ds big whole before c p (y ∷ q) e =
    let z = snoc_front ds (c ∷ p) (48 + n % 10) y q e in
    let x = before c p z.0 z.1 in
    (x.0, record { text = x.1.text; smaller = omega (arith, x.1.smaller); some = λ h. x.1.some (omega arith) })

fronts_more : (n : ℕ) (ds : List ℕ) → 10 ≤ n → HasFronts (n / 10) ds → HasFronts n (ds ++ ((48 + n % 10) ∷ []))
fronts_more n ds big before wide =
    let b = before (omega arith) in
    let whole : ds ++ ((48 + n % 10) ∷ []) ≡ decimal n = ap (λ d. d ++ ((48 + n % 10) ∷ [])) b.0 ∙ sym (decimal_step n big wide) in
    (whole, fronts_more_by n ds big whole b.1)

front_of_number : (n : ℕ) → n < 2 ^ 64 → (c : ℕ) (p q : List ℕ) → decimal n ≡ (c ∷ p) ++ q → (k : ℕ) × IsFrontOf n (c ∷ p) k
front_of_number n wide = (decimal_by_steps HasFronts fronts_one fronts_more n wide wide).1

-- reading goes past the digits of each number in the range
number_passes : (low high k : ℕ) (rest : List ℕ) → low ≤ 1 → low ≤ k → k < high → high ≤ 2 ^ 64
    → (n : ℕ) × (after : List ℕ) × (number_at low high (decimal k ++ rest) ≡ Ok (n, after)) × (length after ≤ length rest)
number_passes low high zero rest l least below wide =
    let z : low ≡ 0 = omega arith in
    (0, rest, rw z (number_at-zero high rest), omega arith)
number_passes low high (suc k) rest l least below wide =
    let d = digits_at high (suc k) rest in
    (d.0, d.1, number_at-decimal low high (suc k) rest l (omega arith) below (omega arith), digits_shrinks high (suc k) rest)

-- no beginning of a text of the form goes past where reading stops
abbrev pub StuckAll : Form → Type 0
StuckAll f = (bytes : List ℕ) (left : ℕ) → IsFormed f → read f bytes ≡ Err left → (front rest : List ℕ) → bytes ≡ front ++ rest → Begins f front → left ≤ length rest

stuck_at_start : (f : Form) (bytes : List ℕ) (left : ℕ) → IsFormed f → read f bytes ≡ Err left → (rest : List ℕ) → bytes ≡ rest → left ≤ length rest
stuck_at_start f bytes left h r rest e = omega (arith, left_within f bytes left h r, ap length e)

stuck_word : (f : Form) → StuckAll f → (w bytes : List ℕ) (left : ℕ) → IsFormed f → (word_at w bytes >>= read f) ≡ Err left
    → (front rest : List ℕ) → bytes ≡ front ++ rest → Begins (Word w f) front → left ≤ length rest
unfolding word_at
stuck_word f ih [] bytes left h r front rest e b =
    let P : List ℕ → Type 0 = λ t. Spells f t b.1 in
    ih bytes left h r front rest e (b.0, b.1, subst P (sym b.2.1) b.2.2)
stuck_word f ih (c ∷ w) [] left h r front rest e b = let none : 0 ≡ left = cc in omega arith
stuck_word f ih (c ∷ w) (d ∷ bytes) left h r [] rest e b = stuck_at_start (Word (c ∷ w) f) (d ∷ bytes) left h r rest e
stuck_word f ih (c ∷ w) (d ∷ bytes) left h r (a ∷ front) rest e b =
    let spelled : (a ∷ front) ++ b.0 ≡ c ∷ (w ++ b.2.0) = b.2.1 in
    let same : d ≡ c = cc in
    let test : (d == c) ≡ true = grind (arith, nat_tests) in
    let P : Bool → Type 0 = λ v. (cond v (word_at w bytes) (Err (length (d ∷ bytes))) >>= read f) ≡ Err left in
    stuck_word f ih w bytes left h (subst P test r) front rest (cc) (b.0, b.1, (b.2.0, (cc), b.2.2))

-- behind the digits of a number in the range
stuck_after : (low high k : ℕ) (f : ℕ → Form) (bytes : List ℕ) (left : ℕ) → IsFormed (Number low high f) → read (Number low high f) bytes ≡ Err left
    → low ≤ k → k < high → (rest : List ℕ) → bytes ≡ decimal k ++ rest → left ≤ length rest
stuck_after low high k f bytes left h r least below rest e =
    let x = number_passes low high k rest h.0 least below h.2 in
    let found : number_at low high bytes ≡ Ok (x.0, x.1) = ap (λ b. number_at low high b) e ∙ x.2 in
    let stopped : read (f x.0) x.1 ≡ Err left = sym (ap (λ y. y >>= λ (z : ℕ × List ℕ). read (f z.0) z.1) found) ∙ r in
    omega (arith, left_within (f x.0) x.1 left (h.3 x.0).1 stopped, x.3)

least_front : (low m k : ℕ) → low ≤ 1 → low ≤ m → (1 ≤ m → 1 ≤ k) → low ≤ k
least_front zero m k l least some = omega arith
least_front (suc low) m k l least some = let one : 1 ≤ k = some (omega arith) in omega arith

-- within the digits of a number in the range
stuck_within : (low high m : ℕ) (f : ℕ → Form) (bytes : List ℕ) (left : ℕ) → IsFormed (Number low high f) → read (Number low high f) bytes ≡ Err left
    → low ≤ m → m < high → (front rest q : List ℕ) → bytes ≡ front ++ rest → decimal m ≡ front ++ q → left ≤ length rest
stuck_within low high m f bytes left h r least below [] rest q e d = stuck_at_start (Number low high f) bytes left h r rest e
stuck_within low high m f bytes left h r least below (c ∷ front) rest q e d =
    let x = front_of_number m (omega (arith, h.2)) c front q d in
    let smaller : x.0 ≤ m = x.1.smaller in
    stuck_after low high x.0 f bytes left h r (least_front low m x.0 h.0 least x.1.some) (omega arith) rest (e ∙ ap (λ t. t ++ rest) x.1.text)

-- past the digits of a number in the range
stuck_past : (low high m : ℕ) (f : ℕ → Form) → ((n : ℕ) → StuckAll (f n)) → (bytes : List ℕ) (left : ℕ) → IsFormed (Number low high f) → read (Number low high f) bytes ≡ Err left
    → low ≤ m → m < high → (q rest s t : List ℕ) (y : Entry) → bytes ≡ decimal m ++ (q ++ rest) → t ≡ q ++ s → Spells (f m) t y → left ≤ length rest
stuck_past low high m f ih bytes left h r least below [] rest s t y e tail spells = stuck_after low high m f bytes left h r least below rest e
stuck_past low high m f ih bytes left h r least below (c ∷ q) rest s t y e tail spells =
    let form = h.3 m in
    let fits : Fits low high m = record { least = least; below = below; zero_or_one = h.0; wide = h.2 } in
    let plain_tail : is_plain t ≡ true = plain_start (f m) t y form.0 spells in
    let P : List ℕ → Type 0 = λ b. is_plain b ≡ true in
    let plain : is_plain ((c ∷ q) ++ s) ≡ true = subst P tail plain_tail in
    let found : number_at low high bytes ≡ Ok (m, (c ∷ q) ++ rest) = ap (λ b. number_at low high b) e ∙ number_at-plain low high m ((c ∷ q) ++ rest) fits plain in
    let stopped : read (f m) ((c ∷ q) ++ rest) ≡ Err left = sym (ap (λ x. x >>= λ (z : ℕ × List ℕ). read (f z.0) z.1) found) ∙ r in
    let Q : List ℕ → Type 0 = λ b. Spells (f m) b y in
    ih m ((c ∷ q) ++ rest) left form.1 stopped (c ∷ q) rest refl (s, y, subst Q tail spells)

stuck_number : (low high : ℕ) (f : ℕ → Form) → ((n : ℕ) → StuckAll (f n)) → (bytes : List ℕ) (left : ℕ) → IsFormed (Number low high f) → read (Number low high f) bytes ≡ Err left
    → (front rest : List ℕ) → bytes ≡ front ++ rest → Begins (Number low high f) front → left ≤ length rest
stuck_number low high f ih bytes left h r front rest e (s, y, (m, least, below, t, text, spells)) =
    elim (two_fronts front s (decimal m) t text) [
      | inl x ↦ stuck_past low high m f ih bytes left h r least below x.0 rest s t y (e ∙ ap (λ b. b ++ rest) x.1 ∙ append_assoc (decimal m) x.0 rest) x.2 spells
      | inr x ↦ stuck_within low high m f bytes left h r least below front rest x.0 e x.1
    ]

stuck_either : (f g : Form) (bytes : List ℕ) (left : ℕ) → StuckAll f → StuckAll g → IsFormed f → IsFormed g → (a b : Result Entry ℕ) → read f bytes ≡ a → read g bytes ≡ b → better_reading a b ≡ Err left
    → (front rest : List ℕ) → bytes ≡ front ++ rest → Begins (Either f g) front → left ≤ length rest
stuck_either f g bytes left ihf ihg hf hg (Ok d) b p q r front rest e begins = absurd cc
stuck_either f g bytes left ihf ihg hf hg (Err m) (Ok d) p q r front rest e begins = absurd cc
stuck_either f g bytes left ihf ihg hf hg (Err m) (Err n) p q r front rest e (s, y, inl spells) =
    let smaller : min m n ≡ left = cc in
    omega (arith, ihf bytes m hf p front rest e (s, y, spells))
stuck_either f g bytes left ihf ihg hf hg (Err m) (Err n) p q r front rest e (s, y, inr spells) =
    let smaller : min m n ≡ left = cc in
    omega (arith, ihg bytes n hg q front rest e (s, y, spells))

pub stuck : (f : Form) → StuckAll f
stuck (Done d) [] left h r front rest e b = absurd cc
stuck (Done d) (a ∷ bytes) left h r [] rest e b = stuck_at_start (Done d) (a ∷ bytes) left h r rest e
stuck (Done d) (a ∷ bytes) left h r (c ∷ front) rest e b = let none : (c ∷ front) ++ b.0 ≡ [] = b.2.0 in absurd cc
stuck (Word w f) bytes left h r front rest e b = stuck_word f (λ bs l q s. stuck f bs l q s) w bytes left h r front rest e b
stuck (Number low high f) bytes left h r front rest e b = stuck_number low high f (λ n bs l q s. stuck (f n) bs l q s) bytes left h r front rest e b
stuck (Either f g) bytes left h r front rest e b =
    stuck_either f g bytes left (λ bs l q s. stuck f bs l q s) (λ bs l q s. stuck g bs l q s) h.0 h.1 (read f bytes) (read g bytes) refl refl r front rest e b
