-- What reading the front of a line says of the line.
use Rattle.std.proofs.Common.{◌≡◌, ◌-◌, ◌^◌, ◌<◌, ◌≤◌, inl, inr, ℕ, zero, suc, List, [], ◌∷◌, ◌++◌, length, take, drop, arith, rules, refl, sym, ap, ◌∙◌, length-append, length-drop, subst}
use Rattle.std.specs.Prelude.{Ok, Err, ⊤, decimal, min}
use Rattle.std.proofs.lemmas.Fmt.{length-decimal-le}
use Rattle.std.proofs.lemmas.List.{take-append-drop, take_all, length-take, length-take-le}
use Rattle.std.proofs.lemmas.Grind.{common_steps}
use Rattle.sched_model.specs.declared.event.Entry.{Entry}
use Rattle.sched_print.specs.Line.{words}
use Rattle.sched_print.specs.Readers.{Form, Done, Word, Number, Either, read}
use Rattle.sched_print.specs.Forms.{entries}
use Rattle.sched_print.specs.Places.{IsText, BeginsText, IsPlace}
use Rattle.sched_print.proofs.Spelling.{Spells, Begins, IsFormed, reached}
use Rattle.sched_print.proofs.Stuck.{sound, stuck}
use Rattle.sched_print.proofs.EntryForms.{printed, prints_entries, formed_entries}
use Rattle.sched_print.proofs.Again.{again}

-- no text of the form has more than k bytes
abbrev pub IsShort : Form → ℕ → Type 0
IsShort (Done e) k = ⊤
IsShort (Word w f) k = (length w ≤ k) × IsShort f (k - length w)
IsShort (Number low high f) k = (20 ≤ k) × ((n : ℕ) → IsShort (f n) (k - 20))
IsShort (Either f g) k = IsShort f k × IsShort g k

short : (f : Form) (k : ℕ) (t : List ℕ) (e : Entry) → IsFormed f → IsShort f k → Spells f t e → length t ≤ k
short (Done d) k t e h b s = omega (arith, ap length s.0)
short (Word w f) k t e h b s =
    let rest : length s.0 ≤ k - length w = short f (k - length w) s.0 e h b.1 s.2 in
    omega (arith, b.0, ap length s.1 ∙ length-append w s.0)
short (Number low high f) k t e h b s =
    let rest : length s.3 ≤ k - 20 = short (f s.0) (k - 20) s.3 e (h.3 s.0).1 (b.1 s.0) s.5 in
    let below : s.0 < high = s.2 in
    let wide : high ≤ 2 ^ 64 = h.2 in
    let digits : length (decimal s.0) ≤ 20 = length-decimal-le 20 s.0 (omega arith) (omega arith) (omega arith) in
    omega (arith, b.0, ap length s.4 ∙ length-append (decimal s.0) s.3)
short (Either f g) k t e h b (inl s) = short f k t e h.0 b.0 s
short (Either f g) k t e h b (inr s) = short g k t e h.1 b.1 s

short_entries : IsShort entries 191
short_entries = search rules

-- between the form's texts and the texts of printable entries
text_from_spells : (t : List ℕ) (e : Entry) → Spells entries t e → IsText t e
text_from_spells t e s =
    let x = printed entries [] t e prints_entries s in
    record { printable = x.0; text = sym x.1 }

spells_from_text : (t : List ℕ) (e : Entry) → IsText t e → Spells entries t e
spells_from_text t e x =
    let P : List ℕ → Type 0 = λ b. Spells entries b e in
    subst P (sym x.text) (sound entries (words e) e formed_entries (again e x.printable))

pub text_is_short : (t : List ℕ) (e : Entry) → IsText t e → length t ≤ 191
text_is_short t e x = short entries 191 t e formed_entries short_entries (spells_from_text t e x)

read_text : (t : List ℕ) (e : Entry) → IsText t e → read entries t ≡ Ok e
read_text t e x = ap (read entries) x.text ∙ again e x.printable

text_read : (t : List ℕ) (e : Entry) → read entries t ≡ Ok e → IsText t e
text_read t e r = text_from_spells t e (sound entries t e formed_entries r)

begins_short : (front : List ℕ) → BeginsText front → length front ≤ 191
begins_short front b =
    let whole : length (front ++ b.1) ≤ 191 = text_is_short (front ++ b.1) b.0 b.2 in
    omega (arith, length-append front b.1)

take_front : (p r : List ℕ) → take (length (p ++ r) - length r) (p ++ r) ≡ p
take_front p r =
    let e : length (p ++ r) - length r ≡ length p = omega (arith, length-append p r) in
    rw e (grind (arith, common_steps))

place_read : (t : List ℕ) (left : ℕ) → read entries t ≡ Err left → IsPlace t (length t - left)
place_read t left r =
    let x = reached entries t left formed_entries r in
    let front : take (length t - left) t ≡ x.0 =
    let P : List ℕ → ℕ → Type 0 = λ b n. take (length b - n) b ≡ x.0 in
    let here : P (x.0 ++ x.1) (length x.1) = take_front x.0 x.1 in
    let there : P (x.0 ++ x.1) left = subst (λ n. P (x.0 ++ x.1) n) x.3 here in
    subst (λ b. P b left) (sym x.2) there in
    let spelled : Begins entries x.0 = x.4 in
    let begins : BeginsText x.0 = (spelled.1, spelled.0, text_from_spells (x.0 ++ spelled.0) spelled.1 spelled.2) in
    record {
      inside = omega arith;
      begins = subst BeginsText (sym front) begins;
      longest = λ k past within b.
          let left_there : left ≤ length (drop k t) =
          stuck entries t left formed_entries r (take k t) (drop k t) (sym (take-append-drop k t)) (b.1, b.0, spells_from_text (take k t ++ b.1) b.0 b.2) in
          omega (arith, length-drop k t);
    }

pub take_twice : (j k : ℕ) (xs : List ℕ) → j ≤ k → take j (take k xs) ≡ take j xs
take_twice zero k xs h = refl
take_twice (suc j) zero xs h = absurd (omega arith)
take_twice (suc j) (suc k) [] h = refl
take_twice (suc j) (suc k) (x ∷ xs) h = ap (λ ys. x ∷ ys) (take_twice j k xs (omega arith))

-- reading the first n bytes is enough, where n is above the length of every text
front_found : (n : ℕ) (line : List ℕ) (e : Entry) → 191 < n → read entries (take n line) ≡ Ok e → IsText line e
front_found n line e big r =
    let x = text_read (take n line) e r in
    let few : length (take n line) ≤ 191 = text_is_short (take n line) e x in
    let fits : length line ≤ n = omega (arith, length-take n line) in
    subst (λ b. IsText b e) (take_all n line fits) x

front_only : (n : ℕ) (line : List ℕ) (e : Entry) → 191 < n → IsText line e → read entries (take n line) ≡ Ok e
front_only n line e big x =
    let few : length line ≤ 191 = text_is_short line e x in
    rw (take_all n line (omega arith)) (read_text line e x)

front_place : (n : ℕ) (line : List ℕ) (left : ℕ) → 191 < n → read entries (take n line) ≡ Err left → IsPlace line (length (take n line) - left)
front_place n line left big r =
    let x = place_read (take n line) left r in
    let lengths : length (take n line) ≡ min n (length line) = length-take n line in
    let same : take (length (take n line) - left) (take n line) ≡ take (length (take n line) - left) line =
    take_twice (length (take n line) - left) n line (omega arith) in
    record {
      inside = omega arith;
      begins = subst BeginsText same x.begins;
      longest = λ k past fits b.
          let few : length (take k line) ≤ 191 = begins_short (take k line) b in
          let exact : length (take k line) ≡ k = length-take-le k line fits in
          let again_there : take k (take n line) ≡ take k line = take_twice k n line (omega arith) in
          x.longest k past (omega arith) (subst BeginsText (sym again_there) b);
    }

pub entry_found : (line : List ℕ) (e : Entry) → read entries (take 192 line) ≡ Ok e → IsText line e
entry_found line e r = front_found 192 line e (omega arith) r

pub entry_only : (line : List ℕ) (e : Entry) → IsText line e → read entries (take 192 line) ≡ Ok e
entry_only line e x = front_only 192 line e (omega arith) x

pub entry_place : (line : List ℕ) (left : ℕ) → read entries (take 192 line) ≡ Err left → IsPlace line (length (take 192 line) - left)
entry_place line left r = front_place 192 line left (omega arith) r
