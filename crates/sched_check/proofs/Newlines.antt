-- A search for a newline parts the bytes, and a text that begins with a line is parted in one way alone.
use Rattle.std.proofs.Common.{◌≡◌, ◌≢◌, ℕ, suc, ◌+◌, ◌<◌, List, [], ◌∷◌, ◌++◌, Some, None, length, take, drop, refl, sym, ap, ◌∙◌, arith, get_or, add-one, append_assoc, eq-eqb}
use Rattle.std.proofs.lemmas.Bool.{eqb-true}
use Rattle.std.proofs.lemmas.List.{get_or-take, get_or_default, take-append-drop, length-take}
use Rattle.std.proofs.Math.Seq.{drop-cons}
use Rattle.memchr.specs.Find.{IsFirstByte, Passes, is_byte}
use Rattle.std.proofs.lemmas.List.Elements.{All-head, All-tail}
use Rattle.sched_model.specs.declared.event.Entry.{Entry}
use Rattle.sched_print.specs.Line.{words, line}
use Rattle.sched_print.proofs.Texts.{lines_are_lines}
use Rattle.sched_check.specs.Lines.{HasNone, IsParted}

-- a byte that the search passed by is no newline
missed : (bytes : List ℕ) (k d : ℕ) → k < length bytes → (Passes (is_byte 10) bytes k → ⊥) → get_or bytes k d ≢ 10
missed bytes k d low misses same = misses (eq-eqb (get_or bytes k 0) 10 (get_or_default bytes k 0 d low ∙ same))

-- where none is found, there is none
pub found_none : (bytes : List ℕ) → IsFirstByte (is_byte 10) bytes None → HasNone bytes
found_none bytes nowhere = λ k d low. missed bytes k d low (nowhere k (omega arith) low)

-- the first one parts the bytes
pub found_some : (bytes : List ℕ) (i : ℕ) → IsFirstByte (is_byte 10) bytes (Some i) → IsParted bytes (take i bytes) (drop (i + 1) bytes)
found_some bytes i found =
    let high = found.0.high in
    let at : get_or bytes i 0 ≡ 10 = eqb-true (get_or bytes i 0) 10 found.1 in
    let behind : drop i bytes ≡ 10 ∷ drop (i + 1) bytes =
    drop-cons bytes i 0 high ∙ ap (λ (z : ℕ). z ∷ drop (suc i) bytes) at ∙ ap (λ (n : ℕ). 10 ∷ drop n bytes) (sym (add-one i)) in
    record {
      parts = sym (take-append-drop i bytes) ∙ ap (λ (z : List ℕ). take i bytes ++ z) behind;
      inner = λ k d below.
          let inside : k < i = omega (arith, below, length-take i bytes) in
          let there : k < length bytes = omega (arith, inside, high) in
          λ same. missed bytes k d there (found.0.before k (omega arith) inside) (sym (get_or-take i bytes k d inside) ∙ same);
    }

head_not : (b : ℕ) (bytes : List ℕ) → HasNone (b ∷ bytes) → b ≢ 10
head_not b bytes h = All-head (λ z. z ≢ 10) b bytes h

tail_none : (b : ℕ) (bytes : List ℕ) → HasNone (b ∷ bytes) → HasNone bytes
tail_none b bytes h = All-tail (λ z. z ≢ 10) b bytes h

-- two fronts without a newline before a newline are the same
pub same_parts : (a b x y : List ℕ) → HasNone a → HasNone b → a ++ 10 ∷ x ≡ b ++ 10 ∷ y → (a ≡ b) × (x ≡ y)
same_parts [] [] x y ha hb e = (refl, cc)
same_parts [] (c ∷ b) x y ha hb e = absurd (head_not c b hb cc)
same_parts (c ∷ a) [] x y ha hb e = absurd (head_not c a ha cc)
same_parts (c ∷ a) (d ∷ b) x y ha hb e =
    let first : c ≡ d = cc in
    let rest = same_parts a b x y (tail_none c a ha) (tail_none d b hb) cc in
    (let same : a ≡ b = rest.0 in cc, rest.1)

-- a newline stands in a line with what follows it
pub none_is_no_line : (front more : List ℕ) → HasNone (front ++ 10 ∷ more) → ⊥
none_is_no_line [] more h = head_not 10 more h refl
none_is_no_line (b ∷ front) more h = none_is_no_line front more (tail_none b (front ++ 10 ∷ more) h)

pub nothing_is_no_line : (front more : List ℕ) → front ++ 10 ∷ more ≡ [] → ⊥
nothing_is_no_line [] more e = cc
nothing_is_no_line (b ∷ front) more e = cc

-- a line with what follows it
pub line_then : (e : Entry) (more : List ℕ) → line e ++ more ≡ words e ++ 10 ∷ more
line_then e more = append_assoc (words e) (10 ∷ []) more

-- what begins with a line is parted into its words and what follows
pub parted_line : (rest front more : List ℕ) (e : Entry) (others : List ℕ) → IsParted rest front more → rest ≡ line e ++ others → (front ≡ words e) × (more ≡ others)
parted_line rest front more e others parted same =
    same_parts front (words e) more others parted.inner (lines_are_lines e) (sym parted.parts ∙ same ∙ line_then e others)
