-- A line and a text tell their entries.
use Rattle.std.proofs.Common.{◌≡◌, ◌≢◌, ◌+◌, ℕ, true, List, [], ◌∷◌, ◌++◌, length, arith, refl, ◌∙◌, sym, ap, append_assoc, length-append}
use Rattle.std.specs.Prelude.{Ok}
use Rattle.std.specs.List.{All}
use Rattle.std.proofs.lemmas.List.Elements.{All-nil, All-cons, All-head, All-tail}
use Rattle.sched_base.proofs.Bools.{and_left, and_right}
use Rattle.sched_model.specs.declared.event.Entry.{Entry}
use Rattle.sched_print.specs.Line.{words, line, text}
use Rattle.sched_print.specs.Ranges.{IsPrintable}
use Rattle.sched_print.specs.Readers.{read}
use Rattle.sched_print.specs.Forms.{entries}
use Rattle.sched_print.specs.Laws.{LinesTellEntries, LinesAreLines, TextsTellEntries}
use Rattle.sched_print.proofs.Again.{again}
use Rattle.sched_print.proofs.Newlines.{is_inner, has_none, has_none-words}

pub words_same : (d e : Entry) → IsPrintable d → IsPrintable e → words d ≡ words e → d ≡ e
words_same d e hd he same =
    let first : read entries (words d) ≡ Ok d = again d hd in
    let second : read entries (words e) ≡ Ok e = again e he in
    let joined : read entries (words d) ≡ read entries (words e) = ap (read entries) same in
    cc

no_newline_first : (b : ℕ) (bytes : List ℕ) → has_none (b ∷ bytes) ≡ true → b ≢ 10
no_newline_first b bytes h e =
    let first : is_inner b ≡ true = and_left (is_inner b) (has_none bytes) h in
    let bad : is_inner 10 ≡ true = rw e at first in
    cc

all_inner : (bytes : List ℕ) → has_none bytes ≡ true → All (λ b. b ≢ 10) bytes
all_inner [] h = All-nil (λ b. b ≢ 10)
all_inner (b ∷ bytes) h =
    All-cons (λ b. b ≢ 10) b bytes (no_newline_first b bytes h) (all_inner bytes (and_right (is_inner b) (has_none bytes) h))

-- two fronts without a newline before a newline are the same
split_same : (a b x y : List ℕ) → has_none a ≡ true → has_none b ≡ true → a ++ 10 ∷ x ≡ b ++ 10 ∷ y → (a ≡ b) × (x ≡ y)
split_same [] [] x y ha hb e = (refl, cc)
split_same [] (c ∷ b) x y ha hb e = absurd (no_newline_first c b hb cc)
split_same (c ∷ a) [] x y ha hb e = absurd (no_newline_first c a ha cc)
split_same (c ∷ a) (d ∷ b) x y ha hb e =
    let first : c ≡ d = cc in
    let rest = split_same a b x y (and_right (is_inner c) (has_none a) ha) (and_right (is_inner d) (has_none b) hb) cc in
    (let same : a ≡ b = rest.0 in cc, rest.1)

-- two lines with what follows them
lines_same : (d e : Entry) (x y : List ℕ) → IsPrintable d → IsPrintable e → line d ++ x ≡ line e ++ y → (d ≡ e) × (x ≡ y)
lines_same d e x y hd he same =
    let both : words d ++ 10 ∷ x ≡ words e ++ 10 ∷ y = sym (append_assoc (words d) (10 ∷ []) x) ∙ same ∙ append_assoc (words e) (10 ∷ []) y in
    let parts = split_same (words d) (words e) x y (has_none-words d) (has_none-words e) both in
    (words_same d e hd he parts.0, parts.1)

line_is_some : (e : Entry) (x : List ℕ) → [] ≢ line e ++ x
line_is_some e x same =
    let lengths : 0 ≡ (length (words e) + 1) + length x = ap length same ∙ simp length-append in
    absurd (omega arith)

pub lines_tell : LinesTellEntries
lines_tell d e hd he same = (lines_same d e [] [] hd he (ap (λ bytes. bytes ++ []) same)).0

pub lines_are_lines : LinesAreLines
lines_are_lines e = all_inner (words e) (has_none-words e)

pub texts_tell : TextsTellEntries
texts_tell [] [] hd he same = refl
texts_tell [] (e ∷ es) hd he same = absurd (line_is_some e (text es) same)
texts_tell (d ∷ ds) [] hd he same = absurd (line_is_some d (text ds) (sym same))
texts_tell (d ∷ ds) (e ∷ es) hd he same =
    let parts = lines_same d e (text ds) (text es) (All-head IsPrintable d ds hd) (All-head IsPrintable e es he) same in
    let first : d ≡ e = parts.0 in
    let others : ds ≡ es = texts_tell ds es (All-tail IsPrintable d ds hd) (All-tail IsPrintable e es he) parts.1 in
    cc
