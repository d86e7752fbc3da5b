-- The texts of the forms of entries are the texts of printable entries.
use Rattle.std.proofs.Common.{◌≡◌, ◌-◌, ◌^◌, ◌<◌, ◌≤◌, inl, inr, ℕ, suc, List, [], ◌∷◌, ◌++◌, arith, rules, refl, sym, ap, ◌∙◌, append_assoc, append-nil, subst}
use Rattle.std.specs.Prelude.{decimal}
use Rattle.sched_model.specs.declared.event.Entry.{Entry}
use Rattle.sched_print.specs.Line.{words}
use Rattle.sched_print.specs.Ranges.{IsPrintable}
use Rattle.sched_print.specs.Readers.{Form, Done, Word, Number, Either}
use Rattle.sched_print.specs.Forms as form
use Rattle.sched_print.proofs.Spelling.{Spells, IsFormed}

-- what the form spells behind front is the text of a printable entry
abbrev pub Prints : Form → List ℕ → Type 0
Prints (Done e) front = IsPrintable e × (words e ≡ front)
Prints (Word w f) front = Prints f (front ++ w)
Prints (Number low high f) front = (n : ℕ) → low ≤ n → n < high → Prints (f n) (front ++ decimal n)
Prints (Either f g) front = Prints f front × Prints g front

pub printed : (f : Form) (front t : List ℕ) (e : Entry) → Prints f front → Spells f t e → IsPrintable e × (words e ≡ front ++ t)
printed (Done d) front t e h s =
    let P : Entry → Type 0 = λ x. IsPrintable x × (words x ≡ front ++ t) in
    subst P (sym s.1) (h.0, h.1 ∙ sym (append-nil front) ∙ ap (λ b. front ++ b) (sym s.0))
printed (Word w f) front t e h s =
    let x = printed f (front ++ w) s.0 e h s.2 in
    (x.0, x.1 ∙ append_assoc front w s.0 ∙ ap (λ b. front ++ b) (sym s.1))
printed (Number low high f) front t e h s =
    let x = printed (f s.0) (front ++ decimal s.0) s.3 e (h s.0 s.1 s.2) s.5 in
    (x.0, x.1 ∙ append_assoc front (decimal s.0) s.3 ∙ ap (λ b. front ++ b) (sym s.4))
printed (Either f g) front t e h (inl s) = printed f front t e h.0 s
printed (Either f g) front t e h (inr s) = printed g front t e h.1 s

prints_stall : (t : ℕ) → t < 2 ^ 63 → Prints (form.stall (form.entry t)) (decimal t)
prints_stall t ht = search rules

prints_xl : (t : ℕ) → t < 2 ^ 63 → Prints (form.xl (form.entry t)) (decimal t)
prints_xl t ht = search rules

prints_moved : (t : ℕ) → t < 2 ^ 63 → Prints (form.moved_form (form.entry t)) (decimal t)
prints_moved t ht = search rules

prints_dom_moved : (t : ℕ) → t < 2 ^ 63 → Prints (form.dom_moved (form.entry t)) (decimal t)
prints_dom_moved t ht = search rules

prints_wake : (t : ℕ) → t < 2 ^ 63 → Prints (form.wake (form.entry t)) (decimal t)
prints_wake t ht = search rules

prints_block : (t : ℕ) → t < 2 ^ 63 → Prints (form.block (form.entry t)) (decimal t)
prints_block t ht = search rules

prints_slice : (t : ℕ) → t < 2 ^ 63 → Prints (form.slice (form.entry t)) (decimal t)
prints_slice t ht = search rules

prints_repl : (t : ℕ) → t < 2 ^ 63 → Prints (form.repl (form.entry t)) (decimal t)
prints_repl t ht = search rules

prints_arrive : (t : ℕ) → t < 2 ^ 63 → Prints (form.arrive (form.entry t)) (decimal t)
prints_arrive t ht = search rules

prints_decide : (t : ℕ) → t < 2 ^ 63 → Prints (form.decide (form.entry t)) (decimal t)
prints_decide t ht = search rules

prints_leave : (t : ℕ) → t < 2 ^ 63 → Prints (form.leave (form.entry t)) (decimal t)
prints_leave t ht = search rules

prints_save : (t : ℕ) → t < 2 ^ 63 → Prints (form.save (form.entry t)) (decimal t)
prints_save t ht = search rules

prints_end : (t : ℕ) → t < 2 ^ 63 → Prints (form.end (form.entry t)) (decimal t)
prints_end t ht = search rules

prints_finish : (t : ℕ) → t < 2 ^ 63 → Prints (form.finish (form.entry t)) (decimal t)
prints_finish t ht = search rules

-- a negative budget has the digits of its absolute value behind the hyphen
negative_text : (front : List ℕ) (n : ℕ) → 1 ≤ n → front ++ (45 ∷ decimal (suc (n - 1))) ≡ (front ++ (45 ∷ [])) ++ decimal n
negative_text front n some =
    let e : suc (n - 1) ≡ n = omega arith in
    rw e (sym (append_assoc front (45 ∷ []) (decimal n)))

prints_refill : (t : ℕ) → t < 2 ^ 63 → Prints (form.refill (form.entry t)) (decimal t)
prints_refill t ht = λ d ld hd n ln hn. (λ m lm hm. ((ht, (hd, hn, hm)), refl), λ m lm hm. ((ht, (hd, hn, omega arith)), negative_text _ m lm))

pub prints_entries : Prints form.entries []
prints_entries t l ht =
    (prints_stall t ht, (prints_xl t ht, (prints_moved t ht, (prints_dom_moved t ht, (prints_wake t ht, (prints_block t ht, (prints_slice t ht, (prints_repl t ht, (prints_refill t ht, (prints_arrive t ht, (prints_decide t ht, (prints_leave t ht, (prints_save t ht, (prints_end t ht, prints_finish t ht))))))))))))))

pub formed_entries : IsFormed form.entries
formed_entries = search rules
