-- One option more.
use Rattle.std.proofs.Common.{◌≡◌, ℕ, ◌+◌, true, List, [], ◌∷◌, Some, None, Result, refl, sym, ap, ◌∙◌}
use Rattle.sched_model.specs.declared.command.Syntax.{Syntax}
use Rattle.xl_words.specs.Options.{Rules, options}

-- an option of one word
pub one_given : {G : Type 0} (rules : Rules G) (place : ℕ) (g h : G) (word : List ℕ) (words : List (List ℕ)) → rules.alone g word ≡ Some h → options rules place g (word ∷ words) ≡ options rules (place + 1) h words
one_given rules place g h word [] e = rw (options, e) refl
one_given rules place g h word (value ∷ words) e = rw (options, e) refl

-- an option with its value
pub one_valued : {G : Type 0} (rules : Rules G) (place : ℕ) (g h : G) (word value : List ℕ) (words : List (List ℕ)) → rules.alone g word ≡ None → rules.takes g word ≡ true → rules.value g word value ≡ Some h → options rules place g (word ∷ value ∷ words) ≡ options rules (place + 2) h words
one_valued rules place g h word value words e takes reads = rw (options, e, takes, reads) refl

-- a reader that goes on behind an option of one word
pub goes_on_given : {G : Type 0} (rules : Rules G) (place : ℕ) (g h : G) (word : List ℕ) (all words : List (List ℕ)) (result : Result (G × ℕ) Syntax) → all ≡ word ∷ words → rules.alone g word ≡ Some h → result ≡ options rules (place + 1) h words → result ≡ options rules place g all
goes_on_given rules place g h word all words result cut e rest = rest ∙ sym (one_given rules place g h word words e) ∙ ap (options rules place g) (sym cut)

-- a reader that goes on behind an option and its value
pub goes_on_valued : {G : Type 0} (rules : Rules G) (place : ℕ) (g h : G) (word value : List ℕ) (all behind words : List (List ℕ)) (result : Result (G × ℕ) Syntax) → all ≡ word ∷ behind → behind ≡ value ∷ words → rules.alone g word ≡ None → rules.takes g word ≡ true → rules.value g word value ≡ Some h → result ≡ options rules (place + 2) h words → result ≡ options rules place g all
goes_on_valued rules place g h word value all behind words result cut again e takes reads rest =
    rest ∙ sym (one_valued rules place g h word value words e takes reads) ∙ ap (λ ws. options rules place g (word ∷ ws)) (sym again) ∙ ap (options rules place g) (sym cut)
