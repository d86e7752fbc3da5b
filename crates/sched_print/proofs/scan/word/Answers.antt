use Rattle.std.proofs.Common.{◌≡◌, ◌<◌, ℕ, List, [], ◌∷◌, length, drop, length-drop, refl, sym, ◌∙◌, arith}
use Rattle.std.specs.Prelude.{Err}
use Rattle.sched_print.specs.Readers.{word_at}
use Rattle.sched_print.proofs.scan.word.Goals as goal

-- no byte is left, and some of the word is
word_none : (word rest : List ℕ) → 0 < length word → length rest < 1 → word_at word rest ≡ Err 0
unfolding word_at
word_none [] rest some none = absurd (omega arith)
word_none (c ∷ word) [] some none = refl
word_none (c ∷ word) (b ∷ rest) some none = absurd (omega arith)

pub returns-in-empty : goal.returns-in-empty
returns-in-empty c =
    sym c.loop-c.invariant ∙ word_none (drop c.loop-c.c-index c.args.word.now) c.loop-c.rest.now (omega (arith, length-drop c.loop-c.c-index c.args.word.now)) (omega arith)
