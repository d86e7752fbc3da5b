use Rattle.std.proofs.Common.{◌≡◌, ℕ, ◌+◌, ◌-◌, ◌<◌, List, take, length, arith}
use Rattle.xl_words.specs.Grammar.{reading}
use Rattle.text_laws.specs.Places.{IsFurthest, Begins}
use Rattle.text_laws.proofs.Placed.{Facts}
use Rattle.text_laws.proofs.Whole.{placed_reading}
use Rattle.text_laws.proofs.words.law_places.Goals as goal

none_go_on : (words : List (List ℕ)) (p : ℕ) → Facts 0 reading words p → p < length words → Begins (take (p + 1) words) → ⊥
none_go_on words p facts short begun =
    let fault = facts.settled (p + 1) begun.0 (omega arith) (omega arith) in
    let good = begun.2 in
    cc

furthest : (words : List (List ℕ)) (p : ℕ) → Facts 0 reading words p → IsFurthest words p
furthest words p facts =
    let c = facts.completes in
    let whole : p - 0 ≡ p = omega arith in
    record { within = omega (arith, facts.high); begins = (c.0, c.1, rw whole at c.2); stops = λ short begun. none_go_on words p facts short begun }

pub returns : goal.returns
returns c = λ words fault e. furthest words fault.place (placed_reading words fault.place e)
