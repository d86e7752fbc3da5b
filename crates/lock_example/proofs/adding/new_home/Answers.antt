use Rattle.std.proofs.Common.{refl, sym, ◌∙◌, eqb-true, eq-eqb, arith}
use Rattle.journal_core.specs.Histories.{home_at}
use Rattle.lock_example.specs.Example.{adding_machine, two_entries}
use Rattle.lock_example.proofs.Checks.{home_after}
use Rattle.lock_example.proofs.adding.new_home.Goals as goal

pub returns-clause-pool : goal.returns-clause-pool
returns-clause-pool c = let x = c.requires.below.knows 0 (omega arith) in
    let word = c.read_word.ensures.tells.1 0 x.0 1 refl x.1 (omega arith) in
    eqb-true c.read_word.result 0 (sym word ∙ (x.2.names 1 (omega arith) ∙ eq-eqb (home_at adding_machine two_entries 1) 0 home_after))
