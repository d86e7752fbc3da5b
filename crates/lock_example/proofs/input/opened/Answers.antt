use Rattle.std.proofs.Common.{sym, subst}
use Rattle.journal_core.specs.Books.{Chronicle}
use Rattle.journal_core.specs.Histories.{NamesStandOnce}
use Rattle.lock_moves.specs.TableContent.{AreParts}
use Rattle.lock_example.specs.declared.counter.Counter.{Counter}
use Rattle.lock_example.specs.Example.{part_after}
use Rattle.lock_example.proofs.Checks.{new-parts, once-first}
use Rattle.lock_example.proofs.input.opened.Goals as goal

pub open-requires-clause-parts : goal.open-requires-clause-parts
open-requires-clause-parts c = subst (λ (b : Chronicle). AreParts (λ (x : Counter). part_after x.lock x.count) (λ m now x. Unit {0}) b c.in_ok-parts.parts.items) (sym c.in_ok-book.ensures) (new-parts c.in_ok-parts.parts.items c.in_ok-parts.ensures.all c.in_ok-parts.ensures.each)

pub open-requires-clause-once : goal.open-requires-clause-once
open-requires-clause-once c = subst (λ (b : Chronicle). NamesStandOnce b.input b.history) (sym c.in_ok-book.ensures) once-first
