use Rattle.std.proofs.Common.{sym, subst}
use Rattle.sched_model.specs.Runs.{IsNext}
use Rattle.journal_core.specs.Books.{Chronicle}
use Rattle.journal_core.specs.Histories.{reached_by}
use Rattle.hall.proofs.book.add_entry.Goals as goal

pub commit-requires-clause-next : goal.commit-requires-clause-next
commit-requires-clause-next c = subst (λ (b : Chronicle). IsNext b.input (reached_by b.input b.history) c.args.entry) (sym c.get_mut.ensures.value) c.requires.next
