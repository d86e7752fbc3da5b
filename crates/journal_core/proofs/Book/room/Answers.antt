use Rattle.std.proofs.Common.{List, ℕ, sym, subst}
use Rattle.std.specs.Prelude.{vec_capacity}
use Rattle.sched_model.specs.declared.event.Entry.{Entry}
use Rattle.journal_core.specs.Books.{IsKept, chronicle}
use Rattle.journal_core.proofs.Keeps.{kept_new}
use Rattle.journal_core.proofs.Book.room.Goals as goal

pub invariant_of-result : goal.invariant_of-result
invariant_of-result c = let room = vec_capacity c.in_ok-entries.entries in
    subst (λ (z : List Entry × List ℕ). IsKept (chronicle c.of.result.value c.of-2.result.value z.0 c.args.events) room 0 z.1) (λ i. (sym c.in_ok-entries.ensures.items i, sym c.in_ok-decides.ensures.ok i))
    (kept_new c.of.result.value c.of-2.result.value c.args.events room c.no_decisions.result c.requires.few.1 c.in_ok-entries.ensures.capacity c.no_decisions.ensures.cores c.no_decisions.ensures.none)
