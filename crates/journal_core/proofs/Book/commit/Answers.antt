use Rattle.std.proofs.Common.{ℕ, ◌≡◌, ◌<◌, ◌+◌, List, length, sym, subst}
use Rattle.std.specs.Prelude.{slice_index, vec_capacity}
use Rattle.sched_model.specs.declared.event.Entry.{Entry}
use Rattle.sched_model.specs.Runs.{IsNext}
use Rattle.journal_core.specs.Histories.{decision_of, reached_by}
use Rattle.journal_core.specs.Books.{Chronicle, IsKept, chronicle}
use Rattle.journal_core.proofs.Keeps.{kept_few, kept_more}
use Rattle.journal_core.proofs.Book.commit.Goals as goal

pub count_decision-requires : goal.count_decision-requires
count_decision-requires c = record {
  few = λ r low. subst (λ (counts : List ℕ). slice_index counts r < 4000000) (sym c.deref_mut.ensures.value)
      (kept_few (chronicle c.self.inside.config.value c.self.inside.work.value c.self.inside.entries.items c.self.inside.limit) _ _ c.self.inside.decides.value r c.self.invariant
      (subst (λ (x : Chronicle). length x.history < x.limit) (sym c.self.view_is) c.requires.room) low);
}

pub invariant_of-self : goal.invariant_of-self
invariant_of-self c = let b = c.self.inside in let room = vec_capacity b.entries in let counts = c.count_decision.new.decides in
    let counted = subst (λ (before : List ℕ). (r : ℕ) → r < 64 → slice_index counts r ≡ decision_of c.args.e.event r + slice_index before r)
    c.deref_mut.ensures.value c.count_decision.ensures.counted in
    let kept = kept_more b.config.value b.work.value b.entries.items b.limit room b.moment.0 b.decides.value counts c.args.e c.self.invariant
    (subst (λ (x : Chronicle). IsNext x.input (reached_by x.input x.history) c.args.e) (sym c.self.view_is) c.requires.next)
    (subst (λ (x : Chronicle). length x.history < x.limit) (sym c.self.view_is) c.requires.room)
    c.count_decision.ensures.cores counted in
    subst (λ (z : List Entry × (ℕ × ℕ)). IsKept (chronicle b.config.value b.work.value z.0 b.limit) z.1.0 z.1.1 counts)
    (λ i. (sym c.push_reserved.ensures.items i, (sym c.push_reserved.ensures.capacity i, sym c.moment_after-self-inside.ensures i))) kept
