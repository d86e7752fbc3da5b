use Rattle.std.proofs.Common.{◌≡◌, ◌<◌, Option, List, length, set, sym, subst, rules}
use Rattle.sched_base.specs.declared.Moment.{Moment}
use Rattle.due_heap.proofs.Tree.{set_same}
use Rattle.due_heap.proofs.DueHeap.set_due.Goals as goal

pub returns-then-eq : goal.returns-then-eq
returns-then-eq c =
    let moments = c.self.inside.moments.items in
    let same : c.index.result.now ≡ c.args.due = search rules in
    let below = subst (λ (dues : List (Option Moment)). c.args.id < length dues) (sym c.self.view_is) c.requires in
    subst (λ (dues : List (Option Moment)). dues ≡ set dues c.args.id c.args.due) c.self.view_is (set_same moments c.args.id c.index.result.now c.args.due below c.index.ensures same)
