use Rattle.std.proofs.Common.{◌≡◌, ◌<◌, Option, List, length, set, subst, sym, rules}
use Rattle.sched_base.specs.declared.Moment.{Moment}
use Rattle.due_heap.proofs.Tree.{set_same}
use Rattle.due_heap.proofs.Told.{taken}
use Rattle.due_heap.proofs.set.DueSet.set_due.Goals as goal

pub returns-then-eq : goal.returns-then-eq
returns-then-eq c =
    let moments = c.self.inside.moments.items in
    let same : c.index.result.now ≡ c.args.due = search rules in
    let below = subst (λ (dues : List (Option Moment)). c.args.id < length dues) (sym c.self.view_is) c.requires in
    subst (λ (dues : List (Option Moment)). dues ≡ set dues c.args.id c.args.due) c.self.view_is (set_same moments c.args.id c.index.result.now c.args.due below c.index.ensures same)

pub invariant_of-self : goal.invariant_of-self
invariant_of-self c =
    let below = subst (λ (dues : List (Option Moment)). c.args.id < length dues) (sym c.self.view_is) c.requires in
    taken c.self.inside.moments.items c.args.id c.args.due c.self.inside.words c.take_due.new.words below c.take_due.ensures c.self.invariant
