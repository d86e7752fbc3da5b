use Rattle.std.proofs.Common.{List, Option, subst, ◌∙◌}
use Rattle.sched_base.specs.declared.Moment.{Moment}
use Rattle.due_heap.specs.Words.{IsFirstCome}
use Rattle.due_heap.proofs.Told.{come_some}
use Rattle.due_heap.proofs.set.DueSet.first_due.Goals as goal

pub returns-clause-come : goal.returns-clause-come
returns-clause-come c =
    come_some c.args.self.now c.args.t.0 c.first_come.result
    (subst (λ (dues : List (Option Moment)). IsFirstCome dues c.args.t.0 c.first_come.result) (c.as_slice.ensures.value ∙ c.self.view_is) c.first_come.ensures)
