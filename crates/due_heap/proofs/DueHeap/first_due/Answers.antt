use Rattle.std.proofs.Common.{◌≡◌, ◌<◌, ℕ, Option, List, true, false, subst}
use Rattle.sched_base.specs.declared.Moment.{Moment}
use Rattle.due_heap.specs.Dues.{IsArmed}
use Rattle.due_heap.specs.Winners.{node_winner, is_armed_due}
use Rattle.due_heap.proofs.Descent.{none_come, is_come}
use Rattle.due_heap.proofs.DueHeap.first_due.Goals as goal

pub returns-then-not-is_due-clause-none : goal.returns-then-not-is_due-clause-none
returns-then-not-is_due-clause-none c =
    let moments = c.self.inside.moments.items in
    let winners = c.self.inside.winners.items in
    let none : is_armed_due moments c.args.t.0 (node_winner winners 1) ≡ false = cc in
    subst (λ (dues : List (Option Moment)). (id : ℕ) (at : Moment) → IsArmed dues id at → c.args.t.0 < at.0) c.self.view_is
    (none_come c.args.t.0 moments winners c.self.invariant.0 none)

pub returns-clause-come : goal.returns-clause-come
returns-clause-come c =
    let come : is_armed_due c.args.self.now c.args.t.0 c.leftmost.result ≡ true = cc in
    is_come c.args.t.0 c.args.self.now c.leftmost.result come
