use Rattle.std.proofs.Common.{◌≡◌, ℕ, Some, None, List, Option, subst, sym}
use Rattle.sched_base.specs.declared.Moment.{Moment}
use Rattle.due_heap.specs.Dues.{IsArmed, GoesFirst, armed_moment}
use Rattle.due_heap.specs.Winners.{node_winner}
use Rattle.due_heap.proofs.Tree.{root_goes_first, root_none}
use Rattle.due_heap.proofs.DueHeap.least.Goals as goal

pub returns-in-Some-clause-first : goal.returns-in-Some-clause-first
returns-in-Some-clause-first c id at armed =
    let moments = c.self.inside.moments.items in
    let winners = c.self.inside.winners.items in
    let root : node_winner winners 1 ≡ c.winner-root.result = cc in
    let due : armed_moment moments (node_winner winners 1) ≡ Some c.in-Some.at = cc in
    subst (λ (w : ℕ). GoesFirst c.in-Some.at w at id) root
    (root_goes_first moments winners c.self.invariant.0 c.in-Some.at due id at
    (subst (λ (dues : List (Option Moment)). IsArmed dues id at) (sym c.self.view_is) armed))

pub returns-in-None-clause-none : goal.returns-in-None-clause-none
returns-in-None-clause-none c id at armed =
    let moments = c.self.inside.moments.items in
    let winners = c.self.inside.winners.items in
    let none : armed_moment moments (node_winner winners 1) ≡ None = cc in
    root_none moments winners c.self.invariant.0 none id at
    (subst (λ (dues : List (Option Moment)). IsArmed dues id at) (sym c.self.view_is) armed)
