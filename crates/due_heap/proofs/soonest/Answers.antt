use Rattle.std.proofs.Common.{◌≡◌, Some, None}
use Rattle.due_heap.specs.Dues.{armed_moment}
use Rattle.due_heap.specs.Winners.{node_winner}
use Rattle.due_heap.proofs.Tree.{root_goes_first, root_none}
use Rattle.due_heap.proofs.soonest.Goals as goal

pub returns-in-Some : goal.returns-in-Some
returns-in-Some c id at armed =
    let due : armed_moment c.args.moments.now (node_winner c.args.winners.now 1) ≡ Some c.in-Some.at = cc in
    (root_goes_first c.args.moments.now c.args.winners.now c.requires c.in-Some.at due id at armed).by_moment

pub returns-in-None : goal.returns-in-None
returns-in-None c id at armed =
    let none : armed_moment c.args.moments.now (node_winner c.args.winners.now 1) ≡ None = cc in
    absurd (root_none c.args.moments.now c.args.winners.now c.requires none id at armed)
