use Rattle.std.proofs.Common.{◌∙◌, ◌+◌, ◌-◌, ◌*◌, ◌/◌, ap}
use Rattle.due_heap.specs.Winners.{sooner_id, node_winner}
use Rattle.due_heap.proofs.Rise.{beside}
use Rattle.due_heap.proofs.play_beside.Goals as goal

pub returns : goal.returns
returns c =
    c.sooner.ensures
    ∙ ap (λ w. sooner_id c.args.moments.now c.args.first w) c.winner.ensures
    ∙ ap (λ w. sooner_id c.args.moments.now w (node_winner c.args.winners.now (4 * (c.args.node / 2) + 1 - c.args.node))) c.requires.first
    ∙ beside c.args.moments.now (node_winner c.args.winners.now) c.args.node
