use Rattle.tool_actions.proofs.DomainMoves.{acted-after, counts-after, event-is, told-after}
use Rattle.tool_actions.proofs.domains.end_move.Goals as goal

pub returns-clause-event : goal.returns-clause-event
returns-clause-event c = event-is c.args.trail.now c.args.t.0 c.args.route c.requires.moves

pub returns-clause-acted : goal.returns-clause-acted
returns-clause-acted c =
    acted-after c.args.trail.now c.args.t.0 c.args.route c.requires.moves c.args.tool.now c.requires.known c.move_done.new.self
    (told-after c.args.trail.now c.args.t.0 c.args.route c.requires.moves c.args.tool.now c.requires.known c.move_done.new.self c.move_done.ensures.state)

pub returns-clause-counts : goal.returns-clause-counts
returns-clause-counts c =
    counts-after c.args.trail.now c.args.t.0 c.args.route c.requires.moves c.args.tool.now c.requires.known c.move_done.new.self
    (told-after c.args.trail.now c.args.t.0 c.args.route c.requires.moves c.args.tool.now c.requires.known c.move_done.new.self c.move_done.ensures.state)
