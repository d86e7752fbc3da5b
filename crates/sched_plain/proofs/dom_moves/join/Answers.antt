use Rattle.sched_plain.proofs.DomMoving.{joined-fits}
use Rattle.sched_plain.proofs.dom_moves.join.Goals as goal

pub settle-requires-clause-fits : goal.settle-requires-clause-fits
settle-requires-clause-fits c = (joined-fits c.args.granularity c.args.t.0 c.args.d.0 c.args.joining c.default_dom_params-params.result c.args.pool.now c.with_domain.new.pool c.requires.after c.default_dom_params-params.ensures c.with_domain.ensures).fits
