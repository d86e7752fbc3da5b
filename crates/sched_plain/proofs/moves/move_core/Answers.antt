use Rattle.sched_plain.proofs.Bridges.{stands-early, stands-pool, stands-state}
use Rattle.sched_plain.proofs.moves.move_core.Goals as goal

pub attach-requires-clause-early : goal.attach-requires-clause-early
attach-requires-clause-early c = stands-early c.args.machine.now c.args.state.now c.requires

pub attach-requires-clause-fits : goal.attach-requires-clause-fits
attach-requires-clause-fits c = stands-pool c.args.machine.now c.args.state.now c.requires

pub detach-requires-clause-early : goal.detach-requires-clause-early
detach-requires-clause-early c = stands-early c.args.machine.now c.args.state.now c.requires

pub detach-requires-clause-few : goal.detach-requires-clause-few
detach-requires-clause-few c = (stands-state c.args.machine.now c.args.state.now c.requires).few_pools

pub detach-requires-clause-fits : goal.detach-requires-clause-fits
detach-requires-clause-fits c = stands-pool c.args.machine.now c.args.state.now c.requires
