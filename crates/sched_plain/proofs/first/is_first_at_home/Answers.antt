use Rattle.std.proofs.Common.{◌∙◌, sym, ap}
use Rattle.std.specs.Option.{option_copied}
use Rattle.sched_plain.proofs.Bridges.{stands-pool, stands-state}
use Rattle.sched_plain.proofs.first.is_first_at_home.Goals as goal

pub home_of-requires-clause-few : goal.home_of-requires-clause-few
home_of-requires-clause-few c = (stands-state c.args.machine.now c.args.state.now c.requires).few_pools

pub is_first_sibling-requires-clause-fits : goal.is_first_sibling-requires-clause-fits
is_first_sibling-requires-clause-fits c = (stands-pool c.args.machine.now c.args.state.now c.requires c.in-Some.i c.in-Some-pool_at.pool.now (sym c.pool_at.ensures ∙ ap option_copied c.in-Some-pool_at.is)).fits
