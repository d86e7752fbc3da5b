use Rattle.std.proofs.Common.{sym}
use Rattle.pool_records.proofs.FitsLemmas.{at_place-fits}
use Rattle.sched_plain.proofs.enabled.is_enabled_at.Goals as goal

pub is_enabled_in-requires-clause-fits : goal.is_enabled_in-requires-clause-fits
is_enabled_in-requires-clause-fits c = at_place-fits _ c.args.state.now.pools c.args.place _ c.requires.state.pools (sym c.in-Some.ensures)
