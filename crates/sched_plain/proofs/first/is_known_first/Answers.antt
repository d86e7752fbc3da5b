use Rattle.std.specs.Prelude.{Some}
use Rattle.sched_plain.proofs.SeenLaw.{unseen}
use Rattle.sched_plain.proofs.first.is_known_first.Goals as goal

pub returns-in-None-clause-seen : goal.returns-in-None-clause-seen
returns-in-None-clause-seen c = unseen c.args.machine.now c.args.state.now (Some c.nothing_known.result) c.nothing_known.ensures
