use Rattle.sched_plain.proofs.SeenLaw.{still_seen}
use Rattle.sched_plain.proofs.first.ask_still.Goals as goal

pub returns-then-not-outlook : goal.returns-then-not-outlook
returns-then-not-outlook c = still_seen c.args.machine.now c.args.state.now c.is_still-outlook.result c.args.outlook.now c.is_still-outlook.ensures c.requires
