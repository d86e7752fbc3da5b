use Rattle.sched_plain.proofs.SeenLaw.{quiet_if_still}
use Rattle.sched_plain.proofs.first.is_tool_quiet.Goals as goal

pub returns-then-outlook-clause-quiet : goal.returns-then-outlook-clause-quiet
returns-then-outlook-clause-quiet c is = quiet_if_still c.args.machine.now c.args.state.now (c.ask_still.ensures.still is)
