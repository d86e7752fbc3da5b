use Rattle.std.proofs.Common.{ap}
use Rattle.sched_model.specs.Runs.{event_action}
use Rattle.hall.proofs.book.raise_stage.Goals as goal

pub set_stage-requires-clause-core : goal.set_stage-requires-clause-core
set_stage-requires-clause-core c = (c.requires.core c.in-Decide.r.0 (ap event_action c.in-Decide.is)).core

pub set_stage-requires-clause-home : goal.set_stage-requires-clause-home
set_stage-requires-clause-home c = let has = c.requires.core c.in-Decide.r.0 (ap event_action c.in-Decide.is) in (has.lock, has.name)
