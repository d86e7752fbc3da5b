use Rattle.std.proofs.Common.{subst}
use Rattle.machine_parts.specs.Places.{StandsAt}
use Rattle.machine_parts.proofs.Fitting.{now-here}
use Rattle.tool_actions.proofs.Taking.{slot-there, takes-plan}
use Rattle.tool_actions.proofs.carrying.carry_kept.Goals as goal

pub carry-requires-clause-now : goal.carry-requires-clause-now
carry-requires-clause-now c seen is = now-here c.args.trail.now c.requires.goes c.args.place c.args.t.0 c.requires.now seen (subst (StandsAt c.args.trail.now c.args.place) is c.requires.stands)

pub carry-requires-clause-takes : goal.carry-requires-clause-takes
carry-requires-clause-takes c seen is =
    takes-plan c.args.trail.now c.requires.goes c.args.place seen (subst (StandsAt c.args.trail.now c.args.place) is c.requires.stands) (c.keeps.ensures.pool seen is) c.args.plan c.requires.accepted c.requires.home

pub carry-requires-clause-some : goal.carry-requires-clause-some
carry-requires-clause-some c = slot-there c.args.trail.now c.requires.goes c.args.plan c.args.place c.args.slot.now c.requires.accepted c.requires.home c.requires.keeps c.requires.stands
