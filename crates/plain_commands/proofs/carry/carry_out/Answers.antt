use Rattle.std.proofs.Common.{◌∙◌, ap, sym}
use Rattle.sched_model.specs.Commands.{carried_out}
use Rattle.plain_commands.proofs.carry.carry_out.Goals as goal

pub unpause-requires-clause-fits : goal.unpause-requires-clause-fits
unpause-requires-clause-fits c = λ i pool there. (c.requires.fits i pool there).fits

pub returns-in-RtdsDom-clause-state : goal.returns-in-RtdsDom-clause-state
returns-in-RtdsDom-clause-state c = c.set_units.ensures c.args.t.0 ∙ ap (λ p. carried_out c.args.machine.now c.args.t.0 p c.args.state.now) (sym c.in-RtdsDom.is)
