use Rattle.machine_parts.specs.Places.{state_of}
use Rattle.tool_actions.proofs.Spared.{spares-on}
use Rattle.tool_actions.proofs.commands.accept.Goals as goal

pub returns-in_default : goal.returns-in_default
returns-in_default c = record {
  parts = c.accept_change.ensures.parts;
  spares = spares-on c.args.trail.now.input (state_of c.args.trail.now).now c.args.tool.now c.accept_change.new.tool c.args.spares.now c.requires.spares c.accept_change.ensures.pools c.accept_change.ensures.over;
}
