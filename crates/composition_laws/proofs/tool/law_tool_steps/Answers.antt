use Rattle.composition_laws.proofs.ToolSteps.{tool_steps}
use Rattle.composition_laws.proofs.tool.law_tool_steps.Goals as goal

pub returns : goal.returns
returns c = tool_steps
