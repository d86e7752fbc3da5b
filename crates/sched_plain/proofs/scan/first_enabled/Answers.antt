use Rattle.std.proofs.Common.{◌∙◌, sym, ap}
use Rattle.std.specs.Prelude.{find}
use Rattle.sched_model.specs.Machine.{is_action_enabled}
use Rattle.sched_plain.proofs.Searching.{candidates-in}
use Rattle.sched_plain.proofs.scan.first_enabled.Goals as goal

pub returns : goal.returns
returns c = c.first_in.ensures ∙ ap (find (is_action_enabled c.args.machine.now c.args.state.now c.args.t.0)) (sym (candidates-in c.args.machine.now.config))
