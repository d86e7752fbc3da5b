use Rattle.std.proofs.Common.{◌∙◌, arith}
use Rattle.sched_model.specs.Machine.{is_action_enabled}
use Rattle.sched_plain.proofs.Domains.{kinds-go_on}
use Rattle.sched_plain.proofs.scan.+first_in.Goals as goal

pub returns-in-None : goal.returns-in-None
returns-in-None t c =
    c.first_in.ensures ∙ kinds-go_on (is_action_enabled c.args.machine.now c.args.state.now c.args.t.0) c.args.machine.now.config c.args.kinds.now _ (omega arith) c.in-None.ensures
