use Rattle.std.proofs.Common.{sym, ◌∙◌}
use Rattle.sched_model.specs.Actions.{candidates}
use Rattle.sched_model.specs.Machine.{is_action_enabled}
use Rattle.sched_model.proofs.RunLemmas.{find_passes}
use Rattle.sched_check.proofs.entries.judge_quiet.Goals as goal

pub perform-requires : goal.perform-requires
perform-requires c =
    find_passes (is_action_enabled c.args.plain.now.machine c.args.plain.now.state c.args.plain.now.state.now) (candidates c.args.plain.now.machine.config) c.in-Some-first_enabled.first
    (sym c.first_enabled.ensures ∙ c.in-Some-first_enabled.is)
