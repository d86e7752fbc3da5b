use Rattle.std.proofs.Common.{sym, ◌≡◌, ◌∙◌, subst, true}
use Rattle.sched_model.specs.Actions.{candidates}
use Rattle.sched_model.specs.Machine.{is_action_enabled}
use Rattle.sched_model.specs.Standing.{Standing}
use Rattle.sched_model.proofs.RunLemmas.{find_passes}
use Rattle.sched_check.proofs.entries.judge_first.Goals as goal

pub perform-requires : goal.perform-requires
perform-requires c =
    subst (λ (v : Standing). is_action_enabled v.machine v.state v.state.now c.in-Some.first ≡ true) (sym c.first_enabled_by_guess.ensures.unchanged)
    (find_passes (is_action_enabled c.args.plain.now.machine c.args.plain.now.state c.args.plain.now.state.now) (candidates c.args.plain.now.machine.config) c.in-Some.first
    (sym c.first_enabled_by_guess.ensures.first ∙ c.in-Some.is))
