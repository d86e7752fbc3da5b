use Rattle.std.proofs.Common.{◌∙◌, sym}
use Rattle.rtds_core.proofs.Again.{domains_again, queues_again, dues_again}
use Rattle.rtds_core.proofs.best.switch.Goals as goal

pub returns-then-is_same_choice-clause-domains : goal.returns-then-is_same_choice-clause-domains
returns-then-is_same_choice-clause-domains c =
    let a = c.args in
    sym (domains_again a.at a.domains.now a.queues.now a.alarms.now a.cur a.chosen (sym c.is_same_choice.ensures ∙ c.if-is_same_choice.true) c.requires.charged)

pub returns-then-is_same_choice-clause-queues : goal.returns-then-is_same_choice-clause-queues
returns-then-is_same_choice-clause-queues c =
    let a = c.args in
    sym (queues_again a.at a.domains.now a.queues.now a.alarms.now a.cur a.chosen (sym c.is_same_choice.ensures ∙ c.if-is_same_choice.true) c.requires.charged)

pub returns-then-is_same_choice-clause-alarms : goal.returns-then-is_same_choice-clause-alarms
returns-then-is_same_choice-clause-alarms c =
    let a = c.args in
    sym (dues_again a.at a.domains.now a.queues.now a.alarms.now a.cur a.chosen (sym c.is_same_choice.ensures ∙ c.if-is_same_choice.true) c.requires.charged)
