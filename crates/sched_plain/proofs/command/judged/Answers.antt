use Rattle.std.proofs.Common.{◌≡◌, ◌∙◌, ap, sym}
use Rattle.sched_model.specs.declared.facts.Facts.{Facts}
use Rattle.sched_model.specs.declared.facts.Subject.{Subject}
use Rattle.cpupool.specs.Facts.{command_facts, subject_rate, subject_stored}
use Rattle.cpupool.specs.Tool.{tool_of}
use Rattle.sched_plain.proofs.Bridges.{stands-pool}
use Rattle.cpupool.proofs.FactLemmas.{facts-kept}
use Rattle.sched_plain.proofs.Judging.{stands-recorded, stands-small}
use Rattle.sched_plain.proofs.command.judged.Goals as goal

pub read-requires : goal.read-requires
read-requires c = stands-small c.args.machine.now c.args.state.now c.requires.stands

pub facts_at-facts-requires-clause-fits : goal.facts_at-facts-requires-clause-fits
facts_at-facts-requires-clause-fits c = λ i pool at. (stands-pool c.args.machine.now c.args.state.now c.requires.stands i pool at).fits

pub returns-clause-verdict : goal.returns-clause-verdict
returns-clause-verdict c =
    let m = c.args.machine.now in
    let s = c.args.state.now in
    let read : tool_of m s ≡ c.read.new.self = sym (c.requires.tool s) ∙ sym c.read.ensures in
    let by : Subject → Facts = λ x. record { rate = subject_rate s x; units = subject_stored m.config.granularity s x } in
    let facts : command_facts m s c.args.command.now ≡ c.facts_at-facts.result = sym (c.facts_at-facts.ensures ∙ ap by (c.subject-subject.ensures m s read)) in
    c.judge.ensures m s read facts (facts-kept m s c.args.command.now (stands-recorded m s c.requires.stands))
