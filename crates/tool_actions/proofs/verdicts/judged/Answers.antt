use Rattle.std.proofs.Common.{◌≡◌, ◌∙◌, ap, ap₂, sym}
use Rattle.sched_model.specs.declared.facts.Facts.{Facts}
use Rattle.sched_model.specs.declared.facts.Subject.{Subject}
use Rattle.cpupool.specs.Facts.{command_facts, subject_rate, subject_stored}
use Rattle.machine_parts.specs.Places.{state_of}
use Rattle.cpupool.proofs.FactLemmas.{facts-kept}
use Rattle.tool_actions.proofs.Judgement.{recorded}
use Rattle.tool_actions.proofs.verdicts.judged.Goals as goal

pub returns : goal.returns
returns c =
    let w = c.args.trail.now in
    let m = w.input in
    let s = state_of w in
    let known = c.requires.parts.known in
    let by : Subject → Facts = λ x. record { rate = subject_rate s x; units = subject_stored m.config.granularity s x } in
    let facts : command_facts m s c.args.command.now ≡ c.facts_of-facts.result = sym (ap₂ (λ r u. let x : Facts = record { rate = r; units = u } in x) c.facts_of-facts.ensures.rate c.facts_of-facts.ensures.units ∙ ap by (c.subject.ensures m s known)) in
    c.judge.ensures m s known facts (facts-kept w.input (state_of w) c.args.command.now (recorded w c.requires.parts.goes))
