use Rattle.std.proofs.Common.{◌≤◌, rules}
use Rattle.command_line.specs.Commands.{asked_of}
use Rattle.xensched_top.specs.Answers.{Outcome}
use Rattle.xensched_top.specs.Words.{task_in}
use Rattle.xensched_top.proofs.HandingLemmas.{handed_outcome}
use Rattle.xensched_top.proofs.top.carry_out.Goals.{in-Run, in-Make, in-Load, in-Check}
use Rattle.xensched_top.proofs.top.carry_out.Goals as goal

pub returns-clause-outcome : goal.returns-clause-outcome
returns-clause-outcome g c =
    let count : g.K.Sink.faults c.args.sink.now ≤ g.K.Sink.faults c.match-command.sink =
    elim c.match-command.branch [ in-Run w ↦ search rules | in-Make w ↦ search rules | in-Load w ↦ search rules | in-Check w ↦ search rules ] in
    let outcome : Outcome (g.S.Store.held c.args.store.now) (g.S.Store.faults c.args.store.now) (g.S.Store.faults c.match-command.store) (g.K.Sink.told c.args.sink.now) (g.K.Sink.told c.match-command.sink)
    (g.K.Sink.faults c.args.sink.now) (g.K.Sink.faults c.match-command.sink) (task_in (asked_of c.args.command)) c.match-command.status =
    elim c.match-command.branch [ in-Run w ↦ search rules | in-Make w ↦ search rules | in-Load w ↦ search rules | in-Check w ↦ search rules ] in
    handed_outcome (g.S.Store.held c.args.store.now) (g.S.Store.faults c.args.store.now) (g.S.Store.faults c.match-command.store) (g.K.Sink.told c.args.sink.now) (g.K.Sink.told c.hand_on.new.sink)
    (g.K.Sink.faults c.args.sink.now) (g.K.Sink.faults c.match-command.sink) (g.K.Sink.faults c.hand_on.new.sink) (task_in (asked_of c.args.command)) (g.K.Sink.told c.match-command.sink)
    c.match-command.status c.hand_on.result c.hand_on.ensures.told count c.hand_on.ensures.counts outcome c.hand_on.ensures.answer
