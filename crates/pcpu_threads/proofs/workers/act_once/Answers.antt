use Rattle.std.proofs.Common.{subst}
use Rattle.hall.specs.declared.turns.Done.{Done}
use Rattle.hall.specs.Turns.{IsDone}
use Rattle.pcpu_threads.proofs.Working.{acts-said, full-rests, nothing-rests, took-said}
use Rattle.pcpu_threads.proofs.workers.act_once.Goals as goal

pub returns-in-Ok-Event-clause-acts : goal.returns-in-Ok-Event-clause-acts
returns-in-Ok-Event-clause-acts g c = let e = c.act.ensures in acts-said c.args.actor c.args.seat.now c.act.new.seat e.stays c.act.result e.done e.full

pub returns-in-Ok-Nothing-clause-acts : goal.returns-in-Ok-Nothing-clause-acts
returns-in-Ok-Nothing-clause-acts g c = let e = c.act.ensures in acts-said c.args.actor c.args.seat.now c.act.new.seat e.stays c.act.result e.done e.full

pub returns-in-Err-clause-acts : goal.returns-in-Err-clause-acts
returns-in-Err-clause-acts g c = let e = c.act.ensures in acts-said c.args.actor c.args.seat.now c.act.new.seat e.stays c.act.result e.done e.full

pub returns-in-Ok-Nothing-clause-rests : goal.returns-in-Ok-Nothing-clause-rests
returns-in-Ok-Nothing-clause-rests g c = λ no.
    let told = subst (λ (d : Done). IsDone c.args.actor d c.args.seat.now c.act.new.seat) c.in-Ok-Nothing.field-0-is c.in-Ok-Nothing.ensures.done in
    nothing-rests c.args.actor c.args.seat.now c.act.new.seat told.0

pub returns-in-Err-clause-rests : goal.returns-in-Err-clause-rests
returns-in-Err-clause-rests g c = λ no. full-rests c.args.actor c.args.seat.now c.act.new.seat c.act.ensures.stays c.in-Err.field-0 c.in-Err.ensures.full

pub returns-in-Ok-Event-clause-took : goal.returns-in-Ok-Event-clause-took
returns-in-Ok-Event-clause-took g c = let e = c.act.ensures in took-said c.args.actor c.act.result c.args.seat.now c.act.new.seat e.done e.full

pub returns-in-Ok-Nothing-clause-took : goal.returns-in-Ok-Nothing-clause-took
returns-in-Ok-Nothing-clause-took g c = let e = c.act.ensures in took-said c.args.actor c.act.result c.args.seat.now c.act.new.seat e.done e.full

pub returns-in-Err-clause-took : goal.returns-in-Err-clause-took
returns-in-Err-clause-took g c = let e = c.act.ensures in took-said c.args.actor c.act.result c.args.seat.now c.act.new.seat e.done e.full
