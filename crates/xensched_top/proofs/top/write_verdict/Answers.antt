use Rattle.std.proofs.Common.{ap, sym}
use Rattle.xensched_top.specs.Answers.{answer_to}
use Rattle.xensched_top.proofs.TopLemmas.{judges_it, writes_verdict, writes_part_of_verdict, writes_no_verdict}
use Rattle.xensched_top.proofs.top.write_verdict.Goals as goal

pub returns-in-Err-clause-written : goal.returns-in-Err-clause-written
returns-in-Err-clause-written g c =
    writes_no_verdict c.args.ordered c.args.machine c.args.schedule.now (g.K.Sink.told c.args.sink.now) (g.K.Sink.told c.args.sink.now) (g.K.Sink.faults c.args.sink.now) (g.K.Sink.faults c.args.sink.now)

pub returns-in-Yes-clause-written : goal.returns-in-Yes-clause-written
returns-in-Yes-clause-written g c =
    writes_verdict c.args.ordered c.args.machine c.args.schedule.now (g.K.Sink.told c.args.sink.now) (g.K.Sink.told c.put_verdict.new.sink) (g.K.Sink.faults c.args.sink.now) (g.K.Sink.faults c.put_verdict.new.sink) c.in-Ok.verdict _ (sym (ap answer_to c.in-Yes.is)) (judges_it c.no_is_no_run.ensures c.args.machine c.requires.checked c.args.ordered c.args.schedule.now c.in-Ok.verdict c.in-Ok.ensures.verdict) c.in-Ok-put_verdict.ensures.whole

pub returns-in-No-clause-written : goal.returns-in-No-clause-written
returns-in-No-clause-written g c =
    writes_verdict c.args.ordered c.args.machine c.args.schedule.now (g.K.Sink.told c.args.sink.now) (g.K.Sink.told c.put_verdict.new.sink) (g.K.Sink.faults c.args.sink.now) (g.K.Sink.faults c.put_verdict.new.sink) c.in-Ok.verdict _ (sym (ap answer_to c.in-No.is)) (judges_it c.no_is_no_run.ensures c.args.machine c.requires.checked c.args.ordered c.args.schedule.now c.in-Ok.verdict c.in-Ok.ensures.verdict) c.in-Ok-put_verdict.ensures.whole

pub returns-in-Err-put_verdict-clause-written : goal.returns-in-Err-put_verdict-clause-written
returns-in-Err-put_verdict-clause-written g c =
    writes_part_of_verdict c.args.ordered c.args.machine c.args.schedule.now (g.K.Sink.told c.args.sink.now) (g.K.Sink.told c.put_verdict.new.sink) (g.K.Sink.faults c.args.sink.now) (g.K.Sink.faults c.put_verdict.new.sink) c.in-Ok.verdict (judges_it c.no_is_no_run.ensures c.args.machine c.requires.checked c.args.ordered c.args.schedule.now c.in-Ok.verdict c.in-Ok.ensures.verdict) c.in-Err-put_verdict.ensures.part c.in-Err-put_verdict.ensures.cause
