use Rattle.xensched_top.proofs.WrittenLemmas.{written_failed, written_rest}
use Rattle.xensched_top.proofs.free.put_rest.Goals as goal

pub returns-then-writing-clause-written : goal.returns-then-writing-clause-written
returns-then-writing-clause-written g c = λ limit m out run. written_failed g.K.Sink.told g.K.Sink.faults limit m c.args.rest.now out c.args.writing.now c.args.sink.now run c.if-writing.true

pub returns-clause-written : goal.returns-clause-written
returns-clause-written g c = λ limit m out run.
    (let e = c.put_entries.ensures in written_rest g.K.Sink.told g.K.Sink.faults limit m c.args.rest.now out c.args.writing.now c.args.sink.now run c.put_entries.new.sink c.put_entries.result c.if-writing.false e.whole e.part e.counts e.cause)
