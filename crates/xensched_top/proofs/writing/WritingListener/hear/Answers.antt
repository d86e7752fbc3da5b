use Rattle.std.proofs.Common.{◌∙◌}
use Rattle.xensched_top.proofs.WrittenLemmas.{put_line, put_no_more}
use Rattle.xensched_top.proofs.writing.WritingListener.hear.Goals as goal

pub returns-then-self : goal.returns-then-self
returns-then-self g c = λ first out entries was. put_no_more g.K.Sink.told g.K.Sink.faults first out entries c.args.entry.now c.args.self.now c.args.outlet.now was c.if-self.true

pub returns : goal.returns
returns g c = λ first out entries was.
    put_line g.K.Sink.told g.K.Sink.faults first out entries c.args.entry.now c.args.self.now c.args.outlet.now was (record { line = c.set.new.self; failed = c.is_err-self.result }) c.put.new.self c.as_bytes.result.now c.put.result
    c.if-self.false (c.as_bytes.ensures.bytes ∙ c.set.ensures) c.is_err-self.ensures.value c.put.ensures.appended c.put.ensures.prefix c.put.ensures.counts c.put.ensures.cause
