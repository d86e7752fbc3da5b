use Rattle.std.proofs.Common.{rules, ◌∙◌}
use Rattle.sched_io.specs.Puts.{AddsPart}
use Rattle.sched_print.specs.Line.{text}
use Rattle.xensched_top.proofs.EntryLemmas.{put_fails, put_one}
use Rattle.xensched_top.proofs.output.put_entries.Goals as goal

pub loop-entry-preserved : goal.loop-entry-preserved
loop-entry-preserved g c = (
  put_one c.in-Some.entry c.as_bytes.result.now c.loop-entry.invariant.0 c.in-Some.ensures.some (c.as_bytes.ensures.bytes ∙ c.set.ensures) c.in_ok-put.ensures.appended c.put.ensures.counts,
  c.next.ensures.ending ∙ c.loop-entry.invariant.1,
)

pub returns-in_err-put-clause-part : goal.returns-in_err-put-clause-part
returns-in_err-put-clause-part g c =
    let part : AddsPart (g.K.Sink.told c.args.sink.now) (g.K.Sink.told c.put.new.self) (text (g.E.Entries.coming c.args.entries.now)) =
    put_fails c.in-Some.entry c.as_bytes.result.now c.loop-entry.invariant.0 c.in-Some.ensures.some (c.as_bytes.ensures.bytes ∙ c.set.ensures) c.in_err-put.ensures.prefix in
    search (rules, part)
