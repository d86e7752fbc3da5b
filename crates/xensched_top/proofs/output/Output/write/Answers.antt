use Rattle.std.proofs.Common.{ap, sym, subst, ◌∙◌}
use Rattle.sched_io.specs.Faults.{Rose}
use Rattle.sched_io.specs.Puts.{Adds, AddsPart}
use Rattle.sched_print.specs.Line.{text}
use Rattle.sched_report.specs.Lines.{text_of_report}
use Rattle.sched_report.specs.Reports.{report_of}
use Rattle.xensched_top.specs.Ends.{run_status}
use Rattle.xensched_top.specs.Outputs.{HasNothing}
use Rattle.xensched_top.proofs.EntryLemmas.{ok_holds, err_holds}
use Rattle.xensched_top.proofs.WritesLemmas.{report_output, schedule_output, writes_ended, writes_part}
use Rattle.xensched_top.proofs.output.Output.write.Goals.{in-Schedule, in-Report}
use Rattle.xensched_top.proofs.output.Output.write.Goals as goal

pub add_entries-requires-clause-empty : goal.add_entries-requires-clause-empty
add_entries-requires-clause-empty g c = subst HasNothing c.in-Report.is c.requires.nothing

pub returns-in-Ok-clause-written : goal.returns-in-Ok-clause-written
returns-in-Ok-clause-written g c = λ ordered f m for_it ended.
    elim c.match-self.branch [
      | in-Schedule w ↦
          writes_ended ordered f c.args.limit m (g.E.Entries.coming c.args.entries.now) (g.E.Entries.ending c.args.entries.now) (g.K.Sink.told c.args.sink.now) (g.K.Sink.told c.match-self.sink) _ _ c.status_of.result _
          (c.status_of.ensures ∙ ap (run_status c.args.limit) (c.end.ensures ∙ ap g.E.Entries.ending w.entries-is ∙ w.put_entries-put.ensures.ending))
          ended (schedule_output f m c.args.self (g.E.Entries.coming c.args.entries.now) w.in-Schedule.is for_it)
          (subst (λ s. Adds (g.K.Sink.told c.args.sink.now) (g.K.Sink.told s) (text (g.E.Entries.coming c.args.entries.now))) (sym w.sink-is) (ok_holds w.put_entries-put.ensures.whole w.put-is c.in-Ok.is))
      | in-Report w ↦
          writes_ended ordered f c.args.limit m (g.E.Entries.coming c.args.entries.now) (g.E.Entries.ending c.args.entries.now) (g.K.Sink.told c.args.sink.now) (g.K.Sink.told c.match-self.sink) _ _ c.status_of.result _
          (c.status_of.ensures ∙ ap (run_status c.args.limit) (c.end.ensures ∙ ap g.E.Entries.ending w.entries-is ∙ w.add_entries.ensures.ending))
          ended (report_output f m c.args.self w.in-Report.report w.add_entries.new.report.config w.add_entries.new.report.entries (g.E.Entries.coming c.args.entries.now) w.in-Report.is for_it w.add_entries.ensures.config w.add_entries.ensures.entries)
          (subst (λ s. Adds (g.K.Sink.told c.args.sink.now) (g.K.Sink.told s) (text_of_report (report_of w.add_entries.new.report.config w.add_entries.new.report.entries))) (sym w.sink-is) (ok_holds w.put_report-put.ensures.whole w.put-is c.in-Ok.is))
    ]

pub returns-in-Err-clause-written : goal.returns-in-Err-clause-written
returns-in-Err-clause-written g c = λ ordered f m for_it ended.
    elim c.match-self.branch [
      | in-Schedule w ↦
          writes_part ordered f c.args.limit m (g.E.Entries.coming c.args.entries.now) (g.E.Entries.ending c.args.entries.now) (g.K.Sink.told c.args.sink.now) (g.K.Sink.told c.match-self.sink) _ _ _
          ended (schedule_output f m c.args.self (g.E.Entries.coming c.args.entries.now) w.in-Schedule.is for_it)
          (subst (λ s. AddsPart (g.K.Sink.told c.args.sink.now) (g.K.Sink.told s) (text (g.E.Entries.coming c.args.entries.now))) (sym w.sink-is) (err_holds w.put_entries-put.ensures.part w.put-is c.in-Err.is))
          (subst (λ s. Rose (g.K.Sink.faults c.args.sink.now) (g.K.Sink.faults s)) (sym w.sink-is) (err_holds w.put_entries-put.ensures.cause w.put-is c.in-Err.is))
      | in-Report w ↦
          writes_part ordered f c.args.limit m (g.E.Entries.coming c.args.entries.now) (g.E.Entries.ending c.args.entries.now) (g.K.Sink.told c.args.sink.now) (g.K.Sink.told c.match-self.sink) _ _ _
          ended (report_output f m c.args.self w.in-Report.report w.add_entries.new.report.config w.add_entries.new.report.entries (g.E.Entries.coming c.args.entries.now) w.in-Report.is for_it w.add_entries.ensures.config w.add_entries.ensures.entries)
          (subst (λ s. AddsPart (g.K.Sink.told c.args.sink.now) (g.K.Sink.told s) (text_of_report (report_of w.add_entries.new.report.config w.add_entries.new.report.entries))) (sym w.sink-is) (err_holds w.put_report-put.ensures.part w.put-is c.in-Err.is))
          (subst (λ s. Rose (g.K.Sink.faults c.args.sink.now) (g.K.Sink.faults s)) (sym w.sink-is) (err_holds w.put_report-put.ensures.cause w.put-is c.in-Err.is))
    ]
