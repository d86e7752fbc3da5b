use Rattle.std.proofs.Common.{◌∙◌, false, refl, ap, sym, subst}
use Rattle.std.specs.Prelude.{is_ok}
use Rattle.command_line.specs.declared.command.Form.TheVariants as form
use Rattle.sched_print.specs.Line.{text}
use Rattle.xensched_top.specs.Ends.{run_status}
use Rattle.xensched_top.specs.Answers.{Writes}
use Rattle.xensched_top.specs.declared.status.Status.{Status}
use Rattle.xensched_top.proofs.EntryLemmas.{ok_holds}
use Rattle.xensched_top.proofs.WritesLemmas.{text_output, writes_ended, writes_nothing, writes_part}
use Rattle.xensched_top.proofs.free.write_schedule.Goals.{in-Ok-put_rest, in-Err-put_rest}
use Rattle.xensched_top.proofs.free.write_schedule.Goals as goal

pub returns-after-put_rest-clause-written : goal.returns-after-put_rest-clause-written
returns-after-put_rest-clause-written g c =
    let x = c.put_rest.ensures.written c.args.limit c.args.machine c.args.sink.now c.in-Ok.ensures.run in
    elim c.match-put_rest.branch [
      | in-Ok-put_rest w ↦
          writes_ended false form.Schedule c.args.limit c.args.machine x.entries c.in-Ok.rest.end _ _ _ _ c.match-put_rest.status (text x.entries)
          (w.status-is ∙ w.status_of-status.ensures ∙ ap (run_status c.args.limit) (w.end.ensures ∙ ok_holds c.put_rest.ensures.ending refl w.in-Ok-put_rest.is))
          x.ended (text_output c.args.machine x.entries) (x.all (ap is_ok w.in-Ok-put_rest.is))
      | in-Err-put_rest w ↦
          subst (λ (s : Status). Writes false form.Schedule c.args.limit c.args.machine (g.K.Sink.told c.args.sink.now) (g.K.Sink.told c.put_rest.new.sink) (g.K.Sink.faults c.args.sink.now) (g.K.Sink.faults c.put_rest.new.sink) s) (sym w.status-is)
          (writes_part false form.Schedule c.args.limit c.args.machine x.entries c.in-Ok.rest.end _ _ _ _ (text x.entries) x.ended (text_output c.args.machine x.entries) (x.part (ap is_ok w.in-Err-put_rest.is)) (x.cause (ap is_ok w.in-Err-put_rest.is)))
    ]

pub returns-in-Err-clause-written : goal.returns-in-Err-clause-written
returns-in-Err-clause-written g c = writes_nothing _ _ _ _ _ _ _ _
