use Rattle.std.proofs.Common.{false}
use Rattle.command_line.specs.declared.command.Form.TheVariants as form
use Rattle.xensched_top.proofs.WritesLemmas.{looks_output, writes_ended, writes_part, ended_puts}
use Rattle.xensched_top.proofs.watched.put_watched.Goals as goal

pub returns-in-Ok-clause-written : goal.returns-in-Ok-clause-written
returns-in-Ok-clause-written g c = λ m ended.
    writes_ended false form.Watch c.args.limit m c.args.book.now.history c.args.end _ _ _ _ _ _ c.status_of.ensures ended
    (looks_output m c.args.book.now.history c.args.looks.now.items c.requires.looks) c.in-Ok.ensures.whole

pub returns-in-Ok-clause-nothing : goal.returns-in-Ok-clause-nothing
returns-in-Ok-clause-nothing g c = λ h. absurd (ended_puts c.args.limit c.args.end _ c.status_of.ensures h)

pub returns-in-Err-clause-written : goal.returns-in-Err-clause-written
returns-in-Err-clause-written g c = λ m ended.
    writes_part false form.Watch c.args.limit m c.args.book.now.history c.args.end _ _ _ _ _ ended
    (looks_output m c.args.book.now.history c.args.looks.now.items c.requires.looks) c.in-Err.ensures.part c.in-Err.ensures.cause
