use Rattle.std.proofs.Common.{sym, ◌∙◌}
use Rattle.std.specs.Option.{ForSome}
use Rattle.sched_laws.specs.RecordRanges.{IsFrame}
use Rattle.arinc_frame.proofs.arinc.frame_of.Goals as goal

pub returns-in-Arinc653-clause-frame : goal.returns-in-Arinc653-clause-frame
returns-in-Arinc653-clause-frame c = λ x e. (let fits : ForSome c.in-Arinc653.frame IsFrame = rw c.in-Arinc653.is at c.requires in fits x (sym c.same_frame.ensures ∙ e))
