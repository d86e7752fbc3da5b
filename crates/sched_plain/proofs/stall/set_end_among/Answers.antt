use Rattle.std.proofs.Common.{ap}
use Rattle.sched_base.specs.Numbers.{moment}
use Rattle.sched_base.specs.declared.Moment.{Moment}
use Rattle.sched_model.specs.declared.state.FreeCore.{FreeCore}
use Rattle.std.specs.Prelude.{List}
use Rattle.sched_model.proofs.PlaceLemmas.{slice_set-changed}
use Rattle.sched_plain.proofs.stall.set_end_among.Goals as goal

pub returns-in-Some : goal.returns-in-Some
returns-in-Some c = ap (λ (ends : List Moment). let core : FreeCore = record c.args.core.now { stall_ends = ends } in core) (slice_set-changed c.args.place (λ old. moment c.args.end) c.args.core.now.stall_ends c.in-Some.old.now c.in-Some.ensures.value)
