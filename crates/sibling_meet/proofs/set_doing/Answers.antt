use Rattle.sched_model.specs.Pool.{with_doing}
use Rattle.sched_model.proofs.PlaceLemmas.{slice_set-changed}
use Rattle.sibling_meet.proofs.set_doing.Goals as goal

pub returns-in-Some : goal.returns-in-Some
returns-in-Some c = rw (slice_set-changed c.args.i (with_doing c.args.doing) c.args.core.now.processors c.in-Some.p.now c.in-Some.ensures.value)
