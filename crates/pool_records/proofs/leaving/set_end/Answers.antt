use Rattle.sched_model.proofs.PlaceLemmas.{slice_set-changed}
use Rattle.pool_records.specs.Cores.{stalled_to}
use Rattle.pool_records.proofs.leaving.set_end.Goals as goal

pub returns-in-Some : goal.returns-in-Some
returns-in-Some c = slice_set-changed c.args.sibling (stalled_to c.args.end) c.args.processors.now c.in-Some.p.now c.in-Some.ensures.value
