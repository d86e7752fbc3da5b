use Rattle.sched_model.proofs.PlaceLemmas.{slice_set-changed}
use Rattle.scheduler_records.proofs.rtds.put_item.Goals as goal

pub returns-in-Some : goal.returns-in-Some
returns-in-Some c = slice_set-changed c.args.index (λ x. c.args.unit) c.args.units.now c.in-Some.there.now c.in-Some.ensures.value
