use Rattle.sched_model.specs.declared.state.Credit2Unit.{Credit2Unit}
use Rattle.sched_model.proofs.PlaceLemmas.{slice_set-changed}
use Rattle.scheduler_records.proofs.credit2_units.set_burned.Goals as goal

pub returns-in-Some : goal.returns-in-Some
returns-in-Some c = rw (slice_set-changed c.args.index (λ (x : Credit2Unit). record x { burned = c.args.from }) c.args.d.now.units c.in-Some.u.now c.in-Some.ensures.value)
