use Rattle.std.proofs.Common.{w64}
use Rattle.std.proofs.lemmas.Int.{to_z-of_z}
use Rattle.sched_model.specs.declared.state.Credit2Unit.{Credit2Unit}
use Rattle.sched_model.proofs.PlaceLemmas.{slice_set-changed}
use Rattle.scheduler_records.proofs.credit2_units.set_held.Goals as goal

pub returns-in-Some : goal.returns-in-Some
returns-in-Some c =
    let same = to_z-of_z w64 c.args.held c.ranges.held in
    rw same (slice_set-changed c.args.index (λ (x : Credit2Unit). record x { held = c.args.held }) c.args.units.now c.in-Some.u.now c.in-Some.ensures.value)
