use Rattle.std.proofs.Common.{◌≡◌, drop}
use Rattle.std.specs.Prelude.{filter}
use Rattle.sched_model.specs.declared.state.Records.TheVariants.{RtdsPool}
use Rattle.sched_model.specs.EligibleUnits.{is_unit_eligible}
use Rattle.sched_model.specs.Rtds.{first_of_units}
use Rattle.scheduler_records.specs.Parts.{scheduler_of}
use Rattle.plain_schedulers.proofs.rtds.foremost.Given as goal

abbrev pub invariant-loop-u : goal.invariant-loop-u
invariant-loop-u l =
    let test = is_unit_eligible (scheduler_of l.queue l.affinity (RtdsPool l.domains)) l.ask.home.0 l.ask.core.0 l.ask.at.0 in
    first_of_units l.domains l.best (filter test (drop l.u-index l.queue)) ≡ first_of_units l.domains l.initial.best (filter test l.queue)
