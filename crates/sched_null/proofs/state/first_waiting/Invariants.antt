use Rattle.std.proofs.Common.{◌≡◌, drop}
use Rattle.std.specs.Prelude.{filter}
use Rattle.sched_model.specs.declared.state.Records.TheVariants.{NullPool}
use Rattle.sched_model.specs.EligibleUnits.{is_unit_eligible}
use Rattle.sched_model.specs.NullScheduler.{earliest_unit}
use Rattle.scheduler_records.specs.Parts.{scheduler_of}
use Rattle.sched_null.proofs.state.first_waiting.Given as goal

abbrev pub invariant-loop-u : goal.invariant-loop-u
invariant-loop-u l =
    let may_have = is_unit_eligible (scheduler_of l.waiting l.affinity (NullPool l.kept)) l.home.0 l.core.0 0 in
    earliest_unit (filter may_have (drop l.u-index l.waiting)) ≡ earliest_unit (filter may_have l.waiting)
