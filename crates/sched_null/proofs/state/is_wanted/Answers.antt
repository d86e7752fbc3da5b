use Rattle.std.proofs.Common.{sym, ◌∙◌, ap}
use Rattle.std.specs.Prelude.{is_some, not}
use Rattle.sched_model.specs.declared.state.Records.TheVariants.{NullPool}
use Rattle.sched_model.specs.EligibleUnits.{is_unit_eligible, is_allowed_by}
use Rattle.scheduler_records.specs.Parts.{scheduler_of}
use Rattle.sched_null.proofs.Choosing.{any_is_first, only_where_barred}
use Rattle.sched_null.proofs.state.is_wanted.Goals as goal

pub returns-then-waits : goal.returns-then-waits
returns-then-waits c since t =
    let u = c.args.units.now in
    rw c.in-None.is
    (c.is_some.ensures ∙ ap is_some c.first_eligible.ensures ∙ sym (any_is_first (is_unit_eligible (scheduler_of u.queue u.affinity (NullPool c.args.kept.now)) c.args.home.0 c.args.core.0 0) u.queue))

pub returns-in-Some : goal.returns-in-Some
returns-in-Some c since t =
    let u = c.args.units.now in
    rw c.in-Some.is
    (ap not c.is_allowed.ensures ∙ only_where_barred (is_allowed_by u.affinity c.args.home.0 c.args.core.0 c.in-Some.own) (is_unit_eligible (scheduler_of u.queue u.affinity (NullPool c.args.kept.now)) c.args.home.0 c.args.core.0 0) u.queue)
