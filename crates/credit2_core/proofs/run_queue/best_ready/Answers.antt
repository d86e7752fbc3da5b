use Rattle.std.proofs.Common.{◌≡◌, ◌∙◌, sym, true}
use Rattle.std.specs.Prelude.{List, Some, None}
use Rattle.sched_base.specs.declared.UnitId.{UnitId}
use Rattle.sched_model.specs.declared.state.Credit2Records.{Credit2Records}
use Rattle.sched_model.specs.Credit2.{has_domain_budget}
use Rattle.sched_model.specs.EligibleUnits.{is_allowed_by}
use Rattle.arrival_queue.specs.Queues.{Queued}
use Rattle.credit2_core.specs.Choice.{may_take, first_ready_unit}
use Rattle.sched_ops.specs.Affinity.{is_member_among}
use Rattle.credit2_core.proofs.Kept.{first_has}
use Rattle.credit2_core.proofs.Lists.{queued_have}
use Rattle.credit2_core.proofs.Waiting.{first_greatest, first_of_none, first_of_both}
use Rattle.credit2_core.proofs.run_queue.best_ready.Goals as goal

pub returns-in-None : goal.returns-in-None
returns-in-None c =
    let state = c.args.state.now in
    let records : Credit2Records = state.records in
    let es : List Queued = state.queue.units in
    let none : first_ready_unit records es ≡ None = sym c.requires.ready.first ∙ c.in-None.is in
    sym (
    sym (first_greatest records (may_take state.affinity c.args.home.0 c.args.core.0 records) es (record { order = c.law_order.ensures.order; ranks = c.law_order.ensures.ranks; units = c.law_order.ensures.units }) c.requires.line.keys)
    ∙ first_of_none (is_allowed_by state.affinity c.args.home.0 c.args.core.0) (has_domain_budget records) es none
    )

pub returns-then-may_be_on : goal.returns-then-may_be_on
returns-then-may_be_on c =
    let state = c.args.state.now in
    let records : Credit2Records = state.records in
    let es : List Queued = state.queue.units in
    let u : UnitId = c.in-Some.u in
    let found : first_ready_unit records es ≡ Some u = sym c.requires.ready.first ∙ c.in-Some.is in
    let passes : is_allowed_by state.affinity c.args.home.0 c.args.core.0 u ≡ true =
    sym c.may_be_on.ensures ∙ c.if-may_be_on.true
    in
    sym (
    sym (first_greatest records (may_take state.affinity c.args.home.0 c.args.core.0 records) es (record { order = c.law_order.ensures.order; ranks = c.law_order.ensures.ranks; units = c.law_order.ensures.units }) c.requires.line.keys)
    ∙ first_of_both (is_allowed_by state.affinity c.args.home.0 c.args.core.0) (has_domain_budget records) es u found passes
    )

pub may_be_on-requires-clause-joined : goal.may_be_on-requires-clause-joined
may_be_on-requires-clause-joined c =
    let state = c.args.state.now in
    let es : List Queued = state.queue.units in
    first_has (λ u. is_member_among state.affinity u ≡ true) (has_domain_budget state.records) es c.in-Some.u (queued_have (λ u. is_member_among state.affinity u ≡ true) es c.requires.line.joined) (sym c.requires.ready.first ∙ c.in-Some.is)
