use Rattle.std.proofs.Common.{◌≡◌, ◌∙◌, ap}
use Rattle.std.specs.Prelude.{List, Bool, None, ◌&&◌}
use Rattle.sched_base.specs.declared.UnitId.{UnitId}
use Rattle.sched_model.specs.Credit2.{richest_unit}
use Rattle.sched_model.specs.declared.state.Credit2Records.{Credit2Records}
use Rattle.arrival_queue.specs.Filters.{has_core_bit, may_run, first_that}
use Rattle.arrival_queue.specs.Queues.{Queued}
use Rattle.queue_laws.specs.Arrivals.{arrivals}
use Rattle.credit2_core.specs.Choice.{may_take}
use Rattle.credit2_core.proofs.Tables.{filter-same, passes_each}
use Rattle.credit2_core.proofs.Waiting.{first_greatest}
use Rattle.credit2_core.proofs.run_queue.best_waiting.Goals as goal

pub returns : goal.returns
returns c =
    let state = c.args.state.now in
    let records : Credit2Records = state.records in
    let es : List Queued = state.queue.units in
    let p : UnitId → Bool = λ u. has_core_bit c.args.runnable.0 u.dom.0 && may_run state.masks (record { 0 = c.args.core.0 }) (record { 0 = c.args.home.0 }) u in
    let found : c.first_on.result ≡ first_that p es = c.first_on.ensures in
    found
    ∙ first_greatest records p es (record { order = c.law_order.ensures.order; ranks = c.law_order.ensures.ranks; units = c.law_order.ensures.units }) c.requires.line.keys
    ∙ ap (richest_unit records None) (filter-same p (may_take state.affinity c.args.home.0 c.args.core.0 records) (arrivals es) (passes_each state.affinity state.masks records c.args.runnable.0 c.args.core.0 c.args.home.0 (arrivals es) c.requires.set c.requires.masks c.requires.line.joined))
