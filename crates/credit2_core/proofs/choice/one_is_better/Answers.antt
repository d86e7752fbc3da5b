use Rattle.std.proofs.Common.{◌≡◌, ◌∙◌, ℕ, sym, ap, refl, true, false}
use Rattle.std.specs.Prelude.{List, Option, Some, None}
use Rattle.sched_base.specs.declared.UnitId.{UnitId}
use Rattle.sched_model.specs.declared.state.Credit2Records.{Credit2Records}
use Rattle.sched_model.specs.Credit2.{has_domain_budget, is_rate_limited}
use Rattle.sched_model.specs.EligibleUnits.{is_allowed_by}
use Rattle.arrival_queue.specs.Queues.{Queued}
use Rattle.queue_laws.specs.Arrivals.{arrivals}
use Rattle.credit2_core.specs.Choice.{best_of, may_take, is_better_of, first_ready_unit}
use Rattle.credit2_core.proofs.Waiting.{first_greatest, none_better}
use Rattle.credit2_core.proofs.choice.one_is_better.Goals as goal

-- within the rate limit no unit is better
none_within : (records : Credit2Records) (own : UnitId) (since t : ℕ) (o : Option UnitId) → is_rate_limited records since t ≡ true → is_better_of records own since t o ≡ false
none_within records own since t None within = refl
none_within records own since t (Some u) within = rw within refl

pub returns-then-is_within_limit : goal.returns-then-is_within_limit
returns-then-is_within_limit c =
    let state = c.args.state.now in
    let within : is_rate_limited state.records c.args.since.0 c.args.t.0 ≡ true = sym c.is_within_limit.ensures ∙ c.if-is_within_limit.true in
    sym (none_within state.records c.args.own c.args.since.0 c.args.t.0 (best_of (arrivals state.queue.units) state.affinity c.args.home.0 c.args.core.0 state.records) within)

pub returns-then-not-better_than : goal.returns-then-not-better_than
returns-then-not-better_than c =
    let state = c.args.state.now in
    let records : Credit2Records = state.records in
    let es : List Queued = state.queue.units in
    let own : UnitId = c.args.own in
    let out : is_rate_limited records c.args.since.0 c.args.t.0 ≡ false = sym c.is_within_limit.ensures ∙ c.if-is_within_limit.false in
    let worse_first : is_better_of records own c.args.since.0 c.args.t.0 (first_ready_unit records es) ≡ false =
    ap (is_better_of records own c.args.since.0 c.args.t.0) (sym c.requires.ready.first) ∙ sym (c.better_than.ensures c.args.since.0 out) ∙ c.if-not-better_than.true
    in
    sym (
    ap (is_better_of records own c.args.since.0 c.args.t.0) (sym (first_greatest records (may_take state.affinity c.args.home.0 c.args.core.0 records) es (record { order = c.law_order.ensures.order; ranks = c.law_order.ensures.ranks; units = c.law_order.ensures.units }) c.requires.sound.line.keys))
    ∙ none_better records own c.args.since.0 c.args.t.0 (is_allowed_by state.affinity c.args.home.0 c.args.core.0) (has_domain_budget records) es c.law_order.ensures.order c.requires.sound.line.keys worse_first
    )

pub returns : goal.returns
returns c =
    let state = c.args.state.now in
    let out : is_rate_limited state.records c.args.since.0 c.args.t.0 ≡ false = sym c.is_within_limit.ensures ∙ c.if-is_within_limit.false in
    c.better_than-2.ensures c.args.since.0 out ∙ ap (is_better_of state.records c.args.own c.args.since.0 c.args.t.0) c.best_ready-best.ensures
