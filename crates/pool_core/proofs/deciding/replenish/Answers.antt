use Rattle.std.proofs.Common.{◌≡◌, ℕ, refl, sym, ap, ◌∙◌}
use Rattle.sched_base.specs.Numbers.{span}
use Rattle.sched_base.specs.declared.Span.{Span}
use Rattle.std.specs.Prelude.{Option, Some, None, ◌||◌}
use Rattle.sched_model.specs.declared.state.Pool.{Pool}
use Rattle.sched_model.specs.declared.state.RtdsUnit.{RtdsUnit}
use Rattle.sched_model.specs.Places.{has_listed_unit}
use Rattle.sched_model.specs.Policy.{records_after_replenish, is_replenish_due, unit_rtds_record}
use Rattle.sched_model.specs.Pool.{due_within}
use Rattle.sched_base.proofs.Bools.{and_right}
use Rattle.core_state.specs.Seen.{Seen as CoresSeen, changed_core}
use Rattle.sched_ops.specs.Conditions.{is_on}
use Rattle.sched_ops.specs.Seen.{Seen as SchedulerSeen}
use Rattle.pool_core.specs.Seen.{pool_of}
use Rattle.pool_core.proofs.Replenishing.{budget_of, is_replenished}
use Rattle.pool_core.proofs.deciding.replenish.Goals as goal

pub returns-in-Some-clause-pool : goal.returns-in-Some-clause-pool
returns-in-Some-clause-pool g c guests =
    let pool : Pool = pool_of guests c.args.cores.now (g.P.Policy.seen c.args.policy.now) in
    let due = and_right (has_listed_unit pool.scheduler.queue c.args.u || is_on pool.scheduler.records c.args.u) (is_replenish_due pool.scheduler.records c.args.t.0 c.args.u) c.requires.due in
    let budget : c.in-Repl.budget.0 ≡ elim (unit_rtds_record (records_after_replenish pool.scheduler.records c.args.t.0 c.args.u) c.args.u) as (λ _. ℕ) [ None ↦ 0 | Some x ↦ x.budget ] =
    ap budget_of c.in-Repl.ensures.event ∙ by_record (unit_rtds_record (records_after_replenish pool.scheduler.records c.args.t.0 c.args.u) c.args.u) in
    ap (λ (s : CoresSeen). pool_of guests s (g.P.Policy.seen c.timer-event.new.self)) c.shorten_due.ensures
    ∙ ap (λ (s : SchedulerSeen). pool_of guests (changed_core c.in-Some.r (due_within c.args.t.0 c.in-Repl.budget.0) c.args.cores.now) s) c.in-Repl.ensures.after
    ∙ is_replenished c.args.t.0 c.in-Some.r c.in-Repl.budget.0 c.args.u pool due (sym c.in-Some.ensures) budget
  where
    by_record : (o : Option RtdsUnit) → (elim o as (λ _. Span) [ None ↦ span 0 | Some x ↦ span x.budget ]).0 ≡ elim o as (λ _. ℕ) [ None ↦ 0 | Some x ↦ x.budget ]
    by_record None = refl
    by_record (Some x) = refl
