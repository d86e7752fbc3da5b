use Rattle.std.proofs.Common.{◌≡◌, ◌∙◌, true, sym, ap, subst}
use Rattle.sched_model.specs.declared.action.Action.{Action}
use Rattle.sched_model.specs.declared.state.Pool.{Pool}
use Rattle.sched_base.specs.Numbers.{has_moment_come}
use Rattle.pool_laws.specs.ReadyMoments.{lowest_stall_end}
use Rattle.policy_laws.proofs.TimerLaw as law
use Rattle.pool_core.specs.Order.{IsFirstOf, is_any}
use Rattle.pool_core.specs.Seen.{pool_of}
use Rattle.pool_core.proofs.Order.{first_timer, no_timer_due, no_timer_stalled, timer_come, timers_first, timers_late}
use Rattle.pool_core.proofs.due.first_timer.Goals.{else-at-t-via-then-at-t+else-has_come, else-at-t-via-else-at-t}
use Rattle.pool_core.proofs.due.first_timer.Goals as goal

pub returns-in-None : goal.returns-in-None
returns-in-None g c granularity guests on =
    let pool : Pool = pool_of guests c.args.cores.now (g.P.Policy.seen c.args.policy.now) in
    no_timer_due granularity c.args.t.0 pool on (λ x. ap (has_moment_come c.args.t.0) (law.none c.args.t.0 pool.scheduler (sym c.timer_due.ensures ∙ c.in-None.is) x))

pub returns-then-has_come : goal.returns-then-has_come
returns-then-has_come g c granularity guests on =
    let pool : Pool = pool_of guests c.args.cores.now (g.P.Policy.seen c.args.policy.now) in
    let is = sym c.timer_due.ensures ∙ c.in-Some.is in
    let up : has_moment_come c.args.t.0 (lowest_stall_end pool) ≡ true = ap (has_moment_come c.args.t.0) (sym c.lowest_end.ensures) ∙ sym c.has_come.ensures ∙ c.if-has_come.true in
    subst (λ (a : Action). IsFirstOf is_any 7 9 granularity c.args.t.0 pool a) (sym c.action_of.ensures)
    (first_timer granularity c.args.t.0 pool on c.in-Some.timer
    (timer_come c.args.t.0 pool.scheduler (c.in-Some.at, c.in-Some.timer) is c.if-at-t.true) up (timers_first c.args.t.0 pool.scheduler (c.in-Some.at, c.in-Some.timer) is))

-- none has come, or the lowest processor is stalled
pub returns-else-at-t : goal.returns-else-at-t
returns-else-at-t g c granularity guests on =
    let pool : Pool = pool_of guests c.args.cores.now (g.P.Policy.seen c.args.policy.now) in
    elim c.else-at-t.branch [
      | else-at-t-via-then-at-t+else-has_come w ↦
          no_timer_stalled granularity c.args.t.0 pool on (ap (has_moment_come c.args.t.0) (sym w.lowest_end.ensures) ∙ sym w.has_come.ensures ∙ w.if-has_come.false)
      | else-at-t-via-else-at-t w ↦
          no_timer_due granularity c.args.t.0 pool on (timers_late c.args.t.0 pool.scheduler (c.in-Some.at, c.in-Some.timer) (sym c.timer_due.ensures ∙ c.in-Some.is) w.if-at-t.false)
    ]
