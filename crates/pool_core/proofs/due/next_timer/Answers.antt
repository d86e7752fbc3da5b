use Rattle.std.proofs.Common.{◌≡◌, ◌∙◌, ℕ, sym, ap, subst}
use Rattle.std.specs.Prelude.{Option, Some, None}
use Rattle.sched_base.specs.Numbers.{moment}
use Rattle.sched_base.specs.declared.Moment.{Moment}
use Rattle.sched_model.specs.declared.state.Pool.{Pool}
use Rattle.pool_laws.specs.ReadyMoments.{later_of, lowest_stall_end, ready_in}
use Rattle.sched_ops.specs.Timers.{timer_action}
use Rattle.core_state.specs.Firsts.{IsLeast}
use Rattle.pool_core.specs.Seen.{pool_of}
use Rattle.pool_core.proofs.Moments.{least_timer}
use Rattle.pool_core.proofs.due.next_timer.Goals as goal

pub returns-in_err-at : goal.returns-in_err-at
returns-in_err-at g c granularity guests on =
    let pool : Pool = pool_of guests c.args.cores.now (g.P.Policy.seen c.args.policy.now) in
    subst (λ (o : Option Moment). IsLeast (λ timer. ready_in granularity pool (timer_action timer)) o) (sym c.from_residual.ensures) (least_timer granularity pool on None (sym c.timer_due.ensures ∙ c.in_err-at.was))

pub returns : goal.returns
returns g c granularity guests on =
    let pool : Pool = pool_of guests c.args.cores.now (g.P.Policy.seen c.args.policy.now) in
    let low : lowest_stall_end pool ≡ Some c.in_ok-end.end = sym c.lowest_end.ensures ∙ c.in_ok-end.was in
    subst (λ (o : Option Moment). IsLeast (λ timer. ready_in granularity pool (timer_action timer)) o)
    (ap (later_of (Some c.in_ok-at.at)) low ∙ ap (λ (n : ℕ). Some (moment n)) (sym c.max.ensures))
    (least_timer granularity pool on (Some (c.in_ok-at.at, c.in_ok-at.field-0-1)) (sym c.timer_due.ensures ∙ c.in_ok-at.was))
