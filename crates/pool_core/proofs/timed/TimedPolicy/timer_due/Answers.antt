use Rattle.std.proofs.Common.{◌≡◌, ◌∙◌, sym, subst}
use Rattle.std.specs.Prelude.{None, Some}
use Rattle.sched_ops.specs.Seen.{Seen}
use Rattle.sched_ops.specs.Timers.{next_scheduler_timer, timers}
use Rattle.pool_core.proofs.NextTimers.{still_next, still_none}
use Rattle.pool_core.proofs.timed.TimedPolicy.timer_due.Goals as goal

pub returns-in-None : goal.returns-in-None
returns-in-None g c =
    let s : Seen = g.P.Policy.seen c.self.inside.policy in
    sym (subst (λ (x : Seen). next_scheduler_timer c.args.t.0 x.scheduler ≡ None) c.self.view_is (still_none c.args.t.0 (timers s.scheduler) (sym c.self.invariant ∙ c.in-None.is)))

-- its moment has not come
pub returns-then-t-at : goal.returns-then-t-at
returns-then-t-at g c =
    let s : Seen = g.P.Policy.seen c.self.inside.policy in
    sym (subst (λ (x : Seen). next_scheduler_timer c.args.t.0 x.scheduler ≡ Some (c.in-Some.at, c.in-Some.timer)) c.self.view_is
    (still_next c.args.t.0 (timers s.scheduler) (c.in-Some.at, c.in-Some.timer) (sym c.self.invariant ∙ c.in-Some.is) c.if-t-at.true))
