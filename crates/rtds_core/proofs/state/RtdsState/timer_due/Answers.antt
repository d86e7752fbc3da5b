use Rattle.std.proofs.Common.{◌≤◌, ◌∙◌, ap, arith, length, List}
use Rattle.sched_ops.specs.Seen.{Seen}
use Rattle.sched_ops.specs.Timers.{Armed, next_scheduler_timer, next_armed}
use Rattle.rtds_core.specs.Best.{queue_of}
use Rattle.rtds_core.proofs.Timing.{timers_armed}
use Rattle.rtds_core.proofs.state.RtdsState.timer_due.Goals as goal

pub returns : goal.returns
returns c =
    let i = c.self.inside in
    let places = c.self.invariant.shape.places in
    let most = c.self.invariant.shape.few in
    let few : length i.domains ≤ 64 = omega (arith, places, most) in
    c.next.ensures
    ∙ ap (λ (xs : List Armed). next_armed c.args.t.0 xs) (timers_armed (queue_of i.queues) i.domains i.alarms few c.self.invariant.shape.small c.self.invariant.armed)
    ∙ ap (λ (s : Seen). next_scheduler_timer c.args.t.0 s.scheduler) c.self.view_is
