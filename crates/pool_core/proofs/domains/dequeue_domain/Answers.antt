use Rattle.std.proofs.Common.{ap, ◌∙◌, arith}
use Rattle.sched_model.specs.declared.state.Pool.{Pool}
use Rattle.sched_model.specs.declared.state.Scheduler.{Scheduler}
use Rattle.sched_model.specs.Places.{has_listed_unit}
use Rattle.sched_ops.specs.Seen.{Seen, scheduler_without_unit, with_scheduler}
use Rattle.sched_base.specs.Units.{unit_id}
use Rattle.pool_core.specs.Seen.{pool_of}
use Rattle.pool_core.proofs.Withdrawing.{below_all, below_first, below_next, below_waits, units_known, waits_by}
use Rattle.pool_core.proofs.domains.dequeue_domain.Goals as goal

pub loop-n-init : goal.loop-n-init
loop-n-init g c = below_first c.args.d.0 (g.P.Policy.seen c.args.policy.now)

pub dequeue-requires : goal.dequeue-requires
dequeue-requires g c = record {
  waits =
      ap (λ (s : Seen). has_listed_unit s.scheduler.queue (unit_id c.args.d.0 c.loop-n.n)) c.loop-n.invariant
      ∙ below_waits c.args.d.0 c.loop-n.n (g.P.Policy.seen c.args.policy.now).scheduler
      ∙ waits_by c.args.guests.now.granularity (pool_of c.args.guests.now c.args.cores.now (g.P.Policy.seen c.args.policy.now)) (unit_id c.args.d.0 c.loop-n.n) c.requires.one;
}

pub loop-n-preserved : goal.loop-n-preserved
loop-n-preserved g c =
    c.dequeue.ensures
    ∙ ap (λ (s : Seen). with_scheduler (scheduler_without_unit (unit_id c.args.d.0 c.loop-n.n) s.scheduler) s) c.loop-n.invariant
    ∙ ap (λ (s : Scheduler). with_scheduler s (g.P.Policy.seen c.args.policy.now)) (below_next c.args.d.0 c.loop-n.n (g.P.Policy.seen c.args.policy.now).scheduler)

pub returns : goal.returns
returns g c =
    let before : Pool = pool_of c.args.guests.now c.args.cores.now (g.P.Policy.seen c.args.policy.now) in
    let over = c.loop-n-test.false in
    let count = c.unit_count-n-end.ensures in
    let known = units_known c.args.guests.now.granularity c.args.d.0 before c.requires.members in
    c.loop-n.invariant
    ∙ ap (λ (s : Scheduler). with_scheduler s (g.P.Policy.seen c.args.policy.now))
    (below_all c.args.guests.now.granularity c.args.d.0 c.loop-n.n before c.requires.some c.requires.one c.requires.members (omega (arith, over, count, known)))
