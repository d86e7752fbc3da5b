use Rattle.sched_plain.proofs.WaitBounds.{domain_bound_at}
use Rattle.sched_plain.proofs.waits.domain_wait.Goals as goal

pub returns : goal.returns
returns c g = domain_bound_at g c.args.pool.now c.as_slice.result.now c.args.now.0 c.args.d.0 c.of_domain-vcpus.result c.of_timers.result c.as_slice.ensures c.of_domain-vcpus.ensures c.of_timers.ensures
