use Rattle.sched_model.specs.declared.action.Actor.TheVariants.{Dom}
use Rattle.pcpu_threads.specs.Workers.{ActsAs}
use Rattle.pcpu_threads.proofs.workers.act_for_domain.Given as goal

abbrev pub invariant-loop : goal.invariant-loop
invariant-loop g l = ActsAs (Dom l.d) l.fn.seat l.seat
