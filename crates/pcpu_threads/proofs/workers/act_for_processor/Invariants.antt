use Rattle.sched_model.specs.declared.action.Actor.TheVariants.{Proc}
use Rattle.pcpu_threads.specs.Workers.{ActsAs}
use Rattle.pcpu_threads.proofs.workers.act_for_processor.Given as goal

abbrev pub invariant-loop : goal.invariant-loop
invariant-loop g l = ActsAs (Proc l.p) l.fn.seat l.seat
