use Rattle.std.proofs.Common.{subst}
use Rattle.hall.specs.declared.turns.Waits.{Waits}
use Rattle.hall.specs.Turns.{IsWaiting}
use Rattle.pcpu_threads.proofs.workers.is_waiting.Goals as goal

pub returns-in-Still-clause-waits : goal.returns-in-Still-clause-waits
returns-in-Still-clause-waits c = λ yes. subst (λ (r : Waits). IsWaiting c.args.hall.now.opened.input.config.granularity c.args.p r c.args.seat.now c.still_waits.new.seat) c.in-Still.is c.still_waits.ensures.waits
