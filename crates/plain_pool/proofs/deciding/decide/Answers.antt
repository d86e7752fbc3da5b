use Rattle.plain_pool.proofs.DecideLemmas.{decide-parts}
use Rattle.plain_pool.proofs.deciding.decide.Goals as goal

pub returns-clause-pool : goal.returns-clause-pool
returns-clause-pool c =
    decide-parts c.args.granularity c.args.t.0 c.args.r.0 c.args.pool.now c.in-Some.c.now c.decide-answer.result c.ask_of-ask.result _ _
    (rw c.as_slice.ensures at c.in-Some.ensures) c.ask_of-ask.ensures c.decide-answer.ensures.decided c.decide-answer.ensures.scheduler c.set_decided_at.ensures
