use Rattle.std.proofs.Common.{refl, arith}
use Rattle.sched_plain.proofs.first.judge_domain.Goals as goal

pub returns-then-t-wait-clause-waits : goal.returns-then-t-wait-clause-waits
returns-then-t-wait-clause-waits c = record { wait = c.domain_wait-wait.result; right = c.domain_wait-wait.ensures c.args.granularity; set = refl }

pub returns-then-t-wait-clause-floor : goal.returns-then-t-wait-clause-floor
returns-then-t-wait-clause-floor c = λ action own on. absurd (let a = c.domain_wait-wait.ensures c.args.granularity c.args.t.0 action own on in omega (arith, a))

pub returns-else-t-wait-clause-waits : goal.returns-else-t-wait-clause-waits
returns-else-t-wait-clause-waits c = record { wait = c.domain_wait-wait.result; right = c.domain_wait-wait.ensures c.args.granularity; set = refl }
