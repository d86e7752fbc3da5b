use Rattle.std.proofs.Common.{◌∙◌, arith}
use Rattle.sched_plain.proofs.Domains.{repl-goes_on}
use Rattle.sched_plain.proofs.scan.+first_repl.Goals as goal

pub returns-in-None : goal.returns-in-None
returns-in-None t c =
    c.first_repl.ensures ∙ repl-goes_on _ c.args.d.0 c.args.machine.now.config.granularity c.args.domains.now c.domain-item.result c.len.result (omega arith) c.domain-item.is c.len.ensures c.in-None.ensures
