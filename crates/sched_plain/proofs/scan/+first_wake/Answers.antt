use Rattle.std.proofs.Common.{◌∙◌, arith}
use Rattle.sched_plain.proofs.Domains.{wake-goes_on}
use Rattle.sched_plain.proofs.scan.+first_wake.Goals as goal

pub returns-in-None : goal.returns-in-None
returns-in-None t c =
    c.first_wake.ensures ∙ wake-goes_on _ c.args.d.0 c.args.domains.now c.domain-item.result c.len.result (omega arith) c.domain-item.is c.len.ensures c.in-None.ensures
