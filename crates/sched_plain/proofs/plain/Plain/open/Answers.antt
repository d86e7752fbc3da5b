use Rattle.std.proofs.Common.{rules}
use Rattle.sched_plain.proofs.Settling.{none_settled}
use Rattle.sched_plain.proofs.plain.Plain.open.Goals as goal

pub invariant_of-result : goal.invariant_of-result
invariant_of-result c = search (rules, none_settled)
