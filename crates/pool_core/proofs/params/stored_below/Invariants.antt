use Rattle.pool_core.proofs.Telling.{AreTold}
use Rattle.pool_core.proofs.params.stored_below.Given as goal

abbrev pub invariant-loop-n : goal.invariant-loop-n
invariant-loop-n g l = AreTold (g.P.Policy.seen l.policy).scheduler.records l.d.0 l.n l.count l.units
