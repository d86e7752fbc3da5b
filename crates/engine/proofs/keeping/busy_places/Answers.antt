use Rattle.std.proofs.Common.{subst, arith}
use Rattle.engine.specs.EngineState.{IsIdleFrom}
use Rattle.engine.proofs.Kept.{idle-all, idle-less}
use Rattle.engine.proofs.keeping.busy_places.Goals as goal

pub loop-busy-init : goal.loop-busy-init
loop-busy-init c = idle-all c.args.firsts.now

pub loop-busy-preserved : goal.loop-busy-preserved
loop-busy-preserved c = idle-less c.loop-busy.busy c.args.firsts.now c.loop-busy-test.true c.in_default.is c.loop-busy.invariant

pub returns : goal.returns
returns c = subst (λ n. IsIdleFrom n c.args.firsts.now) (omega (arith, c.loop-busy-test.false)) c.loop-busy.invariant
