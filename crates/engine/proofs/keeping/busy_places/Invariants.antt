use Rattle.engine.specs.EngineState.{IsIdleFrom}
use Rattle.engine.proofs.keeping.busy_places.Given as goal

-- from there on nothing may come
abbrev pub invariant-loop-busy : goal.invariant-loop-busy
invariant-loop-busy l = IsIdleFrom l.busy l.firsts

abbrev pub decreases-loop-busy : goal.decreases-loop-busy
decreases-loop-busy l = l.busy
