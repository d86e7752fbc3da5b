use Rattle.std.proofs.Common.{subst}
use Rattle.core_state.specs.CoreState.{KeepsCores}
use Rattle.core_state.proofs.cores.CoreState.keeps.Goals as goal

pub returns : goal.returns
returns c = subst KeepsCores c.self.view_is c.self.invariant.0.cores
