use Rattle.std.proofs.Common.{◌<◌, ◌+◌, length, arith, sym}
use Rattle.std.specs.Prelude.{true}
use Rattle.sched_model.specs.declared.state.Resource.{Resource}
use Rattle.core_state.proofs.ChangeLemmas.{first_below}
use Rattle.core_state.proofs.cores.first_number.Goals as goal

pub overflow_cast-result : goal.overflow_cast-result
overflow_cast-result c =
    let below : c.in-Some.r < 0 + length c.args.cores.now = first_below 0 (λ (x : Resource). true) c.args.cores.now c.in-Some.r (sym c.in-Some.ensures) in
    let few = c.requires in
    omega (arith, below, few)
