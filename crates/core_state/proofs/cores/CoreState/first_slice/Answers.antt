use Rattle.sched_base.specs.Numbers.{core}
use Rattle.sched_model.specs.declared.action.Action.TheVariants.{Slice}
use Rattle.core_state.specs.Firsts.{number_of_core}
use Rattle.core_state.proofs.Leasts.{first_same}
use Rattle.core_state.proofs.cores.CoreState.first_slice.Goals as goal

pub first_due_core-requires : goal.first_due_core-requires
first_due_core-requires c = c.self.invariant.0.armed.slices.ids

pub returns : goal.returns
returns c = first_same (λ n. Slice (core n)) c.args.t.0 (number_of_core c.first_due_core.result) c.self.view_is c.self.invariant.0.armed.slices c.first_due_core.ensures
