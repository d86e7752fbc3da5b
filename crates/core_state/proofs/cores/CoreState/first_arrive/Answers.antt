use Rattle.sched_base.specs.Numbers.{processor}
use Rattle.sched_model.specs.declared.action.Action.TheVariants.{Arrive}
use Rattle.core_state.specs.Firsts.{number_of_processor}
use Rattle.core_state.proofs.Leasts.{first_same}
use Rattle.core_state.proofs.cores.CoreState.first_arrive.Goals as goal

pub first_due_processor-requires : goal.first_due_processor-requires
first_due_processor-requires c = c.self.invariant.0.armed.arrives.ids

pub returns : goal.returns
returns c = first_same (λ n. Arrive (processor n)) c.args.t.0 (number_of_processor c.first_due_processor.result) c.self.view_is c.self.invariant.0.armed.arrives c.first_due_processor.ensures
