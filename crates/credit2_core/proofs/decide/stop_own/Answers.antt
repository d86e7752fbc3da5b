use Rattle.std.proofs.Common.{sym, subst}
use Rattle.sched_model.specs.declared.state.Credit2Records.{Credit2Records}
use Rattle.credit2_core.specs.Credit2State.{IsLineOf}
use Rattle.credit2_core.proofs.Lines.{line_switch_off}
use Rattle.credit2_core.proofs.decide.stop_own.Goals as goal

pub returns-clause-line : goal.returns-clause-line
returns-clause-line c =
    subst (λ (r : Credit2Records). IsLineOf c.args.state.now.affinity r c.args.state.now.queue.units) (sym c.switch_off.ensures)
    (line_switch_off c.args.state.now.affinity c.args.ask.now.cur c.args.state.now.records c.args.state.now.queue.units c.requires)
