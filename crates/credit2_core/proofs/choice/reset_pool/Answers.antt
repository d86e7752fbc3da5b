use Rattle.std.proofs.Common.{sym, subst}
use Rattle.sched_model.specs.declared.state.Credit2Records.{Credit2Records}
use Rattle.credit2_core.specs.Keys.{HasCredits}
use Rattle.credit2_core.specs.Credit2State.{IsLineOf}
use Rattle.credit2_core.proofs.Lines.{line_reset}
use Rattle.credit2_core.proofs.choice.reset_pool.Goals as goal

pub returns-clause-line : goal.returns-clause-line
returns-clause-line c =
    subst (λ (r : Credit2Records). IsLineOf c.args.state.now.affinity r c.rekey_all.new.queue.units) (sym c.reset.ensures)
    (line_reset c.args.state.now.affinity c.args.t.0 c.args.resets c.args.state.now.records c.args.state.now.queue.units c.rekey_all.new.queue.units c.rekey_all.ensures.same.order
    (subst (λ (r : Credit2Records). HasCredits r c.rekey_all.new.queue.units) c.reset.ensures c.rekey_all.ensures.keys) c.requires.line)
