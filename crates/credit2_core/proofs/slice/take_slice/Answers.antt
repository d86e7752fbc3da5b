use Rattle.std.proofs.Common.{sym, subst}
use Rattle.sched_model.specs.declared.state.Credit2Records.{Credit2Records}
use Rattle.scheduler_records.specs.Bounds.{PoolParamsFit}
use Rattle.sched_model.specs.Credit2.{domain_after_take}
use Rattle.credit2_core.specs.Credit2State.{IsLineOf}
use Rattle.credit2_core.specs.Whole.{IsReadyBut}
use Rattle.credit2_core.proofs.Kept.{but_again, take_weight}
use Rattle.credit2_core.proofs.Lines.{line_take}
use Rattle.credit2_core.proofs.slice.take_slice.Goals as goal

pub other_credit-other-requires-clause-line : goal.other_credit-other-requires-clause-line
other_credit-other-requires-clause-line c =
    subst (λ (r : Credit2Records). IsLineOf c.args.state.now.affinity r c.args.state.now.queue.units) (sym c.take_at.ensures)
    (line_take c.args.state.now.affinity c.args.u c.args.state.now.records c.args.state.now.queue.units c.requires.line)

pub follow-requires-clause-but : goal.follow-requires-clause-but
follow-requires-clause-but c =
    let h = c.args.state.now in
    subst (λ (r : Credit2Records). IsReadyBut c.args.u.dom.0 c.args.stands r h.queue.units c.args.ready.now) (sym c.take_at.ensures)
    (but_again c.args.u.dom.0 c.args.stands (domain_after_take c.args.u.n) h.records h.queue.units c.args.ready.now (take_weight c.args.u.n) c.requires.ready)

pub slice_beside-requires-clause-params : goal.slice_beside-requires-clause-params
slice_beside-requires-clause-params c = subst PoolParamsFit (sym c.take_at.ensures) c.requires.taken

pub returns-clause-line : goal.returns-clause-line
returns-clause-line c =
    subst (λ (r : Credit2Records). IsLineOf c.args.state.now.affinity r c.args.state.now.queue.units) (sym c.take_at.ensures)
    (line_take c.args.state.now.affinity c.args.u c.args.state.now.records c.args.state.now.queue.units c.requires.line)
