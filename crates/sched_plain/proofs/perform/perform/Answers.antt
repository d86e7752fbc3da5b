use Rattle.sched_plain.proofs.SeenLaw.{unseen}
use Rattle.sched_plain.proofs.Settling.{none_settled}
use Rattle.sched_plain.proofs.perform.perform.Goals as goal

pub returns-in-Stall-clause-settled : goal.returns-in-Stall-clause-settled
returns-in-Stall-clause-settled c = none_settled _ _ _ c.clear.ensures

pub returns-in-Xl-clause-settled : goal.returns-in-Xl-clause-settled
returns-in-Xl-clause-settled c = none_settled _ _ _ c.clear-in-Xl.ensures

pub returns-in-Moved-clause-settled : goal.returns-in-Moved-clause-settled
returns-in-Moved-clause-settled c = none_settled _ _ _ c.clear-in-Moved.ensures

pub returns-in-DomMoved-clause-settled : goal.returns-in-DomMoved-clause-settled
returns-in-DomMoved-clause-settled c = none_settled _ _ _ c.clear-in-DomMoved.ensures

pub returns-in-Stall-clause-outlook : goal.returns-in-Stall-clause-outlook
returns-in-Stall-clause-outlook c = unseen _ _ _ c.forget_all.ensures

pub returns-in-Xl-clause-outlook : goal.returns-in-Xl-clause-outlook
returns-in-Xl-clause-outlook c = unseen _ _ _ c.forget_all-in-Xl.ensures

pub returns-in-Moved-clause-outlook : goal.returns-in-Moved-clause-outlook
returns-in-Moved-clause-outlook c = unseen _ _ _ c.forget_all-in-Moved.ensures

pub returns-in-DomMoved-clause-outlook : goal.returns-in-DomMoved-clause-outlook
returns-in-DomMoved-clause-outlook c = unseen _ _ _ c.forget_all-in-DomMoved.ensures
