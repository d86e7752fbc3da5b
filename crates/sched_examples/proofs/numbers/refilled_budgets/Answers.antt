use Rattle.sched_examples.proofs.NumbersRuns.{refilled_budgets-total_of, refilled_budgets-quota_of, refilled_budgets-most, refilled_budgets-below}
use Rattle.sched_examples.proofs.numbers.refilled_budgets.Goals as goal

pub returns-clause-total_of : goal.returns-clause-total_of
returns-clause-total_of c = refilled_budgets-total_of

pub returns-clause-quota_of : goal.returns-clause-quota_of
returns-clause-quota_of c = refilled_budgets-quota_of

pub returns-clause-most : goal.returns-clause-most
returns-clause-most c = refilled_budgets-most

pub returns-clause-below : goal.returns-clause-below
returns-clause-below c = refilled_budgets-below
