use Rattle.std.proofs.Common.{◌<◌, ◌^◌, sym, subst}
use Rattle.sched_model.specs.declared.state.Credit2Domain.{Credit2Domain}
use Rattle.sched_model.specs.Credit2.{running_budget}
use Rattle.scheduler_records.proofs.Ranges.{running_small}
use Rattle.scheduler_records.proofs.credit2_domain.refill_domain.Goals as goal

pub refilled_budget-d-requires-clause-held : goal.refilled_budget-d-requires-clause-held
refilled_budget-d-requires-clause-held c =
    subst (λ (d : Credit2Domain). running_budget d < 2 ^ 63) (sym c.burn_units.ensures) (running_small c.args.most c.args.t.0 c.args.d.now c.requires.fits c.requires.few)
