use Rattle.std.proofs.Common.{◌∙◌, sym, ap, subst}
use Rattle.sched_model.specs.Credit2.{change_domain, domain_after_take}
use Rattle.scheduler_records.specs.Bounds.{PoolParamsFit}
use Rattle.scheduler_records.proofs.Steps.{reset_params, taken_params}
use Rattle.plain_schedulers.proofs.credit2.run_unit.Goals as goal

pub take_at-requires : goal.take_at-requires
take_at-requires c =
    subst PoolParamsFit (sym c.reset.ensures) (reset_params c.args.ask.now.at.0 c.resets_for-resets.result c.args.records.now c.requires.fits)

pub slice_of-long-requires-clause-params : goal.slice_of-long-requires-clause-params
slice_of-long-requires-clause-params c =
    subst PoolParamsFit (sym (c.take_at.ensures ∙ ap (change_domain c.args.u.dom.0 (domain_after_take c.args.u.n)) c.reset.ensures))
    (taken_params c.args.ask.now.at.0 c.resets_for-resets.result c.args.u c.args.records.now c.requires.fits)
