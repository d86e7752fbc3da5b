use Rattle.std.proofs.Common.{sym, subst}
use Rattle.scheduler_records.specs.Bounds.{DomainFits, PoolFits}
use Rattle.scheduler_records.proofs.Steps.{weighed_fits}
use Rattle.scheduler_records.proofs.credit2_params.set_domain.Goals as goal

pub set_cap_of-requires-clause-fits : goal.set_cap_of-requires-clause-fits
set_cap_of-requires-clause-fits c i x at =
    let fits : PoolFits c.args.t.0 c.set_weight_of.new.records =
    subst (PoolFits c.args.t.0) (sym c.set_weight_of.ensures) (weighed_fits c.args.t.0 c.args.d.0 c.args.weight c.args.records.now c.requires.early c.requires.fits c.requires.weight)
    in
    subst (λ w. DomainFits w c.args.t.0 x) (sym c.max_weight-most.ensures) (fits i x at)
