use Rattle.std.proofs.Common.{sym, subst, refl}
use Rattle.sched_model.specs.declared.state.Credit2Domain.{Credit2Domain}
use Rattle.sched_model.specs.declared.state.Credit2Records.{Credit2Records}
use Rattle.sched_model.specs.Credit2.{most_weight}
use Rattle.sched_laws.specs.RecordRanges.{Credit2InRange}
use Rattle.scheduler_records.specs.Bounds.{DomainFits}
use Rattle.sched_laws.proofs.EachPlace.{place_fits}
use Rattle.scheduler_records.proofs.Ranges.{pool_in_range}
use Rattle.scheduler_records.proofs.credit2_running.refill.Goals as goal

pub refill_domain-requires-clause-fits : goal.refill_domain-requires-clause-fits
refill_domain-requires-clause-fits c =
    let records : Credit2Records = c.args.records.now in
    let d : Credit2Domain = c.in-Some-place.domain in
    let here : DomainFits (most_weight records) c.args.t.0 d =
    place_fits (DomainFits (most_weight records) c.args.t.0) records.domains c.args.d.0 _ d (pool_in_range c.args.t.0 records c.requires.early c.requires.fits) (c.in-Some.ensures.some.0 refl) c.in-Some.ensures.value c.in-Some-place.is
    in
    subst (λ w. DomainFits w c.args.t.0 d) (sym c.max_weight-most.ensures) here

pub refill_domain-requires-clause-few : goal.refill_domain-requires-clause-few
refill_domain-requires-clause-few c =
    (place_fits (Credit2InRange c.args.t.0) c.args.records.now.domains c.args.d.0 _ c.in-Some-place.domain c.requires.fits.domains (c.in-Some.ensures.some.0 refl) c.in-Some.ensures.value c.in-Some-place.is).count
