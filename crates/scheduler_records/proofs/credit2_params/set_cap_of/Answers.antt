use Rattle.std.proofs.Common.{refl}
use Rattle.scheduler_records.specs.Bounds.{DomainFits}
use Rattle.sched_laws.proofs.EachPlace.{place_fits}
use Rattle.scheduler_records.proofs.credit2_params.set_cap_of.Goals as goal

pub set_cap-requires-clause-fits : goal.set_cap-requires-clause-fits
set_cap-requires-clause-fits c =
    place_fits (DomainFits c.args.most c.args.t.0) c.args.records.now.domains c.args.d.0 _ c.in-Some-place.domain c.requires.fits (c.in-Some.ensures.some.0 refl) c.in-Some.ensures.value c.in-Some-place.is
