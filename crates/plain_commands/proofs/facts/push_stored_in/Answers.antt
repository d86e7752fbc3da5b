use Rattle.std.proofs.Common.{◌∙◌, sym, ap}
use Rattle.sched_model.specs.Places.{at_place}
use Rattle.pool_records.specs.Fits.{DomainFits}
use Rattle.pool_records.proofs.FitsLemmas.{at_place-fits}
use Rattle.plain_commands.proofs.facts.push_stored_in.Goals as goal

pub unit_count-count-requires-clause-vcpus : goal.unit_count-count-requires-clause-vcpus
unit_count-count-requires-clause-vcpus c =
    (at_place-fits DomainFits c.args.pool.now.domains c.args.d.0 c.in-Some.domain.now c.requires.fits.domains (ap (λ places. at_place places c.args.d.0) (sym c.as_slice.ensures) ∙ sym c.in-Some.ensures)).few
