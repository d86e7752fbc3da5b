use Rattle.std.proofs.Common.{◌∙◌, sym, ap}
use Rattle.std.specs.Option.{option_copied}
use Rattle.pool_records.specs.Fits.{DomainFits}
use Rattle.pool_records.proofs.FitsLemmas.{at_place-fits}
use Rattle.plain_pool.proofs.pausing.paused_units.Goals as goal

pub unit_count-requires-clause-vcpus : goal.unit_count-requires-clause-vcpus
unit_count-requires-clause-vcpus c =
    (at_place-fits DomainFits c.args.domains.now c.args.d.0 c.in-Some.domain.now c.requires.fits (sym c.item_at.ensures ∙ ap option_copied c.in-Some.is)).few
