use Rattle.std.proofs.Common.{refl}
use Rattle.pool_records.specs.Fits.{DomainFits}
use Rattle.pool_records.proofs.FitsLemmas.{place-fits}
use Rattle.pool_records.proofs.vcpus.sleep_vcpu.Goals as goal

pub sleep_at-requires-clause-fits : goal.sleep_at-requires-clause-fits
sleep_at-requires-clause-fits c = place-fits DomainFits c.args.domains.now c.args.v.dom.0 c.in-Some-place.domain c.requires.fits (c.in-Some.ensures.some.0 refl) (rw c.in-Some-place.is at c.in-Some.ensures.value)
