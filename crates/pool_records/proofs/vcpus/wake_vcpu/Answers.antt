use Rattle.std.proofs.Common.{refl}
use Rattle.pool_records.specs.Fits.{DomainFits}
use Rattle.pool_records.proofs.FitsLemmas.{place-fits}
use Rattle.pool_records.proofs.vcpus.wake_vcpu.Goals as goal

pub wake_at-requires : goal.wake_at-requires
wake_at-requires c = place-fits DomainFits c.args.domains.now c.args.v.dom.0 c.in-Some-place.domain c.requires (c.in-Some.ensures.some.0 refl) (rw c.in-Some-place.is at c.in-Some.ensures.value)
