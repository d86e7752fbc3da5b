use Rattle.std.proofs.Common.{arith}
use Rattle.pool_records.proofs.FitsLemmas.{vcpu_for-past}
use Rattle.plain_pool.proofs.events.vcpu_for.Goals as goal

pub returns-then-n-ge32 : goal.returns-then-n-ge32
returns-then-n-ge32 c = vcpu_for-past c.args.granularity c.args.pool.now c.args.core.now c.args.sibling c.in_ok-u.u c.in_ok-u.was c.requires.fits.domains (omega arith)
