use Rattle.std.proofs.Common.{◌∙◌, sym, ap, arith}
use Rattle.std.specs.Option.{option_copied}
use Rattle.pool_records.specs.Fits.{DomainFits}
use Rattle.pool_records.proofs.FitsLemmas.{at_place-fits}
use Rattle.sched_plain.proofs.pool_floors.vcpu_count.Goals as goal

pub overflow_cast-result : goal.overflow_cast-result
overflow_cast-result c =
    let few = (at_place-fits DomainFits c.args.domains.now c.args.d.0 c.in-Some.x.now c.requires (sym c.item_at.ensures ∙ ap option_copied c.in-Some.is)).few in
    let is = c.len.ensures in
    omega (arith, few, is)
