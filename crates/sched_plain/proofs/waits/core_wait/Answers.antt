use Rattle.std.proofs.Common.{◌∙◌, sym, ap}
use Rattle.std.specs.Option.{option_copied}
use Rattle.sched_plain.proofs.WaitBounds.{core_bound_at}
use Rattle.sched_plain.proofs.waits.core_wait.Goals as goal

pub returns-in-Some : goal.returns-in-Some
returns-in-Some c g = core_bound_at g c.args.pool.now c.as_slice.result.now c.args.r.0 c.in-Some.c.now c.of_core.result c.as_slice.ensures (sym c.item_at.ensures ∙ ap option_copied c.in-Some.is) c.of_core.ensures
