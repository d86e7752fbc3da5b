use Rattle.std.proofs.Common.{◌/◌, ◌%◌, ◌∙◌, sym}
use Rattle.sched_laws.proofs.Sound.{change_at-twice}
use Rattle.sched_model.specs.Pool.{with_doing, reopened_core}
use Rattle.pool_records.specs.Cores.{with_sibling}
use Rattle.pool_records.proofs.doing.leave_at.Goals as goal

pub returns : goal.returns
returns c = c.leave_core.ensures ∙ sym (change_at-twice (c.args.p.0 / c.args.granularity) reopened_core (with_sibling (c.args.p.0 % c.args.granularity) (with_doing c.args.doing)) c.args.cores.now)
