use Rattle.std.proofs.Common.{sym, ap}
use Rattle.std.specs.Prelude.{◌||◌, ◌==◌}
use Rattle.sched_base.specs.CoreSets.{has_core_bit}
use Rattle.rtds_core.proofs.Ahead.{all_open}
use Rattle.rtds_core.proofs.wanted.open_cores.Goals as goal

pub returns-then-set-home-eq0 : goal.returns-then-set-home-eq0
returns-then-set-home-eq0 c r low = all_open c.args.set.0 c.args.home.0 r low (ap (λ n. has_core_bit c.args.set.0 r || n == 0) (sym c.if-set-home-eq0.true))
