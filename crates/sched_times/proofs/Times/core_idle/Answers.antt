use Rattle.std.proofs.Common.{arith}
use Rattle.std.specs.Prelude.{reverse}
use Rattle.sched_times.specs.Present.{core_grant, is_used}
use Rattle.sched_times.specs.Figures.{Told}
use Rattle.sched_times.proofs.Fills.{two-fill}
use Rattle.sched_times.proofs.Times.core_idle.Goals as goal

pub overflow_sub-result : goal.overflow_sub-result
overflow_sub-result c =
    let t : Told = c.args.self.now in
    let fill = two-fill (is_used core_grant c.args.r.0) t.range t.config.horizon.0 (reverse t.entries) in
    omega (arith, fill, c.told.ensures, c.core_run.ensures)

pub returns-clause-idle : goal.returns-clause-idle
returns-clause-idle c =
    let t : Told = c.args.self.now in
    let fill = two-fill (is_used core_grant c.args.r.0) t.range t.config.horizon.0 (reverse t.entries) in
    omega (arith, fill, c.told.ensures, c.core_run.ensures)

pub returns-clause-rest : goal.returns-clause-rest
returns-clause-rest c =
    let t : Told = c.args.self.now in
    let fill = two-fill (is_used core_grant c.args.r.0) t.range t.config.horizon.0 (reverse t.entries) in
    omega (arith, fill, c.told.ensures, c.core_run.ensures)
