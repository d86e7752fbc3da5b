use Rattle.std.proofs.Common.{arith}
use Rattle.std.specs.Prelude.{reverse}
use Rattle.unit_places.specs.Places.{unit_index}
use Rattle.sched_times.specs.Present.{vcpu_place, processor_grant, sleep_of}
use Rattle.sched_times.specs.Figures.{Told}
use Rattle.sched_times.proofs.Fills.{three-fill}
use Rattle.sched_times.proofs.Times.vcpu_sleep.Goals as goal

pub overflow_sub-result : goal.overflow_sub-result
overflow_sub-result c =
    let t : Told = c.args.self.now in
    let fill = three-fill (processor_grant t.config.granularity) sleep_of (unit_index (vcpu_place c.args.v)) t.range t.config.horizon.0 (reverse t.entries) in
    omega (arith, fill, c.told.ensures, c.vcpu_run.ensures)

pub overflow_sub-result-2 : goal.overflow_sub-result-2
overflow_sub-result-2 c =
    let t : Told = c.args.self.now in
    let fill = three-fill (processor_grant t.config.granularity) sleep_of (unit_index (vcpu_place c.args.v)) t.range t.config.horizon.0 (reverse t.entries) in
    omega (arith, fill, c.told.ensures, c.vcpu_run.ensures, c.vcpu_wait.ensures)

pub returns-clause-sleep : goal.returns-clause-sleep
returns-clause-sleep c =
    let t : Told = c.args.self.now in
    let fill = three-fill (processor_grant t.config.granularity) sleep_of (unit_index (vcpu_place c.args.v)) t.range t.config.horizon.0 (reverse t.entries) in
    omega (arith, fill, c.told.ensures, c.vcpu_run.ensures, c.vcpu_wait.ensures)

pub returns-clause-rest : goal.returns-clause-rest
returns-clause-rest c =
    let t : Told = c.args.self.now in
    let fill = three-fill (processor_grant t.config.granularity) sleep_of (unit_index (vcpu_place c.args.v)) t.range t.config.horizon.0 (reverse t.entries) in
    omega (arith, fill, c.told.ensures, c.vcpu_run.ensures, c.vcpu_wait.ensures)
