use Rattle.std.proofs.Common.{refl}
use Rattle.sched_times.specs.Example.{measured}
use Rattle.sched_times.proofs.example.measured_times.Goals as goal

pub returns-clause-states_of_a : goal.returns-clause-states_of_a
unfolding measured
returns-clause-states_of_a c = refl

pub returns-clause-states_of_b : goal.returns-clause-states_of_b
unfolding measured
returns-clause-states_of_b c = refl

pub returns-clause-unit_of_a : goal.returns-clause-unit_of_a
unfolding measured
returns-clause-unit_of_a c = refl

pub returns-clause-unit_of_b : goal.returns-clause-unit_of_b
unfolding measured
returns-clause-unit_of_b c = refl

pub returns-clause-core : goal.returns-clause-core
unfolding measured
returns-clause-core c = refl

pub returns-clause-part_of_a : goal.returns-clause-part_of_a
unfolding measured
returns-clause-part_of_a c = refl

pub returns-clause-part_of_b : goal.returns-clause-part_of_b
unfolding measured
returns-clause-part_of_b c = refl
