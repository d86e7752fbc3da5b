-- The scripts of vCPUs, computed.
use Rattle.std.proofs.Common.{refl}
use Rattle.sched_examples.specs.Words.{RunsAs, IsSoundFor}
use Rattle.sched_examples.specs.Scripts.{machine_longest_script, entries_longest_script}

pub longest_script-run : RunsAs machine_longest_script entries_longest_script
unfolding machine_longest_script entries_longest_script
longest_script-run = refl

pub longest_script-sound : IsSoundFor 363 machine_longest_script
unfolding machine_longest_script
longest_script-sound = refl
