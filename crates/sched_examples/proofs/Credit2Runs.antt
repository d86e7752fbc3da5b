-- Credit2 pools, computed.
use Rattle.std.proofs.Common.{refl}
use Rattle.sched_examples.specs.Words.{RunsAs, IsSoundFor}
use Rattle.sched_examples.specs.Credit2.{machine_no_domains, entries_no_domains, machine_two_weights, entries_two_weights, machine_reset_after_a_stall, entries_reset_after_a_stall, machine_weight_in_mid_run, entries_weight_in_mid_run}

pub no_domains-run : RunsAs machine_no_domains entries_no_domains
unfolding machine_no_domains entries_no_domains
no_domains-run = refl

pub no_domains-sound : IsSoundFor 5 machine_no_domains
unfolding machine_no_domains
no_domains-sound = refl

pub two_weights-run : RunsAs machine_two_weights entries_two_weights
unfolding machine_two_weights entries_two_weights
two_weights-run = refl

pub two_weights-sound : IsSoundFor 28 machine_two_weights
unfolding machine_two_weights
two_weights-sound = refl

pub reset_after_a_stall-run : RunsAs machine_reset_after_a_stall entries_reset_after_a_stall
unfolding machine_reset_after_a_stall entries_reset_after_a_stall
reset_after_a_stall-run = refl

pub reset_after_a_stall-sound : IsSoundFor 12 machine_reset_after_a_stall
unfolding machine_reset_after_a_stall
reset_after_a_stall-sound = refl

pub weight_in_mid_run-run : RunsAs machine_weight_in_mid_run entries_weight_in_mid_run
unfolding machine_weight_in_mid_run entries_weight_in_mid_run
weight_in_mid_run-run = refl

pub weight_in_mid_run-sound : IsSoundFor 25 machine_weight_in_mid_run
unfolding machine_weight_in_mid_run
weight_in_mid_run-sound = refl
