-- Caps of Credit2, computed.
use Rattle.std.proofs.Common.{refl}
use Rattle.sched_examples.specs.Words.{RunsAs, IsSoundFor}
use Rattle.sched_examples.specs.Caps.{machine_capped_domain, entries_capped_domain, machine_late_refill, entries_late_refill, machine_cap_in_mid_run, entries_cap_in_mid_run, machine_overrun_is_paid_back, entries_overrun_is_paid_back}

pub capped_domain-run : RunsAs machine_capped_domain entries_capped_domain
unfolding machine_capped_domain entries_capped_domain
capped_domain-run = refl

pub capped_domain-sound : IsSoundFor 32 machine_capped_domain
unfolding machine_capped_domain
capped_domain-sound = refl

pub late_refill-run : RunsAs machine_late_refill entries_late_refill
unfolding machine_late_refill entries_late_refill
late_refill-run = refl

pub late_refill-sound : IsSoundFor 36 machine_late_refill
unfolding machine_late_refill
late_refill-sound = refl

pub cap_in_mid_run-run : RunsAs machine_cap_in_mid_run entries_cap_in_mid_run
unfolding machine_cap_in_mid_run entries_cap_in_mid_run
cap_in_mid_run-run = refl

pub cap_in_mid_run-sound : IsSoundFor 21 machine_cap_in_mid_run
unfolding machine_cap_in_mid_run
cap_in_mid_run-sound = refl

pub overrun_is_paid_back-run : RunsAs machine_overrun_is_paid_back entries_overrun_is_paid_back
unfolding machine_overrun_is_paid_back entries_overrun_is_paid_back
overrun_is_paid_back-run = refl

pub overrun_is_paid_back-sound : IsSoundFor 23 machine_overrun_is_paid_back
unfolding machine_overrun_is_paid_back
overrun_is_paid_back-sound = refl
