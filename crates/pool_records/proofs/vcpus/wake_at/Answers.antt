use Rattle.sched_model.specs.Pool.{woken_vcpu}
use Rattle.sched_model.proofs.PlaceLemmas.{slice_set-changed}
use Rattle.pool_records.proofs.vcpus.wake_at.Goals as goal

pub returns-in-Some : goal.returns-in-Some
returns-in-Some c = rw (c.wake_up.ensures, slice_set-changed c.args.index woken_vcpu c.args.domain.now.vcpus c.in-Some.v.now c.in-Some.ensures.value)
