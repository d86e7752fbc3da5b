use Rattle.sched_model.specs.Pool.{stopped_vcpu}
use Rattle.sched_model.proofs.PlaceLemmas.{slice_set-changed}
use Rattle.pool_records.proofs.vcpus.stop_at.Goals as goal

pub returns-in-Some : goal.returns-in-Some
returns-in-Some c = rw (c.stop.ensures, slice_set-changed c.args.index (stopped_vcpu c.args.t.0) c.args.domain.now.vcpus c.in-Some.v.now c.in-Some.ensures.value)
