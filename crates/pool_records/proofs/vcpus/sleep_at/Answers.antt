use Rattle.sched_model.specs.Pool.{put_to_sleep}
use Rattle.sched_model.proofs.PlaceLemmas.{slice_set-changed}
use Rattle.pool_records.proofs.vcpus.sleep_at.Goals as goal

pub returns-in-Some : goal.returns-in-Some
returns-in-Some c = rw (c.fall_asleep.ensures, slice_set-changed c.args.index (put_to_sleep c.args.t.0) c.args.domain.now.vcpus c.in-Some.v.now c.in-Some.ensures.value)
