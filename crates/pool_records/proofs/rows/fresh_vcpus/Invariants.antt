use Rattle.std.proofs.Common.{◌≡◌, take}
use Rattle.std.specs.Prelude.{map}
use Rattle.sched_model.specs.Opening.{vcpu_at_opening}
use Rattle.pool_records.proofs.rows.fresh_vcpus.Given as goal

abbrev pub invariant-loop-script : goal.invariant-loop-script
invariant-loop-script l = l.vcpus.items ≡ map vcpu_at_opening (take l.script-index l.guests)
