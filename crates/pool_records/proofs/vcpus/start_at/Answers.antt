use Rattle.std.specs.Prelude.{Some}
use Rattle.sched_model.specs.declared.state.Vcpu.{Vcpu}
use Rattle.sched_model.proofs.PlaceLemmas.{slice_set-changed}
use Rattle.pool_records.proofs.vcpus.start_at.Goals as goal

pub returns-in-Some : goal.returns-in-Some
returns-in-Some c = rw (slice_set-changed c.args.index (λ (x : Vcpu). record x { started = Some c.args.t }) c.args.domain.now.vcpus c.in-Some.v.now c.in-Some.ensures.value)
