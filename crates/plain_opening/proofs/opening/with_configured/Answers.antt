use Rattle.std.proofs.Common.{◌∙◌, ap}
use Rattle.std.specs.Prelude.{map}
use Rattle.sched_model.specs.Opening.{vcpu_at_opening}
use Rattle.plain_opening.proofs.Queues.{room_of_domain}
use Rattle.plain_opening.proofs.opening.with_configured.Goals as goal

pub with_domain-requires-clause-room : goal.with_domain-requires-clause-room
with_domain-requires-clause-room c =
    room_of_domain c.args.granularity c.args.d.0 c.args.joining.now c.args.pool.now c.in_ok-fresh_vcpus.field-0 (c.in_ok-fresh_vcpus.ensures ∙ ap (map vcpu_at_opening) c.as_slice.ensures) c.requires.room
