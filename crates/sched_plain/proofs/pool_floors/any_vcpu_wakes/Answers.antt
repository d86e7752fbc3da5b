use Rattle.std.proofs.Common.{◌∙◌, ap, arith}
use Rattle.sched_plain.specs.PoolFloors.{vcpus_among}
use Rattle.sched_plain.proofs.FloorBounds.{all_wakes, no_vcpu_behind}
use Rattle.sched_plain.proofs.pool_floors.any_vcpu_wakes.Goals as goal

pub returns : goal.returns
returns c none n =
    all_wakes c.args.granularity c.args.t.0 c.args.pool.now c.args.d c.vcpu_count.result
    (λ k past. no_vcpu_behind c.args.granularity c.args.t.0 c.args.pool.now c.args.d k (let is = c.vcpu_count.ensures ∙ ap (vcpus_among c.args.d.0) c.as_slice.ensures in omega (arith, is, past)))
    (c.any_wakes.ensures none) n
