use Rattle.std.proofs.Common.{◌≤◌, arith}
use Rattle.sched_model.specs.declared.config.SchedKind.TheVariants as kinds
use Rattle.machine_parts.proofs.spares.Spares.room.Goals as goal

pub room-requires : goal.room-requires
room-requires c =
    let few : c.args.most.credit2 ≤ 16 = c.requires.few kinds.Credit2 in
    let is = c.from.ensures in
    record { few = omega (arith, few, is) }

pub room-requires-2 : goal.room-requires-2
room-requires-2 c =
    let few : c.args.most.rtds ≤ 16 = c.requires.few kinds.Rtds in
    let is = c.from-2.ensures in
    record { few = omega (arith, few, is) }

pub room-requires-3 : goal.room-requires-3
room-requires-3 c =
    let few : c.args.most.arinc ≤ 16 = c.requires.few kinds.Arinc653 in
    let is = c.from-3.ensures in
    record { few = omega (arith, few, is) }

pub room-requires-4 : goal.room-requires-4
room-requires-4 c =
    let few : c.args.most.null ≤ 16 = c.requires.few kinds.Null in
    let is = c.from-4.ensures in
    record { few = omega (arith, few, is) }
