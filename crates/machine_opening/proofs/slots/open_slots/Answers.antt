use Rattle.std.proofs.Common.{◌+◌, ◌∙◌, sym, subst}
use Rattle.machine_opening.proofs.Placing.{AreFirst, place_more}
use Rattle.machine_opening.proofs.slots.open_slots.Goals as goal

pub loop-i-preserved : goal.loop-i-preserved
loop-i-preserved c = record {
  first = subst (AreFirst c.args.config.now (c.loop-i.i + 1)) (sym c.push_reserved.ensures.items) (place_more c.args.config.now c.loop-i.i c.loop-i.slots.items c.in_ok-open_slot.field-0 c.loop-i.invariant.first c.in_ok-open_slot.ensures);
  room = c.push_reserved.ensures.capacity ∙ c.loop-i.invariant.room;
}
