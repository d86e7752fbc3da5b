use Rattle.hall.proofs.Counting.{free-seen}
use Rattle.hall.proofs.hall.Hall.act.Goals as goal

pub invariant_of-seat : goal.invariant_of-seat
invariant_of-seat g c = (let e = c.act_as_tool.ensures in free-seen c.seat.inside.seat c.act_as_tool.new.seat c.seat.inside.arrived c.seat.invariant e.nothing e.stays.input e.begins)
