use Rattle.pcpu_threads.proofs.Turning.{closes_refl, closes_trans}
use Rattle.pcpu_threads.proofs.Counting.{of-stays}
use Rattle.pcpu_threads.proofs.closing.close_all.Goals as goal

pub loop-init : goal.loop-init
loop-init g c = closes_refl c.args.seat.now

pub take_turn-requires : goal.take_turn-requires
take_turn-requires g c = of-stays c.args.hall.now c.args.seat.now c.loop.seat c.requires c.loop.invariant.stays

pub loop-preserved : goal.loop-preserved
loop-preserved g c = closes_trans c.args.seat.now c.loop.seat c.take_turn.new.seat c.loop.invariant c.in_default.ensures.closes

pub returns-in-Some-take_turn-clause-closes : goal.returns-in-Some-take_turn-clause-closes
returns-in-Some-take_turn-clause-closes g c = closes_trans c.args.seat.now c.loop.seat c.take_turn.new.seat c.loop.invariant c.in-Some-take_turn.ensures.closes
