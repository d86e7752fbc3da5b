use Rattle.std.proofs.Common.{◌≡◌, length, arith}
use Rattle.hall.proofs.Locking.{keeps_on, pools_more, pools_still}
use Rattle.hall.proofs.all.take_all.Goals as goal

pub loop-i-preserved : goal.loop-i-preserved
loop-i-preserved g c =
    let i = c.loop-i.invariant in let slots = c.loop-i.slots.items in let new = c.take_pool.new.seat in
    let before = pools_still c.loop-i.i slots c.loop-i.seat.view new.view (let count = i.2 in omega (arith, count)) c.take_pool.ensures.still i.3 in (
      keeps_on c.args.seat.now c.loop-i.seat new i.0 c.take_pool.ensures.keeps,
      c.take_pool.ensures.below,
      (let len = c.push.ensures.len in let count = i.2 in omega (arith, len, count)),
      pools_more c.loop-i.i slots c.push.new.self.items c.take_pool.result new.view c.push.ensures.items i.2 before c.take_pool.ensures.knows,
    )

pub returns-clause-knows : goal.returns-clause-knows
returns-clause-knows g c =
    let i = c.loop-i.invariant in let end = c.loop-i.auto.i-end in let test = c.loop-i-test.false in
    let count : length c.loop-i.slots.items ≡ 16 = (let have = i.2 in omega (arith, have, end, test)) in record {
      count = count;
      pools = pools_still 16 c.loop-i.slots.items c.loop-i.seat.view c.take_tool-tool.new.seat.view (omega (arith, count)) c.take_tool-tool.ensures.still i.3;
      tool = c.take_tool-tool.ensures.knows;
      others = λ k high. c.take_tool-tool.ensures.below.others k (omega (arith, high));
    }
