use Rattle.std.proofs.lemmas.Bool.{not-true}
use Rattle.sched_plain.proofs.FloorLists.{behind_if_asked}
use Rattle.sched_plain.proofs.first.are_behind.Goals as goal

pub returns : goal.returns
returns c is = behind_if_asked c.args.kind c.args.own c.args.floors.now c.told-floors (c.is_one_low.ensures.behind (not-true c.is_one_low.result is))
