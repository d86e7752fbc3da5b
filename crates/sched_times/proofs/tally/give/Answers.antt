use Rattle.std.specs.Prelude.{None}
use Rattle.sched_times.proofs.Within.{having-within}
use Rattle.sched_times.proofs.tally.give.Goals as goal

pub hand-requires : goal.hand-requires
hand-requires c = rw c.take_back.ensures (having-within c.args.now _ None c.args.users.now c.requires.users)
