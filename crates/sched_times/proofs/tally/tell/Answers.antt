use Rattle.sched_times.proofs.Within.{users_with-within}
use Rattle.sched_times.proofs.tally.tell.Goals as goal

pub set_asleep-requires : goal.set_asleep-requires
set_asleep-requires c = rw c.give_if.ensures.users (users_with-within c.args.grant c.args.now c.args.resources.now c.args.users.now c.requires.users)
