use Rattle.sched_plain.proofs.SeenLaw.{core_seen}
use Rattle.sched_plain.proofs.first.is_core_behind.Goals as goal

pub core_floor_now-found-requires-clause-waits : goal.core_floor_now-found-requires-clause-waits
core_floor_now-found-requires-clause-waits c = c.requires.seen.waits

pub returns-clause-seen : goal.returns-clause-seen
returns-clause-seen c =
    core_seen c.args.machine.now c.args.state.now c.args.r c.core_floor_now-found.result c.args.outlook.now c.core_floor_now-found.new.waits c.core_floor_now-found.ensures.floor c.core_floor_now-found.ensures.waits c.requires.seen
