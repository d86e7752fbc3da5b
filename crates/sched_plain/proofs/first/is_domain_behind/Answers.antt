use Rattle.sched_plain.proofs.SeenLaw.{domain_seen}
use Rattle.sched_plain.proofs.first.is_domain_behind.Goals as goal

pub domain_floor_now-found-requires-clause-waits : goal.domain_floor_now-found-requires-clause-waits
domain_floor_now-found-requires-clause-waits c = c.requires.seen.waits

pub returns-clause-seen : goal.returns-clause-seen
returns-clause-seen c =
    domain_seen c.args.machine.now c.args.state.now c.args.d c.domain_floor_now-found.result c.args.outlook.now c.domain_floor_now-found.new.waits c.domain_floor_now-found.ensures.floor c.domain_floor_now-found.ensures.waits c.requires.seen
