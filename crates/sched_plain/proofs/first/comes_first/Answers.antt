use Rattle.sched_plain.proofs.FirstLaw.{known_first}
use Rattle.sched_plain.proofs.first.comes_first.Goals as goal

pub returns-clause-first : goal.returns-clause-first
returns-clause-first c is =
    known_first c.args.machine.now c.args.state.now c.requires.stands c.args.action c.all_domains_behind.new.outlook.floors c.place_of-kind.result c.core_of-core.result c.domain_of-domain.result c.all_cores_behind.new.outlook.floors.cores
    c.place_of-kind.ensures.place c.core_of-core.ensures c.domain_of-domain.ensures c.all_domains_behind.ensures.others c.all_domains_behind.ensures.seen.floors (c.is_tool_quiet.ensures.quiet c.if-not-is_tool_quiet.false)
    (c.all_cores_behind.ensures.behind c.if-not-all_cores_behind.false) (c.all_domains_behind.ensures.behind c.if-not-all_domains_behind.false) (c.is_first_at_home.ensures is) c.requires.enabled
