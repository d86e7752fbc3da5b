use Rattle.tool_actions.proofs.DomainMoves.{from-some, has-left, may-leave, now-taken, stands-left, units-there}
use Rattle.tool_actions.proofs.domains.leave_pool.Goals as goal

pub is_null-looks-requires-clause-some : goal.is_null-looks-requires-clause-some
is_null-looks-requires-clause-some c = from-some c.args.trail.now c.args.t.0 c.args.route c.requires.moves c.args.slot.now c.requires.stands

pub is_null-looks-requires-clause-units : goal.is_null-looks-requires-clause-units
is_null-looks-requires-clause-units c = units-there c.args.trail.now c.args.t.0 c.args.route c.requires.moves c.args.slot.now c.requires.stands

pub take_domain-part-requires-clause-some : goal.take_domain-part-requires-clause-some
take_domain-part-requires-clause-some c = from-some c.args.trail.now c.args.t.0 c.args.route c.requires.moves c.args.slot.now c.requires.stands

pub take_domain-part-requires-clause-ready : goal.take_domain-part-requires-clause-ready
take_domain-part-requires-clause-ready c = may-leave c.args.trail.now c.args.t.0 c.args.route c.requires.moves c.args.slot.now c.requires.stands

pub look_where-requires : goal.look_where-requires
look_where-requires c = record { now = now-taken c.args.trail.now c.args.t.0 c.args.route c.requires.moves c.args.slot.now c.requires.stands c.take_domain-part.result c.take_domain-part.new.self c.take_domain-part.ensures.after }

pub returns-clause-part : goal.returns-clause-part
returns-clause-part c =
    has-left c.args.trail.now c.args.t.0 c.args.route c.requires.moves c.args.slot.now c.requires.stands c.take_domain-part.result c.take_domain-part.ensures.number c.take_domain-part.ensures.granularity c.take_domain-part.ensures.domain c.take_domain-part.ensures.part

pub returns-clause-stands : goal.returns-clause-stands
returns-clause-stands c =
    stands-left c.args.trail.now c.args.t.0 c.args.route c.requires.moves c.args.slot.now c.requires.stands c.take_domain-part.result c.is_null-looks.result c.take_domain-part.new.self c.look_where.new.slot c.is_null-looks.ensures c.take_domain-part.ensures.after
    c.look_where.ensures
