use Rattle.tool_actions.proofs.DomainMoves.{joining-range, none-there, params-fit, stands-joined, to-some}
use Rattle.tool_actions.proofs.domains.join_pool.Goals as goal

pub give_domain-requires-clause-some : goal.give_domain-requires-clause-some
give_domain-requires-clause-some c = to-some c.args.trail.now c.args.t.0 c.args.route c.requires.moves c.args.part c.requires.part c.args.slot.now c.requires.stands

pub give_domain-requires-clause-domain : goal.give_domain-requires-clause-domain
give_domain-requires-clause-domain c = joining-range c.args.trail.now c.args.t.0 c.args.route c.requires.moves c.args.part c.requires.part

pub give_domain-requires-clause-absent : goal.give_domain-requires-clause-absent
give_domain-requires-clause-absent c = none-there c.args.trail.now c.args.t.0 c.args.route c.requires.moves c.args.part c.requires.part c.args.slot.now c.requires.stands

pub give_domain-requires-clause-params : goal.give_domain-requires-clause-params
give_domain-requires-clause-params c =
    params-fit c.args.trail.now c.args.t.0 c.args.route c.requires.moves c.args.part c.requires.part c.args.slot.now c.requires.stands c.default_dom_params.result c.default_dom_params.ensures.fit

pub returns : goal.returns
returns c =
    stands-joined c.args.trail.now c.args.t.0 c.args.route c.requires.moves c.args.part c.requires.part c.args.slot.now c.requires.stands c.default_dom_params.result c.give_domain.new.self c.default_dom_params.ensures.default c.give_domain.ensures
