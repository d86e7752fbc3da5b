use Rattle.std.proofs.Common.{◌<◌, ◌∙◌, ℕ, ap, length-set, subst, sym}
use Rattle.std.specs.Prelude.{slice_set}
use Rattle.sched_base.specs.declared.DomId.{DomId}
use Rattle.sched_model.specs.declared.action.Action.TheVariants.{DomMoved}
use Rattle.sched_model.specs.declared.event.Event.{Event}
use Rattle.sched_model.specs.Machine.{event_of}
use Rattle.machine_parts.specs.Places.{state_of}
use Rattle.machine_parts.specs.Parts.{AreParts}
use Rattle.tool_actions.specs.Acts.{told_event}
use Rattle.tool_actions.proofs.DomainMoves.{from-below, from-stands, parts-moved, to-below, to-stands}
use Rattle.tool_actions.proofs.domains.move_domain.Goals as goal

pub bounds-slots-route : goal.bounds-slots-route
bounds-slots-route c = from-below c.args.trail.now c.args.t.0 c.route_of-route.result c.route_of-route.ensures.moves c.args.slots.now c.args.tool.now c.requires.parts

pub leave_pool-part-requires-clause-stands : goal.leave_pool-part-requires-clause-stands
leave_pool-part-requires-clause-stands c =
    from-stands c.args.trail.now c.args.t.0 c.route_of-route.result c.route_of-route.ensures.moves c.args.slots.now c.args.tool.now c.requires.parts c.index-slots-route.result

pub bounds-slots-route-2 : goal.bounds-slots-route-2
bounds-slots-route-2 c =
    subst (λ (k : ℕ). c.route_of-route.result.to.0 < k) (sym (length-set c.args.slots.now c.route_of-route.result.from.0 c.leave_pool-part.new.slot))
    (to-below c.args.trail.now c.args.t.0 c.route_of-route.result c.route_of-route.ensures.moves c.args.slots.now c.args.tool.now c.requires.parts)

pub join_pool-requires-clause-stands : goal.join_pool-requires-clause-stands
join_pool-requires-clause-stands c =
    to-stands c.args.trail.now c.args.t.0 c.route_of-route.result c.route_of-route.ensures.moves c.args.slots.now c.args.tool.now c.requires.parts c.leave_pool-part.new.slot c.index-slots-route-2.result

pub returns : goal.returns
returns c =
    let w = c.args.trail.now in
    let a = c.leave_pool-part.new.slot in
    let b = c.join_pool.new.slot in
    let tool = c.end_move.new.tool in
    record {
      event_is = c.end_move.ensures.event ∙ ap (λ (d : DomId). event_of w.input (state_of w) (state_of w).now (DomMoved d)) c.route_of-route.ensures.number;
      parts = subst (λ (e : Event). AreParts (told_event w c.args.t.0 e) (slice_set (slice_set c.args.slots.now c.route_of-route.result.from.0 a) c.route_of-route.result.to.0 b) tool) (sym c.end_move.ensures.event)
          (parts-moved w c.args.t.0 c.route_of-route.result c.route_of-route.ensures.moves c.args.slots.now c.args.tool.now c.requires.parts a b tool c.end_move.ensures.acted c.leave_pool-part.ensures.stands c.join_pool.ensures);
      counts = c.end_move.ensures.counts;
    }
