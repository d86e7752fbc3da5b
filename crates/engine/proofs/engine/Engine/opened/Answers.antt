use Rattle.std.proofs.Common.{subst}
use Rattle.sched_model.specs.declared.machine.Machine.{Machine}
use Rattle.engine.specs.EngineState.{IsIdleFrom}
use Rattle.machine_parts.proofs.Rests.{tool-rests}
use Rattle.engine.proofs.Beginning.{running-opened, standing-opened}
use Rattle.engine.proofs.engine.Engine.opened.Goals as goal

pub invariant_of-result : goal.invariant_of-result
invariant_of-result c =
    let m : Machine = record { config = c.args.config.now; work = c.args.work } in (
      running-opened m c.requires c.in_ok-trail.trail c.in_ok-trail.ensures.trail c.in_ok-slots.slots.items c.in_ok-trail.tool c.in_ok-trail.spares c.in_ok-slots.firsts.items c.in_ok-slots.nexts.items
          (c.in_ok-slots.ensures.stand c.args.work) c.in_ok-trail.ensures.tool c.in_ok-trail.ensures.spares c.in_ok-slots.ensures.kept,
      subst (IsIdleFrom c.busy_places-busy.result) c.as_slice.ensures.value c.busy_places-busy.ensures,
      tool-rests 0 c.in_ok-trail.tool c.tool_rests-quiet.result c.tool_rests-quiet.ensures,
    )

pub returns : goal.returns
returns c =
    let m : Machine = record { config = c.args.config.now; work = c.args.work } in
    standing-opened m c.requires c.in_ok-trail.trail c.in_ok-trail.ensures.trail
