use Rattle.std.proofs.Common.{◌≡◌, ◌<◌, ◌∙◌, length, sym, ap, subst}
use Rattle.std.specs.Prelude.{None, Some, option_map}
use Rattle.std.specs.Option.{ForSome}
use Rattle.sched_base.specs.declared.ResId.{ResId}
use Rattle.sched_model.specs.declared.action.Action.TheVariants.{Moved}
use Rattle.sched_model.specs.Machine.{after}
use Rattle.sched_model.specs.Places.{at_place, clear_at}
use Rattle.sched_model.specs.Pool.{settled_pool}
use Rattle.journal_core.specs.Parts.{core_to}
use Rattle.cpupool.specs.ToolArrival.{but_for_free}
use Rattle.cpupool.specs.Tool.{Tool, tool_of}
use Rattle.pool_core.specs.Seen.{Seen, seen_at, with_core}
use Rattle.machine_parts.specs.Places.{state_of}
use Rattle.tool_actions.proofs.CoreMoves.{acted-joins, counts-joins, ends-it, event-joins, free-there, joins-absent, joins-now, joins-place, joins-siblings, stands-joined}
use Rattle.tool_actions.proofs.cores.join_core.Goals as goal
use Rattle.tool_actions.proofs.cores.join_core.Goals.{After-move_done}

pub take_free-core-requires : goal.take_free-core-requires
take_free-core-requires c = free-there c.args.trail.now c.args.tool.now c.args.t.0 c.args.r.0 c.requires.begins c.args.pool.0 c.requires.way

pub attach-requires-clause-now : goal.attach-requires-clause-now
attach-requires-clause-now c =
    let core = c.take_free-core in
    joins-now c.args.trail.now c.args.tool.now c.args.t.0 c.args.r.0 c.requires.begins c.args.pool.0 c.requires.way core.result.stall_ends core.ensures.ends c.args.slot.now c.requires.stands

pub attach-requires-clause-place : goal.attach-requires-clause-place
attach-requires-clause-place c =
    let core = c.take_free-core in
    subst (λ (r : ResId). ForSome c.args.slot.now (λ seen. r.0 < length seen.pool.resources)) (sym core.ensures.core)
    (joins-place c.args.trail.now c.args.tool.now c.args.t.0 c.args.r.0 c.requires.begins c.args.pool.0 c.requires.way core.result.stall_ends core.ensures.ends c.args.slot.now c.requires.stands)

pub attach-requires-clause-absent : goal.attach-requires-clause-absent
attach-requires-clause-absent c =
    let core = c.take_free-core in
    subst (λ (r : ResId). ForSome c.args.slot.now (λ seen. at_place seen.pool.resources r.0 ≡ None)) (sym core.ensures.core)
    (joins-absent c.args.trail.now c.args.tool.now c.args.t.0 c.args.r.0 c.requires.begins c.args.pool.0 c.requires.way core.result.stall_ends core.ensures.ends c.args.slot.now c.requires.stands)

pub attach-requires-clause-siblings : goal.attach-requires-clause-siblings
attach-requires-clause-siblings c =
    let core = c.take_free-core in
    joins-siblings c.args.trail.now c.args.tool.now c.args.t.0 c.args.r.0 c.requires.begins c.args.pool.0 c.requires.way core.result.stall_ends core.ensures.ends c.args.slot.now c.requires.stands

pub returns-clause-event : goal.returns-clause-event
returns-clause-event c = event-joins c.args.trail.now c.args.tool.now c.args.t.0 c.args.r.0 c.requires.begins c.args.pool.0 c.requires.way

pub returns-clause-stands : goal.returns-clause-stands
returns-clause-stands c =
    let core = c.take_free-core in
    let t = c.args.t.0 in
    let begins = c.requires.begins in
    stands-joined c.args.trail.now c.args.tool.now t c.args.r.0 begins c.args.pool.0 c.requires.way core.result.stall_ends core.ensures.ends c.args.slot.now c.requires.stands
    _ (event-joins c.args.trail.now c.args.tool.now t c.args.r.0 begins c.args.pool.0 c.requires.way) c.attach.new.self
    (subst (λ (r : ResId). c.attach.new.self ≡ option_map (λ (seen : Seen). seen_at t (settled_pool t (with_core r.0 core.result.stall_ends seen.pool)) seen) c.args.slot.now) core.ensures.core c.attach.ensures)

-- what the tool knows in the end
done : (c : After-move_done) → c.move_done.new.self ≡ but_for_free (clear_at c.args.r.0 c.args.tool.now.part.free) (tool_of c.args.trail.now.input (after c.args.trail.now.input (state_of c.args.trail.now) (state_of c.args.trail.now).now (Moved c.args.r)))
done c =
    let w = c.args.trail.now in
    let s = state_of w in
    let begins = c.requires.begins in
    let free = clear_at c.args.r.0 c.args.tool.now.part.free in
    let rest = c.take_free-core.ensures.rest in
    c.move_done.ensures.state w.input s s.now (core_to c.args.r.0 (Some c.args.pool.0)) free (ap (but_for_free free) begins.known ∙ sym rest) (ap (λ (x : Tool). x.part.under_way) rest ∙ c.requires.way)
    (ends-it w c.args.tool.now c.args.t.0 c.args.r.0 begins)

pub returns-clause-acted : goal.returns-clause-acted
returns-clause-acted c =
    let begins = c.requires.begins in
    acted-joins c.args.trail.now c.args.tool.now c.args.t.0 c.args.r.0 begins c.args.pool.0 c.requires.way c.move_done.new.self (done c) _ (event-joins c.args.trail.now c.args.tool.now c.args.t.0 c.args.r.0 begins c.args.pool.0 c.requires.way)

pub returns-clause-counts : goal.returns-clause-counts
returns-clause-counts c = counts-joins c.args.trail.now c.args.tool.now c.args.t.0 c.args.r.0 c.requires.begins c.args.pool.0 c.requires.way c.move_done.new.self (done c)
