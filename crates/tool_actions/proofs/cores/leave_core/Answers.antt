use Rattle.std.proofs.Common.{◌≡◌, ◌<◌, ◌∙◌, length, sym, ap, subst}
use Rattle.std.specs.Prelude.{None}
use Rattle.sched_base.specs.declared.ResId.{ResId}
use Rattle.sched_model.specs.declared.action.Action.TheVariants.{Moved}
use Rattle.sched_model.specs.Machine.{after}
use Rattle.sched_model.specs.Places.{at_place, put_at}
use Rattle.journal_core.specs.Parts.{core_to}
use Rattle.cpupool.specs.ToolArrival.{but_for_free}
use Rattle.cpupool.specs.Tool.{Tool, tool_of}
use Rattle.machine_parts.specs.Places.{state_of}
use Rattle.tool_actions.proofs.CoreMoves.{acted-leaves, counts-leaves, ends-it, event-leaves, has-pool, leaves-now, leaves-ready, none-free, place-free, stands-left}
use Rattle.tool_actions.proofs.cores.leave_core.Goals as goal
use Rattle.tool_actions.proofs.cores.leave_core.Goals.{After-move_done}

pub detach-core-requires-clause-some : goal.detach-core-requires-clause-some
detach-core-requires-clause-some c = has-pool c.args.trail.now c.args.tool.now c.args.t.0 c.args.r.0 c.requires.begins c.args.pool.0 c.requires.way c.requires.home c.args.slot.now c.requires.stands

pub detach-core-requires-clause-now : goal.detach-core-requires-clause-now
detach-core-requires-clause-now c = leaves-now c.args.trail.now c.args.tool.now c.args.t.0 c.args.r.0 c.requires.begins c.args.pool.0 c.requires.way c.requires.home c.args.slot.now c.requires.stands

pub detach-core-requires-clause-ready : goal.detach-core-requires-clause-ready
detach-core-requires-clause-ready c = leaves-ready c.args.trail.now c.args.tool.now c.args.t.0 c.args.r.0 c.requires.begins c.args.pool.0 c.requires.way c.requires.home c.args.slot.now c.requires.stands

pub give_free-requires-clause-core : goal.give_free-requires-clause-core
give_free-requires-clause-core c =
    subst (λ (r : ResId). r.0 < length c.args.tool.now.part.free) (sym c.detach-core.ensures.number)
    (place-free c.args.trail.now c.args.tool.now c.args.t.0 c.args.r.0 c.requires.begins c.args.pool.0 c.requires.way c.requires.home c.args.slot.now c.requires.stands)

pub give_free-requires-clause-new : goal.give_free-requires-clause-new
give_free-requires-clause-new c =
    subst (λ (r : ResId). at_place c.args.tool.now.part.free r.0 ≡ None) (sym c.detach-core.ensures.number)
    (none-free c.args.trail.now c.args.tool.now c.args.t.0 c.args.r.0 c.requires.begins c.args.pool.0 c.requires.way c.requires.home c.args.slot.now c.requires.stands)

pub returns-clause-event : goal.returns-clause-event
returns-clause-event c = event-leaves c.args.trail.now c.args.tool.now c.args.t.0 c.args.r.0 c.requires.begins c.args.pool.0 c.requires.way c.requires.home c.args.slot.now c.requires.stands

pub returns-clause-stands : goal.returns-clause-stands
returns-clause-stands c =
    stands-left c.args.trail.now c.args.tool.now c.args.t.0 c.args.r.0 c.requires.begins c.args.pool.0 c.requires.way c.requires.home c.args.slot.now c.requires.stands
    _ (event-leaves c.args.trail.now c.args.tool.now c.args.t.0 c.args.r.0 c.requires.begins c.args.pool.0 c.requires.way c.requires.home c.args.slot.now c.requires.stands) c.detach-core.new.self c.detach-core.ensures.after

-- what the tool knows in the end
done : (c : After-move_done)
    → c.move_done.new.self ≡ but_for_free (put_at c.args.r.0 c.detach-core.result.stall_ends c.args.tool.now.part.free) (tool_of c.args.trail.now.input (after c.args.trail.now.input (state_of c.args.trail.now) (state_of c.args.trail.now).now (Moved c.args.r)))
done c =
    let w = c.args.trail.now in
    let s = state_of w in
    let begins = c.requires.begins in
    let core = c.detach-core in
    let free = put_at c.args.r.0 core.result.stall_ends c.args.tool.now.part.free in
    let rest : c.give_free.new.self ≡ but_for_free free c.args.tool.now = c.give_free.ensures ∙ ap (λ (r : ResId). but_for_free (put_at r.0 core.result.stall_ends c.args.tool.now.part.free) c.args.tool.now) core.ensures.number in
    c.move_done.ensures.state w.input s s.now (core_to c.args.r.0 None) free (ap (but_for_free free) begins.known ∙ sym rest) (ap (λ (x : Tool). x.part.under_way) rest ∙ c.requires.way)
    (ends-it w c.args.tool.now c.args.t.0 c.args.r.0 begins)

pub returns-clause-acted : goal.returns-clause-acted
returns-clause-acted c =
    acted-leaves c.args.trail.now c.args.tool.now c.args.t.0 c.args.r.0 c.requires.begins c.args.pool.0 c.requires.way c.requires.home c.args.slot.now c.requires.stands c.detach-core.result.stall_ends c.detach-core.ensures.ends c.move_done.new.self (done c)
    _ (event-leaves c.args.trail.now c.args.tool.now c.args.t.0 c.args.r.0 c.requires.begins c.args.pool.0 c.requires.way c.requires.home c.args.slot.now c.requires.stands)

pub returns-clause-counts : goal.returns-clause-counts
returns-clause-counts c =
    counts-leaves c.args.trail.now c.args.tool.now c.args.t.0 c.args.r.0 c.requires.begins c.args.pool.0 c.requires.way c.requires.home c.args.slot.now c.requires.stands c.detach-core.result.stall_ends c.detach-core.ensures.ends c.move_done.new.self (done c)
