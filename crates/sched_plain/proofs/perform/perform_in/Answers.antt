use Rattle.std.proofs.Common.{sym, ◌∙◌}
use Rattle.sched_model.specs.Pool.{after_in}
use Rattle.sched_plain.proofs.KeptLaw.{looked_cores}
use Rattle.sched_plain.proofs.SeenLaw.{event_seen_is, look_seen_is}
use Rattle.sched_plain.proofs.Settling.{spared_then}
use Rattle.sched_plain.proofs.perform.perform_in.Goals as goal

pub returns-else-is_looked_at-clause-pool : goal.returns-else-is_looked_at-clause-pool
returns-else-is_looked_at-clause-pool c =
    c.happen-event.ensures.pool
    ∙ sym (spared_then c.args.granularity c.args.t.0 c.args.pool.now c.args.action c.args.is_settled c.requires.decides c.requires.settled (sym c.needs_look-is_looked_at.ensures ∙ c.if-is_looked_at.false))

pub pend-requires : goal.pend-requires
pend-requires c =
    looked_cores c.args.t.0 (after_in c.args.granularity c.args.t.0 c.args.pool.now c.args.action) c.happen-event.new.pool c.settle.new.pool c.as_slice.result.now c.happen-event.ensures.pool c.settle.ensures c.as_slice.ensures c.requires.after

pub returns-then-is_looked_at-clause-outlook : goal.returns-then-is_looked_at-clause-outlook
returns-then-is_looked_at-clause-outlook c =
    look_seen_is c.args.granularity c.args.t.0 c.args.pool.now c.args.action c.requires.some c.requires.decides.known c.requires.own c.requires.enabled c.happen-event.new.pool c.settle.new.pool c.as_slice.result.now c.args.outlook.now c.touch.new.outlook c.pend.new.outlook
    c.happen-event.ensures.pool c.settle.ensures c.as_slice.ensures c.touch.ensures c.pend.ensures

pub returns-else-is_looked_at-clause-outlook : goal.returns-else-is_looked_at-clause-outlook
returns-else-is_looked_at-clause-outlook c =
    event_seen_is c.args.granularity c.args.t.0 c.args.pool.now c.args.action c.requires.some c.requires.decides.known c.requires.own c.requires.enabled c.happen-event.new.pool c.args.outlook.now c.touch.new.outlook c.happen-event.ensures.pool c.touch.ensures
