use Rattle.std.proofs.Common.{◌∙◌, sym}
use Rattle.sched_laws.proofs.SiblingsLaw.{some_processor}
use Rattle.pool_core.specs.Seen.{pool_of}
use Rattle.pool_core.proofs.ByActor.{arrive_first, decide_first, leave_first, no_step, save_first}
use Rattle.pool_core.proofs.actors.leader_step.Goals as goal

pub returns-then-may_arrive : goal.returns-then-may_arrive
returns-then-may_arrive c guests s =
    arrive_first c.args.cores.now.granularity c.args.t.0 (pool_of guests c.args.cores.now s) c.args.p c.args.r.0 (some_processor c.args.cores.now.granularity c.keeps.ensures.granularity) c.requires.number
    (sym (c.may_arrive.ensures guests s) ∙ c.if-may_arrive.true)

pub returns-then-may_decide : goal.returns-then-may_decide
returns-then-may_decide c guests s =
    decide_first c.args.cores.now.granularity c.args.t.0 (pool_of guests c.args.cores.now s) c.args.p c.args.r.0 (some_processor c.args.cores.now.granularity c.keeps.ensures.granularity) c.requires.number
    (sym (c.may_arrive.ensures guests s) ∙ c.if-may_arrive.false)
    (sym (c.may_decide.ensures c.args.cores.now.granularity guests s) ∙ c.if-may_decide.true)

pub returns-then-may_leave : goal.returns-then-may_leave
returns-then-may_leave c guests s =
    leave_first c.args.cores.now.granularity c.args.t.0 (pool_of guests c.args.cores.now s) c.args.p c.args.r.0 (some_processor c.args.cores.now.granularity c.keeps.ensures.granularity) c.requires.number
    (sym (c.may_arrive.ensures guests s) ∙ c.if-may_arrive.false)
    (sym (c.may_decide.ensures c.args.cores.now.granularity guests s) ∙ c.if-may_decide.false)
    (sym (c.may_leave.ensures guests s) ∙ c.if-may_leave.true)

pub returns-then-may_save : goal.returns-then-may_save
returns-then-may_save c guests s =
    save_first c.args.cores.now.granularity c.args.t.0 (pool_of guests c.args.cores.now s) c.args.p c.args.r.0 (some_processor c.args.cores.now.granularity c.keeps.ensures.granularity) c.requires.number
    (sym (c.may_arrive.ensures guests s) ∙ c.if-may_arrive.false)
    (sym (c.may_decide.ensures c.args.cores.now.granularity guests s) ∙ c.if-may_decide.false)
    (sym (c.may_leave.ensures guests s) ∙ c.if-may_leave.false)
    (sym (c.may_save.ensures c.args.cores.now.granularity guests s) ∙ c.if-may_save.true)

pub returns : goal.returns
returns c guests s =
    no_step c.args.cores.now.granularity c.args.t.0 (pool_of guests c.args.cores.now s) c.args.p c.args.r.0 (some_processor c.args.cores.now.granularity c.keeps.ensures.granularity) c.requires.number
    (sym (c.may_arrive.ensures guests s) ∙ c.if-may_arrive.false)
    (sym (c.may_decide.ensures c.args.cores.now.granularity guests s) ∙ c.if-may_decide.false)
    (sym (c.may_leave.ensures guests s) ∙ c.if-may_leave.false)
    (sym (c.may_save.ensures c.args.cores.now.granularity guests s) ∙ c.if-may_save.false)
