use Rattle.sched_base.specs.Numbers.{moment}
use Rattle.std.proofs.Common.{◌∙◌, ◌/◌, ◌%◌, ap, sym}
use Rattle.cpupool.specs.Tool.{Tool, tool_of}
use Rattle.cpupool.specs.Dues.{free_stall_end, free_stalled}
use Rattle.cpupool.proofs.StallLemmas.{end-seen, stalled-seen}
use Rattle.cpupool.proofs.tool.ToolState.stall_free.Goals as goal

-- the end is that of the state
pub returns-clause-end : goal.returns-clause-end
returns-clause-end c = λ m s same free.
    c.stall_end.ensures.end
    ∙ ap (λ (tool : Tool). moment (free_stall_end tool.part (c.args.p.0 / tool.granularity) (c.args.p.0 % tool.granularity) c.args.until.0)) (sym same)
    ∙ ap moment (end-seen m s c.args.p.0 free c.args.until.0)

-- and so is the part
pub returns-clause-state : goal.returns-clause-state
returns-clause-state c = λ m s same free.
    c.stall_end.ensures.part
    ∙ ap (λ (tool : Tool). record tool { part = free_stalled tool.part (c.args.p.0 / tool.granularity) (c.args.p.0 % tool.granularity) c.stall_end.result.0 }) (sym same)
    ∙ ap (λ part. record (tool_of m s) { part = part }) (stalled-seen m s c.args.p.0 free c.stall_end.result.0)
