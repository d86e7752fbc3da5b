use Rattle.std.proofs.Common.{◌≡◌, ◌∙◌, ℕ, ap, sym, subst}
use Rattle.std.specs.Prelude.{Option}
use Rattle.sched_base.specs.declared.Moment.{Moment}
use Rattle.cpupool.specs.Tool.{Tool}
use Rattle.cpupool.specs.Dues.{is_anything_due}
use Rattle.journal_core.specs.ToolActions.{IsLeastLater, tool_may_act}
use Rattle.cpupool.proofs.DueLemmas.{soonest_least, same_least}
use Rattle.cpupool.proofs.ComingLemmas.{act-seen}
use Rattle.cpupool.proofs.tool.ToolState.next_due.Goals as goal

-- the soonest of the three is the least later moment
pub returns-clause-part : goal.returns-clause-part
returns-clause-part c =
    let least : Option Moment → Type 0 = λ o. IsLeastLater c.args.t.0 (is_anything_due c.args.self.now) o in
    subst least (sym c.soonest_after.ensures) (soonest_least c.args.self.now c.args.t.0)

-- and so it is of what the state lets happen
pub returns-clause-state : goal.returns-clause-state
returns-clause-state c = λ m s same.
    let seen : (later : ℕ) → is_anything_due c.args.self.now later ≡ tool_may_act m s later = λ later. ap (λ (tool : Tool). is_anything_due tool later) (sym same) ∙ act-seen m s later in
    same_least c.args.t.0 (is_anything_due c.args.self.now) (tool_may_act m s) seen c.soonest_after.result
    (subst (λ (o : Option Moment). IsLeastLater c.args.t.0 (is_anything_due c.args.self.now) o) (sym c.soonest_after.ensures) (soonest_least c.args.self.now c.args.t.0))
