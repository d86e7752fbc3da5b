use Rattle.std.proofs.Common.{◌+◌, ◌-◌, ◌∙◌, List, ap, arith}
use Rattle.std.specs.Prelude.{Option}
use Rattle.sched_base.specs.declared.Moment.{Moment}
use Rattle.core_state.specs.Seen.{cleared_works}
use Rattle.core_state.proofs.ChangeLemmas.{without_works-turn, without_works-done}
use Rattle.core_state.proofs.changes.clear_works.Goals as goal

pub loop-i-preserved : goal.loop-i-preserved
loop-i-preserved c =
    ap (λ (ws : List (Option Moment)). cleared_works (c.args.p + (c.loop-i.i + 1)) (c.args.count - (c.loop-i.i + 1)) ws) c.take_item.ensures.places
    ∙ without_works-turn c.args.p c.loop-i.i c.args.count c.loop-i.works (omega arith) ∙ c.loop-i.invariant

pub returns : goal.returns
returns c = without_works-done c.args.p c.loop-i.i c.args.count c.loop-i.works (omega arith) ∙ c.loop-i.invariant
