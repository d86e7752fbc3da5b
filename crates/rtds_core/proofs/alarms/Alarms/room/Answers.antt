use Rattle.std.proofs.Common.{ap, length, List, Option, None, sym, ◌∙◌}
use Rattle.std.proofs.lemmas.List.{length-replicate}
use Rattle.sched_base.specs.declared.Moment.{Moment}
use Rattle.rtds_core.proofs.alarms.Alarms.room.Goals as goal

pub invariant_of-result : goal.invariant_of-result
invariant_of-result c = (c.in_ok-heap.ensures ∙ sym c.in_ok-dues.ensures, ap (λ (xs : List (Option Moment)). length xs) c.in_ok-dues.ensures ∙ length-replicate {A = Option Moment} 2048 None)
