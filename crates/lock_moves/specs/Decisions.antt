-- Whose decision an action is.
use Rattle.std.specs.Prelude.{ℕ, suc, Option, Some}
use Rattle.sched_model.specs.declared.action.Action.{Action}
use Rattle.sched_model.specs.declared.action.Action.TheVariants.{Decide}

-- 1 more than the core whose decision the action is, or 0 where it is none: what a view has in `named` when it adds the action's event
abbrev pub who_decides : Option Action → ℕ
who_decides (Some (Decide r)) = suc r.0
who_decides _ = 0
