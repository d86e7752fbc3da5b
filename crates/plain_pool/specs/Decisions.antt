-- What was decided at a core.
use Rattle.std.specs.Prelude.{ℕ, true, false}
use Rattle.sched_base.specs.Numbers.{moment}
use Rattle.sched_model.specs.declared.state.Resource.{Resource}
use Rattle.sched_model.specs.declared.state.Stage.TheVariants as stage
use Rattle.sched_model.specs.Pool.{same_choice}
use Rattle.plain_schedulers.specs.declared.decided.Decided.{Decided}

-- the core with what was decided
abbrev pub decided_by : ℕ → Decided → Resource → Resource
decided_by t answer c =
    elim (same_choice answer.unit c.cur) [
      | true ↦ record c { due = answer.due; pending = false; stage = stage.Decided }
      | false ↦ record c { saving = c.cur; cur = answer.unit; since = moment t; due = answer.due; pending = false; stage = stage.Decided }
    ]
