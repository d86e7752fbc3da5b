-- What a change of a domain or of parameters does to each core.
use Rattle.sched_base.specs.Numbers.{moment}
use Rattle.std.specs.Prelude.{ℕ, true, List, Option, Some, if◌then◌else◌}
use Rattle.sched_model.specs.declared.config.ParamChange.{ParamChange}
use Rattle.sched_model.specs.declared.config.ParamChange.TheVariants as changes
use Rattle.sched_model.specs.declared.state.Resource.{Resource}
use Rattle.sched_model.specs.Places.{change_each}
use Rattle.sched_model.specs.Pool.{is_domain_unit, pending_core}

-- the core is to decide anew where it runs a unit of the domain
abbrev pub pending_of : ℕ → ℕ → Resource → Resource
pending_of d r c = (if is_domain_unit d c.cur then pending_core c else c)

-- the same, and it is due at t
abbrev pub due_now_of : ℕ → ℕ → ℕ → Resource → Resource
due_now_of d t r c = (if is_domain_unit d c.cur then record c { pending = true; due = Some (moment t) } else c)

-- each core is to decide anew
abbrev pub pending_each : ℕ → Resource → Resource
pending_each r c = pending_core c

-- the cores after those are marked that a change of parameters makes decide anew
abbrev pub marked_cores : ParamChange → ℕ → List (Option Resource) → List (Option Resource)
marked_cores (changes.Dom d weight (Some cap)) t cores = change_each 0 (due_now_of d.0 t) cores
marked_cores (changes.Frame frame) t cores = change_each 0 pending_each cores
marked_cores _ t cores = cores
