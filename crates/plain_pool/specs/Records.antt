-- What a replenishment and a refill do to cores, and what the line of a refill says.
use Rattle.std.specs.Prelude.{ℕ, ℤ, pos, List, Option, None, Some}
use Rattle.sched_model.specs.declared.state.Resource.{Resource}
use Rattle.sched_model.specs.Places.{change_at}
use Rattle.sched_model.specs.Pool.{due_within}
use Rattle.sched_model.specs.declared.state.Pool.{Pool}
use Rattle.sched_model.specs.Credit2.{passed_periods}
use Rattle.sched_model.specs.Policy.{domain_credit2_record}

-- the domain's periods that have come at t since its refill was due
abbrev pub periods_at : ℕ → ℕ → Pool → ℕ
periods_at t d pool = elim (domain_credit2_record pool.scheduler.records d) [ None ↦ 0 | Some x ↦ passed_periods x t ]

-- the budget that is left to the domain
abbrev pub budget_at : ℕ → Pool → ℤ
budget_at d pool = elim (domain_credit2_record pool.scheduler.records d) [ None ↦ pos 0 | Some x ↦ x.budget ]

-- the core, where one is given, asks again after the budget at the latest
abbrev pub due_at_core : Option ℕ → ℕ → ℕ → List (Option Resource) → List (Option Resource)
due_at_core None t budget cores = cores
due_at_core (Some r) t budget cores = change_at r (due_within t budget) cores
