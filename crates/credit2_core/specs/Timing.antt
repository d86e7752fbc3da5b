-- What a refill tells.
use Rattle.std.specs.Prelude.{ℕ, ℤ, pos, Option, Some, None, nat_le, if◌then◌else◌}
use Rattle.sched_model.specs.declared.state.Credit2Domain.{Credit2Domain}
use Rattle.sched_model.specs.declared.state.Credit2Records.{Credit2Records}
use Rattle.sched_model.specs.Places.{at_place}
use Rattle.sched_model.specs.Credit2.{passed_periods}

-- the moment of the domain's refill, where it has come at t
abbrev pub come_at : ℕ → Option Credit2Domain → Option ℕ
come_at t None = None
come_at t (Some d) = elim d.refill [ None ↦ None | Some at ↦ (if nat_le at t then Some at else None) ]

-- how many of the domain's periods have come at t
abbrev pub domain_periods : Credit2Records → ℕ → ℕ → ℕ
domain_periods records d t = elim (at_place records.domains d) [ None ↦ 0 | Some x ↦ passed_periods x t ]

-- the budget that is left to the domain
abbrev pub domain_budget : Credit2Records → ℕ → ℤ
domain_budget records d = elim (at_place records.domains d) [ None ↦ pos 0 | Some x ↦ x.budget ]
