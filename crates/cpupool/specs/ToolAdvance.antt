-- What an accepted command does to the tool's part.
use Rattle.std.specs.Prelude.{ℕ, suc, ◌/◌, ◌==◌, ◌&&◌, not, Bool, false, Some, None, is_some, length, replicate, if◌then◌else◌}
use Rattle.sched_model.specs.declared.config.SchedKind.{SchedKind}
use Rattle.sched_model.specs.declared.plan.Plan.{Plan}
use Rattle.sched_model.specs.declared.plan.Plan.TheVariants as plan
use Rattle.sched_model.specs.Places.{at_place, put_at, clear_at}
use Rattle.journal_core.specs.Parts.{Outline, ToolPart, core_to, domain_to}
use Rattle.cpupool.specs.Verdicts.{has_outlined_core}
use Rattle.cpupool.specs.Tool.{Tool}

-- a pool without cores and domains
abbrev pub fresh_outline : Tool → SchedKind → Outline
fresh_outline tool kind = record { kind = kind; cores = replicate (tool.processors / tool.granularity) false; domains = replicate (length tool.domains) None }

-- whether the pool i has the core
abbrev pub has_outlined_core_at : ToolPart → ℕ → ℕ → Bool
has_outlined_core_at part i r = elim (at_place part.pools i) [ None ↦ false | Some o ↦ has_outlined_core o r ]

-- whether the pool i has the domain
abbrev pub has_outlined_domain_at : ToolPart → ℕ → ℕ → Bool
has_outlined_domain_at part i d = elim (at_place part.pools i) [ None ↦ false | Some o ↦ is_some (at_place o.domains d) ]

-- the part after the plan, where nothing was on its way: pools come, go and are named anew, and a core or a domain sets out
abbrev pub carried_part : Tool → Plan → ToolPart → ToolPart
carried_part tool (plan.PoolCreate i name kind answer) part = record part { names = put_at i.0 name part.names; pools = put_at i.0 (fresh_outline tool kind) part.pools }
carried_part tool (plan.PoolDestroy i answer) part = record part { names = clear_at i.0 part.names; pools = clear_at i.0 part.pools }
carried_part tool (plan.PoolRename i name answer) part = record part { names = put_at i.0 name part.names }
carried_part tool (plan.CpuAdd i core answer) part = record part { under_way = (if is_some (at_place part.free core.0) then Some (core_to core.0 (Some i.0)) else None) }
carried_part tool (plan.CpuRemove i core answer) part = record part { under_way = (if has_outlined_core_at part i.0 core.0 then Some (core_to core.0 None) else None) }
carried_part tool (plan.Migrate d i j answer) part = record part { under_way = (if not (i.0 == j.0) && has_outlined_domain_at part i.0 d.0 then Some (domain_to d.0 j.0) else None) }
carried_part tool _ part = part

-- the command is over
abbrev pub after_advance : Tool → Plan → Tool
after_advance tool p = record tool { part = record (carried_part tool p tool.part) { next_command = suc tool.part.next_command } }
