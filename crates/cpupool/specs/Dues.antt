-- When the tool has something to do, and the stalls of the cores that no pool has.
use Rattle.sched_base.specs.Numbers.{moment}
use Rattle.std.specs.Prelude.{◌+◌, ℕ, ◌||◌, Bool, false, Option, Some, None, List, [], ◌∷◌, is_none, option_map, slice_get, min, max, nat_le, if◌then◌else◌}
use Rattle.sched_base.specs.declared.Moment.{Moment}
use Rattle.sched_model.specs.Places.{at_place, change_at, change_item}
use Rattle.sched_model.specs.declared.work.StallLine.{StallLine}
use Rattle.sched_model.specs.declared.work.CommandLine.{CommandLine}
use Rattle.journal_core.specs.Parts.{ToolPart, UnderWay, core_to, domain_to}
use Rattle.cpupool.specs.Tool.{Tool}
use Rattle.cpupool.specs.Steps.{is_stall_due, is_command_due, joining_ready}

-- whether a stall, a command or the move of a core of no pool may come at t
abbrev pub is_anything_due : Tool → ℕ → Bool
is_anything_due tool t = is_stall_due tool t || is_command_due tool t || joining_ready tool.part t tool.part.under_way

-- the later of the two ends of a stall of the processor at place i of the core r, which no pool has
abbrev pub free_stall_end : ToolPart → ℕ → ℕ → ℕ → ℕ
free_stall_end part r i end = elim (at_place part.free r) [ None ↦ end | Some ends ↦ elim (slice_get ends i) [ None ↦ end | Some old ↦ max old.0 end ] ]

-- that processor stalls up to a moment
abbrev pub free_stalled : ToolPart → ℕ → ℕ → ℕ → ToolPart
free_stalled part r i end = record part { free = change_at r (change_item i (λ old. moment end)) part.free }

-- a moment that is there has come at t
abbrev pub has_come : Option Moment → ℕ → Bool
has_come None t = false
has_come (Some at) t = nat_le at.0 t

-- the sooner of the moments that are there
abbrev pub sooner_of : Option Moment → Option Moment → Option Moment
sooner_of None b = b
sooner_of (Some a) None = Some a
sooner_of (Some a) (Some b) = Some (moment (min a.0 b.0))

-- the moment, or the next after t where that is later
abbrev pub moment_past : ℕ → Option Moment → Option Moment
moment_past t None = None
moment_past t (Some at) = Some (moment (max at.0 (t + 1)))

-- the moments of the next stall and of the next command, and the one at which the core of no pool may join its pool
abbrev pub stall_moment : Tool → Option Moment
stall_moment tool = option_map (λ (line : StallLine). line.at) (slice_get tool.stalls tool.part.next_stall)

abbrev pub command_moment : Tool → Option Moment
command_moment tool = (if is_none tool.part.under_way then option_map (λ (line : CommandLine). line.at) (slice_get tool.commands tool.part.next_command) else None)

abbrev pub first_free_end : Option (List Moment) → Option Moment
first_free_end None = None
first_free_end (Some []) = None
first_free_end (Some (end ∷ ends)) = Some end

abbrev pub joining_moment : ToolPart → Option UnderWay → Option Moment
joining_moment part None = None
joining_moment part (Some (core_to r None)) = None
joining_moment part (Some (core_to r (Some i))) = first_free_end (at_place part.free r)
joining_moment part (Some (domain_to d i)) = None

-- the soonest of the three
abbrev pub soonest_moment : Tool → Option Moment
soonest_moment tool = sooner_of (stall_moment tool) (sooner_of (command_moment tool) (joining_moment tool.part tool.part.under_way))
