-- A tool of which nothing may come.
use Rattle.std.specs.Prelude.{ℕ, ◌≡◌, None}
use Rattle.sched_model.specs.declared.machine.Machine.{Machine}
use Rattle.sched_model.specs.declared.state.State.{State}
use Rattle.cpupool.specs.Tool.{Tool, tool_of}
use Rattle.composition_laws.specs.WholeFirst.{first_tool_action}

-- whatever machine it knows in whatever state, no action of the tool may come at t
abbrev pub ToolRests : ℕ → Tool → Type 0
ToolRests t tool = (m : Machine) (s : State) → tool_of m s ≡ tool → first_tool_action m s t ≡ None
