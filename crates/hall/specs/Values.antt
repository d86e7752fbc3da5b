-- What lies under a lock, as a part of the machine's state.
use Rattle.std.specs.Prelude.{ℕ}
use Rattle.std.specs.Option.{ForSome}
use Rattle.sched_model.specs.declared.machine.Machine.{Machine}
use Rattle.journal_core.specs.Parts.{StatePart, tool_part}
use Rattle.cpupool.specs.Tool.{Tool, KnowsMachine}
use Rattle.machine_parts.specs.Counts.{AreSpares}
use Rattle.machine_parts.specs.Places.{SlotSuits, slot_part}
use Rattle.machine_parts.specs.Spares.{Shelves}
use Rattle.hall.specs.declared.value.PartState.{PartState}
use Rattle.hall.specs.declared.value.PartState.TheVariants as value

-- the part that the value is
abbrev pub part_of_value : PartState → StatePart
part_of_value (value.Pool slot) = slot_part slot
part_of_value (value.Tool kept) = tool_part kept.value.tool.part

-- the tool knows the machine, and the spare pools are enough for the commands to come
pub record ToolSuits (m : Machine) (now : ℕ) (tool : Tool) (shelves : Shelves) : Type 0 where
  pub knows : KnowsMachine m tool
  pub spares : AreSpares m now tool.part shelves

-- what else holds of a value of this machine at a moment
abbrev pub suits_value : Machine → ℕ → PartState → Type 0
suits_value m now (value.Pool slot) = ForSome slot (SlotSuits m now)
suits_value m now (value.Tool kept) = ToolSuits m now kept.value.tool kept.value.spares
