-- What a seat knows of the values that it holds.
use Rattle.std.specs.Prelude.{ℕ, ◌≡◌, ◌≤◌, ◌<◌, List, Option, None, length}
use Rattle.std.specs.Option.{ForSome}
use Rattle.sched_model.specs.Places.{at_place}
use Rattle.journal_core.specs.Parts.{tool_lock, tool_part}
use Rattle.cpupool.specs.Tool.{Tool}
use Rattle.pool_core.specs.Seen.{Seen as PoolSeen}
use Rattle.machine_parts.specs.Places.{SlotSuits, slot_part}
use Rattle.machine_parts.specs.Spares.{Shelves}
use Rattle.lock_moves.specs.Sets.{IsAsKnown}
use Rattle.lock_moves.specs.SeatSight.{Seen, find_lock}
use Rattle.hall.specs.declared.all.AllParts.{AllParts}
use Rattle.hall.specs.Values.{ToolSuits}

-- the place of the pool k is the part and lists the names that the seat has for its lock, and suits the input and the moment
pub record KnowsPool (k : ℕ) (slot : Option PoolSeen) (v : Seen) : Type 0 where
  pub known : IsAsKnown k (slot_part slot) v
  pub suits : ForSome slot (SlotSuits v.input v.now)

-- the same of what the tool keeps
pub record KnowsTool (tool : Tool) (shelves : Shelves) (v : Seen) : Type 0 where
  pub known : IsAsKnown tool_lock (tool_part tool.part) v
  pub suits : ToolSuits v.input v.now tool shelves

-- the same of the places of the first pools, in their order
abbrev pub KnowsPools : List (Option PoolSeen) → Seen → Type 0
KnowsPools slots v = (k : ℕ) → k < length slots → KnowsPool k (at_place slots k) v

-- the same of all 17 values; the seat holds no lock beside theirs and the book's
pub record KnowsAll (all : AllParts) (v : Seen) : Type 0 where
  pub count : length all.slots.items ≡ 16
  pub pools : KnowsPools all.slots.items v
  pub tool : KnowsTool all.tool.value.tool all.tool.value.spares v
  pub others : (k : ℕ) → 18 ≤ k → find_lock k v.held ≡ None

-- what the seat knows of the places of the first n pools, it still knows
abbrev pub KnowsStill : ℕ → Seen → Seen → Type 0
KnowsStill n old new = (k : ℕ) (slot : Option PoolSeen) → k < n → KnowsPool k slot old → KnowsPool k slot new
