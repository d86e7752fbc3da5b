-- How many spare pools a machine needs.
use Rattle.std.specs.Prelude.{ℕ, suc, ◌≡◌, ◌≤◌, ◌+◌, Bool, false, List, [], ◌∷◌, Option, Some, None, Ok, Err, filter, unwrap_or, length, min, take, if◌then◌else◌}
use Rattle.sched_model.specs.declared.command.Command.{Command}
use Rattle.sched_model.specs.declared.command.Command.TheVariants as command
use Rattle.sched_model.specs.declared.config.PoolConfig.{PoolConfig}
use Rattle.sched_model.specs.declared.config.SchedKind.{SchedKind}
use Rattle.sched_model.specs.declared.config.SchedKind.TheVariants as kinds
use Rattle.sched_model.specs.declared.machine.Machine.{Machine}
use Rattle.sched_model.specs.declared.work.CommandLine.{CommandLine}
use Rattle.sched_model.specs.Commands.{is_same_kind}
use Rattle.sched_model.specs.Opening.{most_pools}
use Rattle.journal_core.specs.Parts.{Outline, ToolPart}
use Rattle.std.specs.List.{All}
use Rattle.machine_parts.specs.Spares.{IsSpare, Shelf, Shelves, shelf_of}

-- how many pools of the scheduler are in use, as the tool knows them
abbrev pub in_use_of : SchedKind → List (Option Outline) → ℕ
in_use_of kind [] = 0
in_use_of kind (None ∷ places) = in_use_of kind places
in_use_of kind (Some outline ∷ places) = (if is_same_kind kind outline.kind then suc (in_use_of kind places) else in_use_of kind places)

-- how many of the domain file's pools have the scheduler
abbrev pub configured_of : SchedKind → List PoolConfig → ℕ
configured_of kind pools = length (filter (λ (pool : PoolConfig). is_same_kind kind pool.kind) pools)

-- whether the command makes a pool of the scheduler: of Credit2 where it names none
abbrev pub is_made_by : SchedKind → Command → Bool
is_made_by kind (command.PoolCreate name given) = is_same_kind kind (unwrap_or given kinds.Credit2)
is_made_by kind _ = false

-- how many of the lines have such a command
abbrev pub makes_at : SchedKind → CommandLine → Bool
makes_at kind line = elim line.command [ Err fault ↦ false | Ok c ↦ is_made_by kind c ]

abbrev pub made_by : SchedKind → List CommandLine → ℕ
made_by kind lines = length (filter (makes_at kind) lines)

-- how many pools of the scheduler a machine has at once at most: 16, and no more than the domain file's and those that commands make
abbrev pub most_at_once : Machine → SchedKind → ℕ
most_at_once m kind = min most_pools (configured_of kind m.config.pools + made_by kind m.work.commands)

-- a pool is in use or spare: of each scheduler there are as many together as a machine has at once at most, and no more in use than the
-- domain file's and those that the commands so far made
pub record HasSpares (m : Machine) (kind : SchedKind) (part : ToolPart) (shelf : Shelf) : Type 0 where
  pub sum : in_use_of kind part.pools + length shelf.pools ≡ most_at_once m kind
  pub made : in_use_of kind part.pools ≤ configured_of kind m.config.pools + made_by kind (take part.next_command m.work.commands)
  pub capacity : most_at_once m kind ≤ shelf.capacity

-- the same of each scheduler, and every spare pool is one that a command of the machine may make
pub record AreSpares (m : Machine) (now : ℕ) (part : ToolPart) (shelves : Shelves) : Type 0 where
  pub counts : (kind : SchedKind) → HasSpares m kind part (shelf_of kind shelves)
  pub suit : (kind : SchedKind) → All (IsSpare m now kind) (shelf_of kind shelves).pools

-- as many pools of each scheduler are in use as before, and as many commands are over
pub record KeepsCounts (part next : ToolPart) : Type 0 where
  pub in_use : (kind : SchedKind) → in_use_of kind next.pools ≡ in_use_of kind part.pools
  pub commands : next.next_command ≡ part.next_command
