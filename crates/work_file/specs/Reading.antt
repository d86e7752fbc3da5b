-- What a reader has read, and what it will have read behind more lines.
use Rattle.std.specs.Prelude.{◌≡◌, ◌≤◌, ℕ, List, ◌++◌, Option, Some, Result, Ok, Err, length}
use Rattle.std.specs.List.{All}
use Rattle.sched_model.specs.CheckedMachine.{IsCheckedWork}
use Rattle.sched_model.specs.declared.config.Config.{Config}
use Rattle.sched_model.specs.declared.work.Work.{Work}
use Rattle.sched_model.specs.declared.work.StallLine.{StallLine}
use Rattle.sched_model.specs.declared.work.CommandLine.{CommandLine}
use Rattle.work_file.specs.declared.fault.WorkCause.{WorkCause}
use Rattle.work_file.specs.declared.fault.WorkFault.{WorkFault}
use Rattle.work_file.specs.declared.fault.WorkFault.TheVariants.{NoMemory, Bad}
use Rattle.work_file.specs.declared.reading.Reading.{Reading}
use Rattle.work_file.specs.Lines.{Before, work_behind}

-- what stands before the next line
abbrev pub before : Reading → Before
before r = record { line = r.line; last = r.last.0; stalls = length r.stalls; commands = length r.commands }

-- the work behind these stalls and commands
abbrev pub joined_work : List StallLine → List CommandLine → Result Work WorkFault → Result Work WorkFault
joined_work stalls commands (Ok w) = Ok (record { stalls = stalls ++ w.stalls; commands = commands ++ w.commands })
joined_work stalls commands (Err fault) = Err fault

-- the work of what is read and of more lines, or the first fault
abbrev pub work_from : Config → Reading → List (List ℕ) → Result Work WorkFault
work_from config r lines = joined_work r.stalls r.commands (work_behind config (before r) lines)

-- the fault is that of the line with this number, unless memory was wanted
abbrev pub IsLineFault : WorkFault → ℕ → Option WorkCause → Type 0
IsLineFault NoMemory line fault = Unit {0}
IsLineFault (Bad at cause) line fault = (at ≡ line) × (fault ≡ Some cause)

-- what is read passes the checks, and nothing of it is later than the last moment
pub record IsCheckedReading (config : Config) (r : Reading) : Type 0 where
  pub work : IsCheckedWork config (record { stalls = r.stalls; commands = r.commands })
  pub stalls_before : All (λ (s : StallLine). s.at.0 ≤ r.last.0) r.stalls
  pub commands_before : All (λ (c : CommandLine). c.at.0 ≤ r.last.0) r.commands
