-- What the lines of the work file say together.
use Rattle.std.specs.Prelude.{◌≡◌, ℕ, ◌+◌, ◌-◌, ◌^◌, ◌==◌, List, [], ◌∷◌, Option, Some, None, Result, Ok, Err, min, nat_lt, if◌then◌else◌}
use Rattle.std.specs.Str.Lines.{lines}
use Rattle.sched_model.specs.declared.config.Config.{Config}
use Rattle.sched_model.specs.declared.work.Work.{Work}
use Rattle.sched_model.specs.declared.work.StallLine.{StallLine}
use Rattle.sched_model.specs.declared.work.CommandLine.{CommandLine}
use Rattle.work_file.specs.declared.fault.WorkCause.{WorkCause}
use Rattle.work_file.specs.declared.fault.WorkCause.TheVariants as cause
use Rattle.work_file.specs.declared.fault.WorkFault.{WorkFault}
use Rattle.work_file.specs.declared.fault.WorkFault.TheVariants.{NoMemory, Bad}
use Rattle.work_file.specs.declared.line.Line.{Line}
use Rattle.work_file.specs.declared.line.Line.TheVariants.{Silent, Stall, Command}
use Rattle.work_file.specs.Line.{line_of}

-- the number of the line after this one; the count stands still at the last number that it can have
abbrev pub next_line : ℕ → ℕ
next_line n = min (n + 1) (2 ^ 32 - 1)

-- what stands before a line: its number, the moment of the last line that says something (0 if there is none), and how many stalls and commands there are
pub record Before : Type 0 where
  pub line : ℕ
  pub last : ℕ
  pub stalls : ℕ
  pub commands : ℕ

-- a line that says something cannot stand here: its moment is before the last one, or there are as many of its kind as there may be
abbrev pub place_cause : ℕ → ℕ → ℕ → Option WorkCause
place_cause last count at = if nat_lt at last then Some cause.Order else (if count == 4096 then Some cause.Many else None)

-- the work with this stall in front
abbrev pub stall_in_front : StallLine → Result Work WorkFault → Result Work WorkFault
stall_in_front s (Ok w) = Ok (record w { stalls = s ∷ w.stalls })
stall_in_front s (Err fault) = Err fault

-- the work with this command in front
abbrev pub command_in_front : CommandLine → Result Work WorkFault → Result Work WorkFault
command_in_front c (Ok w) = Ok (record w { commands = c ∷ w.commands })
command_in_front c (Err fault) = Err fault

-- the work, or the fault that the line with this number has
abbrev pub unless : Option WorkCause → ℕ → Result Work WorkFault → Result Work WorkFault
unless None line work = work
unless (Some fault) line work = Err (Bad line fault)

-- what stands before the line that follows
abbrev pub after : Before → Result Line WorkCause → Before
after b (Err fault) = b
after b (Ok Silent) = record b { line = next_line b.line }
after b (Ok (Stall s)) = record b { line = next_line b.line; last = s.at.0; stalls = b.stalls + 1 }
after b (Ok (Command c)) = record b { line = next_line b.line; last = c.at.0; commands = b.commands + 1 }

-- the work of a line and of those behind it, or the fault of the line
abbrev pub with_line : Before → Result Line WorkCause → Result Work WorkFault → Result Work WorkFault
with_line b (Err fault) work = Err (Bad b.line fault)
with_line b (Ok Silent) work = work
with_line b (Ok (Stall s)) work = unless (place_cause b.last b.stalls s.at.0) b.line (stall_in_front s work)
with_line b (Ok (Command c)) work = unless (place_cause b.last b.commands c.at.0) b.line (command_in_front c work)

-- the work of lines that stand behind others, or the first fault
abbrev pub work_behind : Config → Before → List (List ℕ) → Result Work WorkFault
work_behind config b [] = Ok (record { stalls = []; commands = [] })
work_behind config b (line ∷ lines) = with_line b (line_of config line) (work_behind config (after b (line_of config line)) lines)

-- the work that the bytes say, or the first faulty line with its cause. Lines end with a newline, which one carriage return may precede; the last line may lack both
abbrev pub work_of : Config → List ℕ → Result Work WorkFault
work_of config bytes = work_behind config (record { line = 1; last = 0; stalls = 0; commands = 0 }) (lines bytes)

-- the answer is what the definition says, unless memory was wanted
abbrev pub IsFault : WorkFault → Result Work WorkFault → Type 0
IsFault NoMemory work = Unit {0}
IsFault (Bad line fault) work = work ≡ Err (Bad line fault)
